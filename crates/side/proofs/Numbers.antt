-- Each call gives the numbers of its list and no other.
-- Assumes nothing.
use Prim.Native.Nat.{ℕ}
use mathlib.Core.Path.{refl}
use mathlib.Core.Bool.{Bool}
use mathlib.Core.List.Memᴰ.{head as here}
use mathlib.Core.List.Memᴰ.{tail as there}
use mathlib.Core.List.{List, [], ◌∷◌}
use lib.Dec.{eqb, ltb}
use lib.ListN.{take}
use Rattle.frame.specs.Answer.{Among}
use Rattle.frame.specs.Message.{message_refusal}
use Rattle.frame.specs.Refusal.{address_refusal, information_refusal}
use Rattle.frame.specs.declared.Meaning.TheVariants.{I}
use Rattle.frame.proofs.Laws.{pick_among, then_among, then_both}
use Rattle.frame.proofs.Numbers.{message_numbers}
use Rattle.side.specs.Right.{count_wrong, slot_wrong, sent_wrong, side_wrong, address_wrong}
use Rattle.side.specs.Slot.{held_refusal, put_refusal, put_of, waits_refusal, take_refusal, take_of, room_refusal}
use Rattle.side.specs.Promises.{Numbers}
use Rattle.side.specs.declared.Side.{Side}
use Rattle.side.proofs.Calls.{refusing_lists}

count_numbers : (n : ℕ) → Among (count_wrong n) (0 ∷ 30 ∷ [])
count_numbers n = pick_among (ltb 7 n) (there (here refl)) (here refl)

slot_numbers : (slot : List ℕ) (n : ℕ) → Among (slot_wrong slot n) (0 ∷ 30 ∷ [])
unfolding slot_wrong
slot_numbers slot n =
    pick_among (eqb n 0) (here refl)
    (pick_among (ltb 253 n) (there (here refl))
    (pick_among (eqb (message_refusal (take n slot)) 0) (here refl)
    (there (here refl))))

sent_numbers : (sent : Bool) (n : ℕ) → Among (sent_wrong sent n) (0 ∷ 30 ∷ [])
sent_numbers sent n = pick_among sent (pick_among (eqb n 0) (there (here refl)) (here refl)) (here refl)

wrong_numbers : (s : Side) → Among (side_wrong s) (0 ∷ 30 ∷ [])
unfolding side_wrong
wrong_numbers s =
    then_both (count_numbers s.ns.0)
    (then_both (count_numbers s.nr.0)
    (then_both (slot_numbers s.held s.holds)
    (then_both (slot_numbers s.incoming s.waits)
    (sent_numbers s.sent s.holds))))

held_numbers : (n : ℕ) → Among (held_refusal n) (0 ∷ 13 ∷ [])
held_numbers n = pick_among (eqb n 0) (here refl) (there (here refl))

put_numbers : (s : Side) (m : List ℕ) → Among (put_refusal s m) (0 ∷ 30 ∷ 10 ∷ 12 ∷ 13 ∷ [])
unfolding put_refusal
put_numbers s m =
    then_among (30 ∷ []) (10 ∷ 12 ∷ 13 ∷ []) (wrong_numbers s) (then_among (10 ∷ 12 ∷ []) (13 ∷ []) (message_numbers m) (held_numbers s.holds))

waits_numbers : (waits room : ℕ) → Among (waits_refusal waits room) (0 ∷ 14 ∷ 11 ∷ [])
waits_numbers waits room =
    pick_among (eqb waits 0) (there (here refl)) (pick_among (ltb room waits) (there (there (here refl))) (here refl))

take_numbers : (s : Side) (room : ℕ) → Among (take_refusal s room) (0 ∷ 30 ∷ 14 ∷ 11 ∷ [])
unfolding take_refusal
take_numbers s room = then_among (30 ∷ []) (14 ∷ 11 ∷ []) (wrong_numbers s) (waits_numbers s.waits room)

-- numbers that both ends add: 30 of the address, and 11 of the buffer that an order or a step is lent
pub address_wrong_numbers : (ks : List ℕ) (a : ℕ) → Among (address_wrong a) (0 ∷ 30 ∷ ks)
unfolding address_wrong
address_wrong_numbers ks a = pick_among (eqb (address_refusal a) 0) (here refl) (there (here refl))

pub room_numbers : (room : ℕ) → Among (room_refusal room) (0 ∷ 11 ∷ [])
room_numbers room = pick_among (ltb room 253) (there (here refl)) (here refl)

pub numbers : Numbers
unfolding put_of take_of
numbers =
    record {
      wrong = wrong_numbers;
      put = λ s m. refusing_lists (30 ∷ 10 ∷ 12 ∷ 13 ∷ []) (put_refusal s m) s _ (put_numbers s m) tt;
      take = λ s room. refusing_lists (30 ∷ 14 ∷ 11 ∷ []) (take_refusal s room) s _ (take_numbers s room) tt;
    }
