-- Each call gives the numbers of its list and no other.
-- Assumes nothing.
use Prim.Native.Nat.{ℕ}
use mathlib.Core.Path.{refl}
use mathlib.Core.List.Memᴰ.{head as here}
use mathlib.Core.List.Memᴰ.{tail as there}
use mathlib.Core.List.{List, [], ◌∷◌}
use lib.Dec.{eqb}
use Rattle.frame.specs.Answer.{Among}
use Rattle.frame.specs.Refusal.{address_refusal}
use Rattle.frame.specs.declared.Meaning.{Meaning}
use Rattle.frame.proofs.Laws.{pick_among, then_among, then_both}
use Rattle.frame.proofs.Numbers.{numbers as frame-numbers}
use Rattle.side.specs.Right.{address_wrong}
use Rattle.side.proofs.Calls.{refusing_lists}
use Rattle.side.proofs.Numbers.{numbers as side-numbers, address_wrong_numbers, room_numbers}
use Rattle.slave.specs.Slave.{slave_wrong, blank, make_of, put_of, take_of, restart_of, clear_of}
use Rattle.slave.specs.Step.{other_refusal, step_refusal, step_of}
use Rattle.slave.specs.Promises.{Numbers}
use Rattle.slave.specs.declared.Slave.{Slave}

wrong_numbers : (s : Slave) → Among (slave_wrong s) (0 ∷ 30 ∷ [])
unfolding slave_wrong
wrong_numbers s = then_both (address_wrong_numbers [] s.address) (side-numbers.wrong s.side)

other_numbers : (own a : ℕ) → Among (other_refusal own a) (0 ∷ 19 ∷ [])
other_numbers own a = pick_among (eqb a own) (here refl) (there (here refl))

step_numbers : (s : Slave) (a : ℕ) (f : Meaning) (m : List ℕ) (room : ℕ) → Among (step_refusal s a f m room) (0 ∷ 30 ∷ 11 ∷ 9 ∷ 10 ∷ 12 ∷ 19 ∷ [])
unfolding step_refusal
step_numbers s a f m room =
    then_among (30 ∷ []) (11 ∷ 9 ∷ 10 ∷ 12 ∷ 19 ∷ []) (wrong_numbers s)
    (then_among (11 ∷ []) (9 ∷ 10 ∷ 12 ∷ 19 ∷ []) (room_numbers room)
    (then_among (9 ∷ 10 ∷ 12 ∷ []) (19 ∷ []) (frame-numbers.frame f m) (other_numbers s.address a)))

pub numbers : Numbers
unfolding make_of put_of take_of step_of restart_of clear_of
numbers =
    record {
      wrong = wrong_numbers;
      make = λ a. refusing_lists (8 ∷ []) (address_refusal a) blank _ (frame-numbers.address a) tt;
      put = λ s m. refusing_lists (30 ∷ 10 ∷ 12 ∷ 13 ∷ []) (address_wrong s.address) s _ (address_wrong_numbers (10 ∷ 12 ∷ 13 ∷ []) s.address) (side-numbers.put s.side m);
      take = λ s room. refusing_lists (30 ∷ 14 ∷ 11 ∷ []) (address_wrong s.address) s _ (address_wrong_numbers (14 ∷ 11 ∷ []) s.address) (side-numbers.take s.side room);
      step = λ s a f m room. refusing_lists (30 ∷ 11 ∷ 9 ∷ 10 ∷ 12 ∷ 19 ∷ []) (step_refusal s a f m room) s _ (step_numbers s a f m room) tt;
      restart = λ s. refusing_lists (30 ∷ []) (slave_wrong s) s _ (wrong_numbers s) tt;
      clear = λ s. refusing_lists (30 ∷ []) (slave_wrong s) s _ (wrong_numbers s) tt;
    }
