-- Each call gives the numbers of its list and no other.
-- Assumes nothing.
use Prim.Native.Nat.{ℕ, ◌+◌}
use mathlib.Core.Path.{refl}
use mathlib.Core.List.Memᴰ.{head as here}
use mathlib.Core.List.Memᴰ.{tail as there}
use mathlib.Core.List.{List, [], ◌∷◌}
use lib.Dec.{eqb, ltb}
use lib.ListN.{length, get_or}
use Rattle.frame.specs.Answer.{Answer, Among, Lists}
use Rattle.frame.specs.Control.{known, look, byte_of, decode_of, encode_of, count_refusal, counts_refusal}
use Rattle.frame.specs.Message.{message_refusal, check_of}
use Rattle.frame.specs.Refusal.{address_refusal, none_refusal, information_refusal, frame_refusal}
use Rattle.frame.specs.Promises.{Numbers}
use Rattle.frame.specs.declared.Meaning.{Meaning}
use Rattle.frame.specs.declared.Meaning.TheVariants.{I, Rr, Rnr, Snrm, Disc, Ua, Frmr}
use Rattle.frame.proofs.Laws.{pick_both, pick_among, then_among, unless_lists}

address_numbers : (a : ℕ) → Among (address_refusal a) (0 ∷ 8 ∷ [])
unfolding address_refusal
address_numbers a =
    pick_among (ltb a 1) (there (here refl)) (pick_among (ltb 250 a) (there (here refl)) (here refl))

count_numbers : (n : ℕ) → Among (count_refusal n) (0 ∷ 9 ∷ [])
count_numbers n = pick_among (ltb 7 n) (there (here refl)) (here refl)

counts_numbers : (m : Meaning) → Among (counts_refusal m) (0 ∷ 9 ∷ [])
unfolding counts_refusal
counts_numbers (I ns nr) =
    pick_among (eqb (count_refusal ns.0) 0) (count_numbers nr.0) (count_numbers ns.0)
counts_numbers (Rr nr) = count_numbers nr.0
counts_numbers (Rnr nr) = count_numbers nr.0
counts_numbers Snrm = here refl
counts_numbers Disc = here refl
counts_numbers Ua = here refl
counts_numbers Frmr = here refl

pub message_numbers : (m : List ℕ) → Among (message_refusal m) (0 ∷ 10 ∷ 12 ∷ [])
unfolding message_refusal
message_numbers m =
    pick_among (ltb (length m) 5) (there (here refl))
    (pick_among (ltb 253 (length m)) (there (here refl))
    (pick_among (eqb (get_or m 0 0) (length m + 2)) (here refl)
    (there (there (here refl)))))

none_numbers : (info : List ℕ) → Among (none_refusal info) (0 ∷ 10 ∷ 12 ∷ [])
unfolding none_refusal
none_numbers info = pick_among (eqb (length info) 0) (here refl) (there (here refl))

information_numbers : (m : Meaning) (info : List ℕ) → Among (information_refusal m info) (0 ∷ 10 ∷ 12 ∷ [])
unfolding information_refusal
information_numbers (I ns nr) info = message_numbers info
information_numbers (Rr nr) info = none_numbers info
information_numbers (Rnr nr) info = none_numbers info
information_numbers Snrm info = none_numbers info
information_numbers Disc info = none_numbers info
information_numbers Ua info = none_numbers info
information_numbers Frmr info = none_numbers info

look_numbers : (b : ℕ) (ms : List Meaning) → Lists (9 ∷ []) (look b ms)
look_numbers b [] = here refl
look_numbers b (m ∷ ms) = pick_both (λ (x : Answer Meaning). Lists (9 ∷ []) x) (eqb b (byte_of m)) _ _ tt (look_numbers b ms)

pub numbers : Numbers
unfolding decode_of encode_of check_of frame_refusal
numbers =
    record {
      decode = λ b. look_numbers b known;
      encode = λ m. unless_lists (byte_of m) (counts_numbers m);
      check = λ m. unless_lists tt (message_numbers m);
      address = address_numbers;
      counts = counts_numbers;
      information = information_numbers;
      frame = λ m info. then_among (9 ∷ []) (10 ∷ 12 ∷ []) (counts_numbers m) (information_numbers m info);
    }
