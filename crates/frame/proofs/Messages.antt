-- What the message check tells of a message that it passes, and 10 and 12 of the information that they let pass.
-- Assumes nothing.
use Prim.Native.Nat.{ℕ, ◌+◌, ◌-◌, ◌≤◌}
use mathlib.Core.Path.{◌≡◌}
use mathlib.Core.List.{List, [], ◌∷◌, ◌++◌}
use native.Mathlib.Omega.{arith}
use lib.Dec.{eqb, ltb}
use lib.ListN.{length, get_or, length-append}
use lib.Seq.{take_at}
use borrow.Author.Tests.{ltb-false, eqb-true, le-ltb, eq-eqb}
use Rattle.frame.specs.Message.{message_refusal, information_in}
use Rattle.frame.specs.Refusal.{none_refusal, information_refusal}
use Rattle.frame.specs.declared.Meaning.{Meaning}
use Rattle.frame.specs.declared.Meaning.TheVariants.{I, Rr, Rnr, Snrm, Disc, Ua, Frmr}
use Rattle.frame.specs.Promises.{Right, MessageRight, DataSize, Part}
use Rattle.frame.proofs.Laws.{pick_first, pick_second}

passed : (m : List ℕ) → message_refusal m ≡ 0 → Right m
unfolding message_refusal
passed m e =
    let few = pick_second (ltb (length m) 5) _ _ 0 e (λ z. omega arith) in
    let many = pick_second (ltb 253 (length m)) _ _ 0 few.1 (λ z. omega arith) in
    let byte = pick_first (eqb (get_or m 0 0) (length m + 2)) _ _ 0 many.1 (λ z. omega arith) in
    (ltb-false (length m) 5 few.0, ltb-false 253 (length m) many.0, eqb-true (get_or m 0 0) (length m + 2) byte.0)

passes : (m : List ℕ) → Right m → message_refusal m ≡ 0
unfolding message_refusal
passes m r = rw (le-ltb _ _ r.0, le-ltb _ _ r.1, eq-eqb _ _ r.2)

pub message_right : MessageRight
message_right m = (passed m, passes m)

pub data_size : DataSize
data_size m e = let r = passed m e in omega arith

pub part : Part
unfolding information_in
part address control information low high =
    take_at information (low ∷ high ∷ []) (length (address ∷ control ∷ information ++ (low ∷ high ∷ [])) - 4)
    (omega (arith, length-append information (low ∷ high ∷ [])))

-- a frame that may have no information and is not refused by 10 has none
pub none_empty : (info : List ℕ) → none_refusal info ≡ 0 → length info ≡ 0
unfolding none_refusal
none_empty info e = eqb-true (length info) 0 (pick_first (eqb (length info) 0) 0 10 0 e (λ z. omega arith)).0

none_few : (info : List ℕ) → none_refusal info ≡ 0 → length info ≤ 253
none_few info e = let none = none_empty info e in omega arith

-- information that is not refused is at most 253 bytes
pub information_few : (m : Meaning) (info : List ℕ) → information_refusal m info ≡ 0 → length info ≤ 253
unfolding information_refusal
information_few (I ns nr) info e = (passed info e).1
information_few (Rr nr) info e = none_few info e
information_few (Rnr nr) info e = none_few info e
information_few Snrm info e = none_few info e
information_few Disc info e = none_few info e
information_few Ua info e = none_few info e
information_few Frmr info e = none_few info e
