-- The definitions that say an answer's number and values lose nothing.
-- Assumes nothing.
use Rattle.std.specs.Prelude.{Result, Ok, Err}
use Prim.Native.Nat.{ℕ}
use mathlib.Core.Path.{◌≡◌, ◌∙◌, refl, ap, sym}
use mathlib.Core.Bool.{false}
use lib.Dec.{eqb}
use borrow.Author.Tests.{eqb-false}
use Rattle.frame.specs.Pick.{pick}
use Rattle.frame.specs.Answer.{number_of, answer, refusal_in}
use Rattle.frame.specs.Promises.{LosesNothing}
use Rattle.frame.specs.declared.number.Refusal.{Refusal}
use Rattle.frame.specs.declared.number.Refusal.TheVariants.{NoContent, BitCount, FiveOnesAtEnd, NotWholeBytes, TooFewBytes, TooManyBytes, CheckWord, Address, Control, Information, Output, LengthByte, StillHeld, SlotEmpty, Limit, NoOrderWaits, OrderWaits, Record, OtherAddress, End}

-- the refusal of a number, where there is one
abbrev refusal_at : ℕ → Refusal
refusal_at n = pick (eqb n 1) NoContent (pick (eqb n 2) BitCount (pick (eqb n 3) FiveOnesAtEnd (pick (eqb n 4) NotWholeBytes (pick (eqb n 5) TooFewBytes (pick (eqb n 6) TooManyBytes (pick (eqb n 7) CheckWord (pick (eqb n 8) Address (pick (eqb n 9) Control (pick (eqb n 10) Information (pick (eqb n 11) Output (pick (eqb n 12) LengthByte (pick (eqb n 13) StillHeld (pick (eqb n 14) SlotEmpty (pick (eqb n 15) Limit (pick (eqb n 16) NoOrderWaits (pick (eqb n 17) OrderWaits (pick (eqb n 18) Record (pick (eqb n 19) OtherAddress End))))))))))))))))))

-- the number leads back to the refusal
back : (r : Refusal) → refusal_at (number_of r) ≡ r
back NoContent = refl
back BitCount = refl
back FiveOnesAtEnd = refl
back NotWholeBytes = refl
back TooFewBytes = refl
back TooManyBytes = refl
back CheckWord = refl
back Address = refl
back Control = refl
back Information = refl
back Output = refl
back LengthByte = refl
back StillHeld = refl
back SlotEmpty = refl
back Limit = refl
back NoOrderWaits = refl
back OrderWaits = refl
back Record = refl
back OtherAddress = refl
back End = refl

-- a refusal's number is not 0
pub refused : (r : Refusal) → eqb (number_of r) 0 ≡ false
refused NoContent = refl
refused BitCount = refl
refused FiveOnesAtEnd = refl
refused NotWholeBytes = refl
refused TooFewBytes = refl
refused TooManyBytes = refl
refused CheckWord = refl
refused Address = refl
refused Control = refl
refused Information = refl
refused Output = refl
refused LengthByte = refl
refused StillHeld = refl
refused SlotEmpty = refl
refused Limit = refl
refused NoOrderWaits = refl
refused OrderWaits = refl
refused Record = refl
refused OtherAddress = refl
refused End = refl

not_zero : (r : Refusal) → number_of r ≡ 0 → ⊥
not_zero r e = eqb-false (number_of r) 0 (refused r) e

pub number_one : (a b : Refusal) → number_of a ≡ number_of b → a ≡ b
number_one a b e = sym (back a) ∙ ap refusal_at e ∙ back b

module _ {A : Type 0} where
  pub answer_one : (a b : Result A Refusal) → answer a ≡ answer b → a ≡ b
  answer_one (Ok v) (Ok w) e = let same : v ≡ w = cc in ap Ok same
  answer_one (Ok v) (Err r) e = cc
  answer_one (Err r) (Ok v) e = cc
  answer_one (Err r) (Err q) e = let same : number_of r ≡ number_of q = cc in ap Err (number_one r q same)

pub refusal_one : (a b : Result (Unit {0}) Refusal) → refusal_in a ≡ refusal_in b → a ≡ b
refusal_one (Ok v) (Ok w) e = refl
refusal_one (Ok v) (Err r) e = absurd (not_zero r (sym e))
refusal_one (Err r) (Ok v) e = absurd (not_zero r e)
refusal_one (Err r) (Err q) e = ap Err (number_one r q e)

pub loses_nothing : LosesNothing
loses_nothing = record { number = number_one; refused = not_zero; answer = answer_one; refusal = refusal_one }
