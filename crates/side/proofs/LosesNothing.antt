-- The definitions that say an answer and the end after it, and what a making gives, lose nothing.
-- Assumes nothing.
use Rattle.std.specs.Prelude.{Result, Ok, Err}
use mathlib.Core.Path.{◌≡◌, ap, sym}
use Rattle.frame.proofs.Laws.{gives_not, refuses_one}
use Rattle.frame.proofs.LosesNothing.{number_one, answer_one}
use Rattle.frame.specs.declared.number.Refusal.{Refusal}
use Rattle.side.specs.Given.{Given, given, making}
use Rattle.side.specs.Promises.{LosesNothing}

module _ {A E : Type 0} {g h : Given A E} where
  pub same_answer : g ≡ h → g.answer ≡ h.answer
  same_answer e = ap (λ (x : Given A E). x.answer) e

  pub same_end : g ≡ h → g.end ≡ h.end
  same_end e = ap (λ (x : Given A E). x.end) e

given_one : (A E : Type 0) (a b : Result A Refusal) (s t : E) → given a s ≡ given b t → (a ≡ b) × (s ≡ t)
given_one A E a b s t e = (answer_one a b (same_answer e), same_end e)

making_one : (E : Type 0) (blank : E) (a b : Result E Refusal) → making blank a ≡ making blank b → a ≡ b
making_one E blank (Ok s) (Ok t) e = ap Ok (same_end e)
making_one E blank (Ok s) (Err r) e = absurd (gives_not (same_answer e))
making_one E blank (Err r) (Ok s) e = absurd (gives_not (sym (same_answer e)))
making_one E blank (Err r) (Err q) e = ap Err (number_one r q (refuses_one (same_answer e)))

pub loses_nothing : LosesNothing
loses_nothing = record { given = given_one; making = making_one }
