-- Two outcomes are equal where their answers are and what they leave in lent memory is.
-- Assumes nothing.
use Prim.Native.Nat.{ℕ}
use mathlib.Core.Path.{◌≡◌, sym, ◌∙◌}
use mathlib.Core.List.{List}
use contract.Lifetimes.{Lfts}
use borrow.Fn.Kinds.{ParamKind, ResultKind, Dens}
use Rattle.paper.specs.Outcome.{Outcome}

pub both : {n : ℕ} {ps : List (ParamKind n)} {r : ResultKind n} {κs : Lfts n} {a : Dens κs ps} {o u : Outcome ps r κs a} → o.answer ≡ u.answer → o.lent ≡ u.lent → o ≡ u
both p q i = record { answer = p i; lent = q i }

-- two that equal a third
pub meets : {A : Type 0} {a b c : A} → a ≡ c → b ≡ c → a ≡ b
meets p q = p ∙ sym q
