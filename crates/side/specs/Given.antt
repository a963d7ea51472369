-- What a call that is handed an end gives back: its answer and the end, by one equation.
use Rattle.std.specs.Prelude.{ℕ, eqb, Result, Ok, Err}
use Rattle.frame.specs.Pick.{pick}
use Rattle.frame.specs.Answer.{Answer, gives, refuses, number_of, answer}
use Rattle.frame.specs.declared.number.Refusal.{Refusal}

pub record Given (A E : Type 0) : Type 0 where
  pub answer : Answer A
  pub end : E

-- the values, and the end after the call
abbrev pub giving : {A E : Type 0} → A → E → Given A E
giving v e = record { answer = gives v; end = e }

-- a number, and the end as it was handed in
abbrev pub refused : {A E : Type 0} → ℕ → E → Given A E
refused n e = record { answer = refuses n; end = e }

-- 01, "Numbers given back": "Each returns its number and nothing else; links and lent buffers are unchanged" (0: nothing is refused)
abbrev pub refusing : {A E : Type 0} → ℕ → E → Given A E → Given A E
refusing n e g = pick (eqb n 0) g (refused n e)

-- what a part of an end gives, given by the whole end
abbrev pub lifted : {A E F : Type 0} → (E → F) → Given A E → Given A F
lifted f g = record { answer = g.answer; end = f g.end }

-- how many bytes of the lent buffer an answer that gives a size writes: a refusal writes none
abbrev pub size_given : {A : Type 0} → (A → ℕ) → Answer A → ℕ
size_given size (gives v) = size v
size_given size (refuses n) = 0

-- the answer that the code gives, and the end as the call leaves it
abbrev pub given : {A E : Type 0} → Result A Refusal → E → Given A E
given r e = record { answer = answer r; end = e }

-- an end that is made, or the number and no end: the blank one stands for it in the definition
abbrev pub making : {E : Type 0} → E → Result E Refusal → Given (Unit {0}) E
making blank (Ok e) = giving tt e
making blank (Err r) = refused (number_of r) blank
