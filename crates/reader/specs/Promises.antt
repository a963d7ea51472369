-- What is promised of the reader beside its contract. The proofs stand in proofs/Answers.
use Rattle.std.specs.Prelude.{ℕ, ◌≡◌, List, [], ◌∷◌, length, Result}
use Rattle.frame.specs.Answer.{Lists, answer}
use Rattle.frame.specs.declared.number.Refusal.{Refusal}
use Rattle.reader.specs.Read.{read_of, told, out_after}
use Rattle.frame.specs.declared.Line.{Line}

-- "A number outside a call's list is not given by that call."
abbrev pub ReadNumbers : Type 0
ReadNumbers = (buffer : List ℕ) (bits room : ℕ) → Lists (2 ∷ 1 ∷ 3 ∷ 4 ∷ 5 ∷ 6 ∷ 7 ∷ 8 ∷ 9 ∷ 10 ∷ 12 ∷ 11 ∷ []) (told (read_of buffer bits room))

-- the definition that lists the number and the values of each answer loses nothing
abbrev pub ReadLosesNothing : Type 0
ReadLosesNothing = (r s : Result Line Refusal) → answer r ≡ answer s → r ≡ s

-- an outcome of a reading that its contract allows: the answer, and the lent output afterwards
pub record ReadAllowed (buffer : List ℕ) (bits : ℕ) (out : List ℕ) (r : Result Line Refusal) (after : List ℕ) : Type 0 where
  pub answer : answer r ≡ told (read_of buffer bits (length out))
  pub information : after ≡ out_after (read_of buffer bits (length out)) out
