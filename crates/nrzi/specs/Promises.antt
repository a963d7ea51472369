-- What is promised of NRZI beside each function's contract. The proofs stand in proofs/Kept.antt.
use Rattle.std.specs.Prelude.{ℕ, ◌≡◌, Bool, true, false, Result, List, [], ◌∷◌, length, take, drop}
use Rattle.frame.specs.Answer.{answer, Lists}
use Rattle.frame.specs.declared.number.Refusal.{Refusal}
use Rattle.bits.specs.Bits.{bits_of}
use Rattle.nrzi.specs.Nrzi.{coding, nrzi_refusal, code_of, code_bytes}

-- decode after encode and encode after decode give back what went in
abbrev pub ThereAndBack : Type 0
ThereAndBack = (l : Bool) (bs : List Bool) → (coding true l (coding false l bs) ≡ bs) × (coding false l (coding true l bs) ≡ bs)

-- the lent output after a call that is not refused: its first bits are the coded ones, and "the other bits of the lent output stay"
abbrev pub OutputBits : Type 0
OutputBits =
    (back l : Bool) (input : List ℕ) (bits : ℕ) (out : List ℕ) → nrzi_refusal bits (length input) (length out) ≡ 0
    → (take bits (bits_of (code_bytes back l input bits out)) ≡ coding back l (take bits (bits_of input)))
    × (drop bits (bits_of (code_bytes back l input bits out)) ≡ drop bits (bits_of out))

-- "NRZI: 2, 11"
abbrev pub Numbers : Type 0
Numbers = (back l : Bool) (input : List ℕ) (bits room : ℕ) → Lists (2 ∷ 11 ∷ []) (code_of back l input bits room)

-- the definition that lists an answer's number and values loses nothing
abbrev pub LosesNothing : Type 0
LosesNothing = (a b : Result Bool Refusal) → answer a ≡ answer b → a ≡ b
