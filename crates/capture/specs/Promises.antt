-- What is promised of this room beside each function's contract. The proofs stand in proofs/Numbers, LosesNothing and AnExample.
use Rattle.std.specs.Prelude.{ℕ, ◌≡◌, List, [], ◌∷◌, Option, Result}
use Rattle.frame.specs.Answer.{gives, Lists}
use Rattle.frame.specs.declared.Meaning.TheVariants.{I}
use Rattle.frame.specs.declared.number.Refusal.{Refusal}
use Rattle.capture.specs.declared.records.Record.{Record}
use Rattle.capture.specs.Record.{order, silence, entry, found, record_at}

-- "Refusal 18: ..; then 8, 9, 10, 12 for bodies."
abbrev pub record_numbers : List ℕ
record_numbers = 18 ∷ 8 ∷ 9 ∷ 10 ∷ 12 ∷ []

-- "A number outside a call's list is not given by that call."
abbrev pub Numbers : Type 0
Numbers = (capture : List ℕ) (at : ℕ) → Lists record_numbers (record_at capture at)

-- the definition that lists an answer's number and values loses nothing
abbrev pub LosesNothing : Type 0
LosesNothing = (a b : Result (Option Record) Refusal) → found a ≡ found b → a ≡ b

-- the third and the fourth record of the worked input: an I frame with both counts 0 and five bytes, and a silence
abbrev pub Worked : Type 0
Worked =
    let capture : List ℕ = 0x0B ∷ 0x00 ∷ 0x01 ∷ 0x00 ∷ 0x05 ∷ 0x10 ∷ 0x07 ∷ 0x00 ∷ 0x05 ∷ 0x31 ∷ 0x01 ∷ 0x04 ∷ 0x00 ∷ 0x03 ∷ 0x00 ∷ [] in
    (record_at capture 0 ≡ gives (entry (order (record { address = 5; meaning = I (record { 0 = 0 }) (record { 0 = 0 }); size = 5 })) 11))
    × (record_at capture 11 ≡ gives (entry silence 15))
