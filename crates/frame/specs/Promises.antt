-- What is promised of this room beside each function's contract. The proofs stand in proofs/ControlBytes, Messages, Numbers and LosesNothing.
use Rattle.std.specs.Prelude.{ℕ, zero, suc, ◌+◌, ◌-◌, ◌≤◌, ◌≡◌, ◌↔◌, List, [], ◌∷◌, ◌++◌, length, get_or, Result}
use Rattle.frame.specs.Answer.{Answer, gives, refuses, number_of, answer, refusal_in, Among, Lists}
use Rattle.frame.specs.Control.{counts_refusal, encode_of, decode_of}
use Rattle.frame.specs.Message.{message_refusal, information_in, check_of}
use Rattle.frame.specs.Refusal.{address_refusal, information_refusal, frame_refusal}
use Rattle.frame.specs.declared.Meaning.{Meaning}
use Rattle.frame.specs.declared.number.Refusal.{Refusal}

abbrev one_if_known : Answer Meaning → ℕ
one_if_known (gives m) = 1
one_if_known (refuses n) = 0

-- how many of the bytes below n are known
abbrev pub known_below : ℕ → ℕ
known_below zero = 0
known_below (suc n) = one_if_known (decode_of n) + known_below n

-- "84 bytes are known and 172 refused"
abbrev pub Known84 : Type 0
Known84 = (known_below 256 ≡ 84) × (256 - known_below 256 ≡ 172)

-- what is encoded is decoded to the same meaning, and what is decoded is encoded to the same byte
abbrev pub RoundTrip : Type 0
RoundTrip =
    ((m : Meaning) (b : ℕ) → encode_of m ≡ gives b → decode_of b ≡ gives m)
    × ((b : ℕ) (m : Meaning) → decode_of b ≡ gives m → encode_of m ≡ gives b)

-- a message that is not refused: 5 to 253 bytes, the first of them the size plus 2, which is the size of the data plus 7
abbrev pub Right : List ℕ → Type 0
Right m = (5 ≤ length m) × (length m ≤ 253) × (get_or m 0 0 ≡ length m + 2)

abbrev pub MessageRight : Type 0
MessageRight = (m : List ℕ) → message_refusal m ≡ 0 ↔ Right m

abbrev pub DataSize : Type 0
DataSize = (m : List ℕ) → message_refusal m ≡ 0 → get_or m 0 0 ≡ (length m - 5) + 7

-- the message check is given a part that starts in the frame's middle: the information of address, control, information, check word
abbrev pub Part : Type 0
Part = (address control : ℕ) (information : List ℕ) (low high : ℕ) → information_in (address ∷ control ∷ information ++ (low ∷ high ∷ [])) ≡ information

-- "A number outside a call's list is not given by that call."
pub record Numbers : Type 0 where
  pub decode : (b : ℕ) → Lists (9 ∷ []) (decode_of b)
  pub encode : (m : Meaning) → Lists (9 ∷ []) (encode_of m)
  pub check : (m : List ℕ) → Lists (10 ∷ 12 ∷ []) (check_of m)
  pub address : (a : ℕ) → Among (address_refusal a) (0 ∷ 8 ∷ [])
  pub counts : (m : Meaning) → Among (counts_refusal m) (0 ∷ 9 ∷ [])
  pub information : (m : Meaning) (info : List ℕ) → Among (information_refusal m info) (0 ∷ 10 ∷ 12 ∷ [])
  pub frame : (m : Meaning) (info : List ℕ) → Among (frame_refusal m info) (0 ∷ 9 ∷ 10 ∷ 12 ∷ [])

-- the definitions that say an answer's number and values lose nothing: no two refusals have one number, and none has 0
pub record LosesNothing : Type 1 where
  pub number : (a b : Refusal) → number_of a ≡ number_of b → a ≡ b
  pub refused : (a : Refusal) → number_of a ≡ 0 → ⊥
  pub answer : {A : Type 0} (a b : Result A Refusal) → answer a ≡ answer b → a ≡ b
  pub refusal : (a b : Result (Unit {0}) Refusal) → refusal_in a ≡ refusal_in b → a ≡ b
