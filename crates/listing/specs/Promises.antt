-- What is promised of this room beside each function's contract. The proofs stand in proofs/AnExample, Numbers, LosesNothing, Lines, Bound, Least and Digits.
use Rattle.std.specs.Prelude.{ℕ, zero, suc, ◌+◌, ◌*◌, ◌-◌, ◌≤◌, ◌≡◌, List, [], ◌∷◌, Result, Ok, length, get_or}
use Rattle.frame.specs.Answer.{Lists, answer}
use Rattle.frame.specs.declared.number.Refusal.{Refusal}
use Rattle.listing.specs.Text.{ascii}
use Rattle.listing.specs.Decimal.{decimal}
use Rattle.listing.specs.Listing.{lines_from, header, listing, list_of}

-- "A number outside a call's list is not given by that call."
abbrev pub Numbers : Type 0
Numbers = (capture : List ℕ) (room : ℕ) → Lists (11 ∷ []) (list_of capture room)

-- the definition that lists an answer's number and values loses nothing
abbrev pub LosesNothing : Type 0
LosesNothing = (a b : Result ℕ Refusal) → answer a ≡ answer b → a ≡ b

-- the number that digits in ASCII say, after one that came before them
abbrev pub value : ℕ → List ℕ → ℕ
value before [] = before
value before (digit ∷ digits) = value (10 * before + (digit - 48)) digits

-- "Decimal numbers": the digits say the number, and only 0 begins with a zero
abbrev pub Decimals : Type 0
Decimals = (n : ℕ) → (value 0 (decimal n) ≡ n) × (get_or (decimal n) 0 0 ≡ 48 → n ≡ 0)

-- the bound in `lines_from` does not matter: any that reaches the capture's end gives the same lines
abbrev pub Bounds : Type 0
Bounds =
    (a b : ℕ) (capture : List ℕ) (n at : ℕ) → length capture ≤ at + a → length capture ≤ at + b → lines_from a capture n at ≡ lines_from b capture n at

-- no listing is longer than 283,838 bytes, and so a lent output of that size is never refused
abbrev pub Suffices : Type 0
Suffices = (capture : List ℕ) → length (listing capture) ≤ 283838

abbrev pub NeverRefused : Type 0
NeverRefused = (capture : List ℕ) (room : ℕ) (given : Result ℕ Refusal) → 283838 ≤ room → answer given ≡ list_of capture room → given ≡ Ok (length (listing capture))

-- n silences before other bytes
unfoldable pub silences : ℕ → List ℕ → List ℕ
silences zero rest = rest
silences (suc n) rest = 4 ∷ 0 ∷ 3 ∷ 0 ∷ silences n rest

-- SNRM to station 250, and two bytes that are no record
abbrev pub two_after_snrm : List ℕ
two_after_snrm = 6 ∷ 0 ∷ 1 ∷ 0 ∷ 250 ∷ 0x93 ∷ 0 ∷ 0 ∷ []

-- no smaller size suffices: a capture of 65,536 bytes has a listing of exactly that size
abbrev pub Least : Type 0
Least = (length (silences 16382 two_after_snrm) ≡ 65536) × (length (listing (silences 16382 two_after_snrm)) ≡ 283838)

-- "Input, in hex: .. Output, whole: .."
abbrev pub Worked : Type 0
Worked =
    listing (
    0x06 ∷ 0x00 ∷ 0x01 ∷ 0x00 ∷ 0x05 ∷ 0x93
    ∷ 0x06 ∷ 0x00 ∷ 0x02 ∷ 0x00 ∷ 0x05 ∷ 0x73
    ∷ 0x0B ∷ 0x00 ∷ 0x01 ∷ 0x00 ∷ 0x05 ∷ 0x10 ∷ 0x07 ∷ 0x00 ∷ 0x05 ∷ 0x31 ∷ 0x01
    ∷ 0x04 ∷ 0x00 ∷ 0x03 ∷ 0x00
    ∷ 0x0B ∷ 0x00 ∷ 0x01 ∷ 0x00 ∷ 0x05 ∷ 0x10 ∷ 0x07 ∷ 0x00 ∷ 0x05 ∷ 0x31 ∷ 0x01
    ∷ 0x06 ∷ 0x00 ∷ 0x02 ∷ 0x00 ∷ 0x05 ∷ 0x31
    ∷ []
    )
    ≡ ascii "no way node kind ns nr info\n1 > 5 SNRM - - 0\n2 < 5 UA - - 0\n3 > 5 I 0 0 5\n4 . - - - - -\n5 > 5 I 0 0 5\n6 < 5 RR - 1 0\n"

-- "Empty input gives the header alone."
abbrev pub Empty : Type 0
Empty = listing [] ≡ header
