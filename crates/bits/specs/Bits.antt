-- Bits and bytes: "Bytes go least significant bit first. In a packed buffer the first bit is bit 0 of byte 0." (01, "Bits between flags")
use Rattle.std.specs.Prelude.{ℕ, zero, suc, ◌+◌, ◌*◌, ◌/◌, ◌%◌, Bool, true, false, List, [], ◌∷◌, ◌++◌, eqb, take, drop}

-- a bit as a number
abbrev pub num : Bool → ℕ
num true = 1
num false = 0

-- the lowest bit of a number
abbrev pub odd : ℕ → Bool
odd x = eqb (x % 2) 1

-- the n lowest bits of a number, lowest first
unfoldable pub low : ℕ → ℕ → List Bool
low zero x = []
low (suc n) x = odd x ∷ low n (x / 2)

-- the bits of bytes
unfoldable pub bits_of : List ℕ → List Bool
bits_of [] = []
bits_of (x ∷ xs) = low 8 x ++ bits_of xs

-- the number whose bits these are, lowest first
unfoldable pub val : List Bool → ℕ
val [] = 0
val (b ∷ bs) = num b + 2 * val bs

-- n bytes of bits
unfoldable pub bytes_of : ℕ → List Bool → List ℕ
bytes_of zero bs = []
bytes_of (suc n) bs = val (take 8 bs) ∷ bytes_of n (drop 8 bs)
