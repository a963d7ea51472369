-- The check word (01, "Bits between flags"): "polynomial 16, 12, 5, 0; preset all ones; over address, control and information in line order; complemented; low byte first."
use Rattle.std.specs.Prelude.{ℕ, ◌-◌, ◌/◌, ◌%◌, Bool, List, [], ◌∷◌, eqb}
use Rattle.std.specs.Int.Bits.{bit_xor}
use Rattle.frame.specs.Pick.{pick}
use Rattle.bits.specs.Bits.{num, bits_of, low}

-- the register after one bit: shifted down, and the polynomial laid over it (bit-reversed: 8408 hex) where the bit that falls out differs from the line's
unfoldable pub shifted : ℕ → Bool → ℕ
shifted c b = pick (eqb (c % 2) (num b)) (c / 2) (bit_xor (c / 2) 0x8408)

-- the register after the bits
unfoldable pub register : ℕ → List Bool → ℕ
register c [] = c
register c (b ∷ bs) = register (shifted c b) bs

-- the register after eight zeros
unfoldable pub after_zeros : ℕ → ℕ
after_zeros c = register c (low 8 0)

-- the check word of bytes
unfoldable pub check_word : List ℕ → ℕ
check_word bytes = 0xffff - register 0xffff (bits_of bytes)

-- the check word as it goes on the line
unfoldable pub check_bytes : List ℕ → List ℕ
check_bytes bytes = check_word bytes % 256 ∷ check_word bytes / 256 ∷ []
