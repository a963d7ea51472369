-- `bits::check::after_zeros` meets its contract: the shifts agree with eight steps of the register at each of the 256 bytes, by one computed comparison.
use Prim.Native.Nat.{ℕ, ◌*◌, ◌/◌, ◌%◌}
use mathlib.Core.Path.{◌∙◌, ap, refl}
use lib.Bits.{bit_xor}
use Rattle.frame.proofs.Computed.{agree}
use Rattle.bits.specs.Bits.{low}
use Rattle.bits.specs.Check.{shifted, register, after_zeros}
use Rattle.bits.proofs.check.after_zeros.Goals as goal

abbrev folded : ℕ → ℕ
folded k = bit_xor k (k * 16 % 256)

abbrev shifts : ℕ → ℕ
shifts k = bit_xor (bit_xor (k * 256 % 65536) (k * 8 % 65536)) (k / 16)

pub returns : goal.returns
unfolding after_zeros register shifted low
returns c = ap shifts c.from-folded.ensures ∙ agree (λ (k : ℕ). shifts (folded k)) after_zeros 256 refl c.args.differs c.ranges.differs.fits
