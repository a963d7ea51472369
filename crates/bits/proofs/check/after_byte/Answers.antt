-- `bits::check::after_byte` meets its contract: eight steps of the register in one.
use Prim.Native.Nat.{◌/◌, ◌%◌}
use mathlib.Core.Path.{◌≡◌, ◌∙◌, ap₂, sym}
use native.Mathlib.Omega.{arith}
use lib.Bits.{bit_xor}
use Rattle.bits.specs.Check.{after_zeros}
use Rattle.bits.proofs.Checking.{register_byte}
use Rattle.bits.proofs.check.after_byte.Goals as goal

pub returns : goal.returns
returns c =
    let a = c.args in
    let high : c.from.result ≡ a.c / 256 = let e = rw c.to_le_bytes.ensures at c.from.ensures in omega arith in
    let low : c.after_zeros.result ≡ after_zeros (bit_xor (a.c % 256) a.byte) = rw c.to_le_bytes.ensures at c.after_zeros.ensures in
    ap₂ bit_xor high low ∙ sym (register_byte a.c a.byte c.ranges.byte.fits)
