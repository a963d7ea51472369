-- `writer::packed::Sink::append` meets its contract. Its loop stores whole bytes while there are any: `Filling`. The measure is the bits that are left.
use native.Mathlib.Nat.{lt_of_lt_of_le}
use native.Mathlib.Omega.{arith}
use borrow.Author.Rules.{rules}
use lib.Pow.{pow_mono, shl_exact}
use Rattle.bits.proofs.BitLaws.{length-low}
use Rattle.writer.proofs.Filling.{filling, turn, filled}
use Rattle.writer.proofs.packed.Sink.append.Goals as goal

-- nothing is shifted out, and all the bits stand in the number that is left
pub loop-waits-init : goal.loop-waits-init
loop-waits-init c =
    let a = c.args in
    let few = a.self.now.few in
    filling a.out.now a.self.now a.bits a.count c.requires.1 _
    (shl_exact 10 a.self.now.waits 32 (lt_of_lt_of_le c.requires.1 (pow_mono c.requires.0)) (omega arith))

pub loop-waits-preserved : goal.loop-waits-preserved
loop-waits-preserved c = rw c.to_le_bytes.ensures (turn c.loop-waits.invariant c.loop-waits-test.true (search rules))

pub returns : goal.returns
returns c =
    let a = c.args in
    filled (rw (length-low a.count a.bits) c.loop-waits.invariant)
