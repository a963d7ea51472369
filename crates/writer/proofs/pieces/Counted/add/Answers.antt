-- `writer::pieces::Counted::add` meets its contract. The loop's invariant: the bytes passed are counted.
use Prim.Native.Nat.{suc}
use mathlib.Core.Path.{◌≡◌, ap}
use native.Mathlib.Omega.{arith}
use lib.ListN.{length, take, drop, get_or}
use mathlib.Core.List.{List, ◌++◌}
use mathlib.Core.Bool.{Bool}
use Rattle.bits.specs.Bits.{low, bits_of}
use Rattle.bits.specs.Insert.{insert}
use Rattle.writer.proofs.Laying.{bits_split, length-insert-append, tallied_none, tallied_next, tallied_byte}
use Rattle.writer.proofs.Stuffing.{byte_few}
use Rattle.writer.proofs.pieces.Counted.add.Goals as goal

pub loop-byte-init : goal.loop-byte-init
unfolding bits_of
loop-byte-init c = tallied_none c.args.self.now

pub overflow_add-self : goal.overflow_add-self
overflow_add-self c =
    let l = c.loop-byte in
    let bytes = c.args.bytes.now in
    let r = c.args.self.now.run.ones in
    let x = bits_of (take l.byte-index bytes) in
    let y = low 8 (get_or bytes l.byte-index 0) ++ bits_of (drop (suc l.byte-index) bytes) in
    let whole : length (insert r (bits_of bytes)) ≡ length (insert r (x ++ y)) = ap (λ (z : List Bool). length (insert r z)) (bits_split bytes l.byte-index c.loop-byte-test.true) in
    let few = byte_few l.self.run (get_or bytes l.byte-index 0) in
    omega (arith, length-insert-append r x y, l.invariant.bits, c.requires, c.new-stuffed.ensures.count)

pub loop-byte-preserved : goal.loop-byte-preserved
loop-byte-preserved c =
    let l = c.loop-byte in
    rw c.from.ensures (tallied_next c.args.bytes.now l.byte-index c.loop-byte-test.true l.invariant (tallied_byte c.new-stuffed.ensures))
