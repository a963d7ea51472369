-- `writer::pieces::Laid::add` meets its contract. The loop's invariant: the bytes passed are laid.
use mathlib.Core.Path.{subst}
use lib.ListN.{take, get_or, drop}
use mathlib.Core.List.{List, ◌++◌}
use mathlib.Core.Bool.{Bool}
use Prim.Native.Nat.{suc}
use Rattle.bits.specs.Bits.{low, bits_of}
use Rattle.writer.specs.Stuff.{Ready}
use Rattle.writer.proofs.Laying.{bits_split, laying_none, laying_next, ready_first, ready_second}
use Rattle.writer.proofs.pieces.Laid.add.Goals as goal

pub loop-byte-init : goal.loop-byte-init
unfolding bits_of
loop-byte-init c = laying_none

pub add_byte-requires : goal.add_byte-requires
add_byte-requires c =
    let l = c.loop-byte in
    let bytes = c.args.bytes.now in
    let ready = subst (λ (x : List Bool). Ready c.args.out.now c.args.self.now x) (bits_split bytes l.byte-index c.loop-byte-test.true) c.requires in
    ready_first (bits_of (drop (suc l.byte-index) bytes))
    (ready_second (bits_of (take l.byte-index bytes)) (low 8 (get_or bytes l.byte-index 0) ++ bits_of (drop (suc l.byte-index) bytes)) ready l.invariant)

pub loop-byte-preserved : goal.loop-byte-preserved
loop-byte-preserved c =
    let l = c.loop-byte in
    laying_next c.args.bytes.now l.byte-index c.loop-byte-test.true l.invariant c.add_byte.ensures
