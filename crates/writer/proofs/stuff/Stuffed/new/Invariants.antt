-- `writer::stuff::Stuffed::new` meets its contract. The loop's invariant is `Stuffing`, over the bits that are left.
use Prim.Native.Nat.{◌-◌, ◌/◌, ◌^◌}
use Rattle.bits.specs.Bits.{low}
use Rattle.writer.proofs.Stuffing.{Stuffing}
use Rattle.writer.proofs.stuff.Stuffed.new.Given as goal

abbrev pub invariant-loop-place : goal.invariant-loop-place
invariant-loop-place l = Stuffing l.fn.run.ones (low 8 l.byte) l.stuffed (low (8 - l.place) (l.byte / 2 ^ l.place))
