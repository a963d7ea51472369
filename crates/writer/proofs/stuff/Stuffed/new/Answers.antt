-- `writer::stuff::Stuffed::new` meets its contract. The loop's invariant is `Stuffing`, over the bits that are left.
use Prim.Native.Nat.{◌-◌}
use native.Mathlib.Omega.{arith}
use Rattle.writer.proofs.Stuffing.{low_step, stuffing_turn, stuffing_done, byte_few}
use Rattle.writer.proofs.stuff.Stuffed.new.Goals as goal

pub push-requires : goal.push-requires
push-requires c =
    let f = c.loop-place.invariant in
    let a = c.args in
    (omega (arith, f.count, byte_few a.run a.byte), f.under)

pub loop-place-preserved : goal.loop-place-preserved
loop-place-preserved c =
    let l = c.loop-place in
    stuffing_turn (rw (low_step l.place c.args.byte c.loop-place-test.true) at l.invariant) c.push.ensures

pub returns : goal.returns
returns c = let l = c.loop-place in stuffing_done (8 - l.place) _ l.invariant (omega arith)
