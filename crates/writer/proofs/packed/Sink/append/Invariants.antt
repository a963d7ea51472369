-- `writer::packed::Sink::append` meets its contract. Its loop stores whole bytes while there are any: `Filling`. The measure is the bits that are left.
use Prim.Native.Nat.{◌+◌}
use mathlib.Core.List.{◌++◌}
use Rattle.bits.specs.Bits.{low}
use Rattle.writer.specs.Sink.{sofar, placed}
use Rattle.writer.proofs.Filling.{Filling}
use Rattle.writer.proofs.packed.Sink.append.Given as goal

abbrev pub invariant-loop-waits : goal.invariant-loop-waits
invariant-loop-waits l =
    Filling l.fn.out (sofar l.fn.out l.fn.self ++ low l.count l.bits) (placed l.fn.self + l.count) l.out l.acc l.waits l.at

abbrev pub decreases-loop-waits : goal.decreases-loop-waits
decreases-loop-waits l = l.waits
