-- The loop of `list::read_input`: what was read so far is the first of the input.
use Rattle.std.proofs.Common.{length, ◌-◌, ◌≤◌, take}
use Rattle.std.specs.Io.KnownBytes.{Consumes}
use Rattle.list.proofs.read_input.Given as goal

abbrev pub invariant-loop-size : goal.invariant-loop-size
invariant-loop-size g l = record {
  inside : l.size ≤ length l.bytes;
  known : Consumes (g.R.Read.remaining l.initial.from) (g.R.Read.remaining l.from) (take l.size l.bytes);
}

abbrev pub decreases-loop-size : goal.decreases-loop-size
decreases-loop-size g l = length l.initial.bytes - l.size
