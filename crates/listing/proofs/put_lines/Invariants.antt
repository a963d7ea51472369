-- `listing::put_lines` meets its contract.
use Prim.Native.Nat.{◌-◌}
use lib.ListN.{length}
use Rattle.listing.proofs.Lines.{Sofar}
use Rattle.listing.proofs.put_lines.Given as goal

abbrev pub invariant-loop-place : goal.invariant-loop-place
invariant-loop-place l = Sofar l.capture l.initial.text l.text l.place l.number

abbrev pub decreases-loop-place : goal.decreases-loop-place
decreases-loop-place l = length l.capture - l.place
