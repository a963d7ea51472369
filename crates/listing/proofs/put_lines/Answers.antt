-- `listing::put_lines` meets its contract.
use native.Mathlib.Omega.{arith}
use Rattle.listing.proofs.Lines.{sofar-line, sofar_all}
use Rattle.listing.proofs.Bound.{sofar_short}
use Rattle.listing.proofs.put_lines.Goals as goal

pub line-requires : goal.line-requires
line-requires c = let s = sofar_short c.loop-place.invariant c.requires.0 c.requires.1 in omega arith

pub loop-place-preserved : goal.loop-place-preserved
loop-place-preserved c = sofar-line c.loop-place.invariant c.loop-place-test.true c.read-found.ensures c.line.ensures c.place_after-place.ensures

pub returns : goal.returns
returns c = sofar_all c.loop-place.invariant c.loop-place-test.false
