-- `list::write_text` meets its contract. The measure is what is left of the text.
use Rattle.std.proofs.Common.{length}
use Rattle.list.proofs.Known.{Written}
use Rattle.list.proofs.write_text.Given as goal

abbrev pub invariant-loop-left : goal.invariant-loop-left
invariant-loop-left g l = Written l.text l.left (g.W.Write.contents l.initial.to) (g.W.Write.contents l.to)

abbrev pub decreases-loop-left : goal.decreases-loop-left
decreases-loop-left g l = length l.left
