-- `list::write_text` meets its contract.
use Rattle.list.proofs.Known.{written_more}
use Rattle.list.proofs.write_text.Goals as goal

pub loop-left-preserved : goal.loop-left-preserved
loop-left-preserved g c = written_more _ _ c.in-Ok.more c.loop-left.invariant c.in-Ok.ensures.bound c.in-Ok.ensures.bytes
