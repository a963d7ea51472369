-- `list::read_input` meets its contract.
use Rattle.std.proofs.Common.{rules}
use Rattle.std.proofs.KnownBytes.{Consumes-trans}
use Rattle.list.proofs.Known.{read_more}
use Rattle.list.proofs.read_input.Goals as goal

pub loop-size-preserved : goal.loop-size-preserved
loop-size-preserved g c = record {
  inside = search rules;
  known = rw (read_more c.loop-size.size _ c.loop-size.bytes c.read.new.buf c.in_ok-more.more c.loop-size.invariant.inside c.in_ok-more.ensures.bound.0) (Consumes-trans _ _ _ _ _ c.loop-size.invariant.known c.in_ok-more.ensures.bytes.0);
}
