-- `list::list` meets its contract.
use Rattle.std.proofs.Common.{rules}
use Rattle.std.proofs.Math.Seq.{length-take-le}
use Rattle.listing.proofs.Bound.{given_ok, given_whole}
use Rattle.list.proofs.list.Goals as goal

pub unwrap-size-requires : goal.unwrap-size-requires
unwrap-size-requires g c = given_ok c.args.capture.now _ c.list.result c.list.ensures.answer c.list.ensures.bytes (search rules)

pub slice_bounds-text-end : goal.slice_bounds-text-end
slice_bounds-text-end g c = let h = (given_whole c.args.capture.now _ c.list.result c.list.ensures.answer c.list.ensures.bytes (search rules) c.unwrap-size.ensures).0 in search (rules, h)

pub slice_bounds-write_text-end : goal.slice_bounds-write_text-end
slice_bounds-write_text-end g c = let h = (given_whole c.args.capture.now _ c.list.result c.list.ensures.answer c.list.ensures.bytes (search rules) c.unwrap-size.ensures).0 in search (rules, h, length-take-le)

pub returns : goal.returns
returns g c = rw (given_whole c.args.capture.now _ c.list.result c.list.ensures.answer c.list.ensures.bytes (search rules) c.unwrap-size.ensures).1 at c.write_text.ensures
