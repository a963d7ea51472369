-- `layout::side_layout::common` meets its contract.
use Rattle.layout.proofs.Laying.{marks_in, side_in}
use Rattle.layout.proofs.side_layout.common.Goals as goal

pub returns : goal.returns
returns c =
    let b = c.args.bytes.now in
    let first = rw c.unwrap.ensures at c.first_chunk.ensures.cases in
    record { marks = rw first.same (marks_in b); side = rw first.same (side_in b) }
