-- `layout::side_layout::side_bytes` meets its contract.
use mathlib.Core.List.{append-nil}
use Rattle.layout.specs.Layout.{side_bytes}
use Rattle.layout.proofs.side_layout.side_bytes.Goals as goal

pub returns : goal.returns
unfolding side_bytes
returns c =
    rw (c.copy_from_slice-3.ensures.after, c.copy_from_slice-2.ensures.after, c.copy_from_slice.ensures.after, c.side_head.ensures, append-nil)
