-- `layout::side_layout::side_head` meets its contract.
use mathlib.Core.List.{◌∷◌, ◌++◌}
use Rattle.layout.specs.Layout.{side_head}
use Rattle.layout.proofs.Conversions.{eight_bytes, mark_of}
use Rattle.layout.proofs.side_layout.side_head.Goals as goal

pub returns : goal.returns
unfolding side_head
returns c =
    let s = c.args.side.now in
    rw (c.copy_from_slice-2.ensures.after, c.copy_from_slice.ensures.after, c.to_le_bytes.ensures, c.to_le_bytes-2.ensures, c.from.ensures, c.from-2.ensures)
    (λ i. s.ns.0 ∷ s.nr.0 ∷ mark_of s.sent i ∷ mark_of s.doubt i ∷ (eight_bytes s.holds i ++ eight_bytes s.waits i))
