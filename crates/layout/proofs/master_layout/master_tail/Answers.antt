-- `layout::master_layout::master_tail` meets its contract.
use mathlib.Core.List.{◌∷◌, ◌++◌}
use Rattle.layout.specs.MasterLayout.{master_tail}
use Rattle.layout.proofs.Conversions.{four_bytes, mark_of}
use Rattle.layout.proofs.master_layout.master_tail.Goals as goal

pub returns : goal.returns
unfolding master_tail
returns c =
    let m = c.args.master.now in
    rw (c.copy_from_slice-2.ensures.after, c.copy_from_slice.ensures.after, c.to_le_bytes.ensures, c.to_le_bytes-2.ensures, c.from.ensures, c.from-2.ensures)
    (λ i. mark_of m.busy i ∷ mark_of m.waiting i ∷ (four_bytes m.tick i ++ four_bytes m.limit i))
