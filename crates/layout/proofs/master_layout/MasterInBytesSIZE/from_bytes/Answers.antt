-- `layout::master_layout::MasterInBytesSIZE::from_bytes` meets its contract.
use mathlib.Core.Path.{◌≡◌, ◌∙◌}
use Rattle.layout.specs.Layout.{number_at}
use Rattle.layout.specs.MasterLayout.{master_at}
use Rattle.layout.proofs.Conversions.{four_at}
use Rattle.layout.proofs.master_layout.MasterInBytesSIZE.from_bytes.Goals as goal

pub returns : goal.returns
unfolding master_at
returns c =
    let b = c.args.bytes.now in
    let tick : c.from_le_bytes.result ≡ number_at 4 b 530 = c.from_le_bytes.ensures ∙ rw c.array_at.ensures (four_at b 530) in
    let limit : c.from_le_bytes-2.result ≡ number_at 4 b 534 = c.from_le_bytes-2.ensures ∙ rw c.array_at-2.ensures (four_at b 534) in
    rw (c.side_at.ensures, c.common.ensures.side, c.master_mode.ensures, tick, limit)
