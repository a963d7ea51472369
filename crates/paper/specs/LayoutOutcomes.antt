-- Any two outcomes that a contract of `layout` allows are equal. The proofs stand in proofs/LayoutOutcomes.antt.
use Rattle.layout.proofs.slave_layout as slave-layout
use Rattle.layout.proofs.master_layout as master-layout
use Rattle.layout.proofs.code as code
use Rattle.paper.specs.Outcome.{OneOutcome}

pub record LayoutOutcomes : Type 0 where
  pub slave_wrong : OneOutcome slave-layout.SlaveInBytesSIZE.bytes_wrong.Kinds.ps slave-layout.SlaveInBytesSIZE.bytes_wrong.Kinds.r slave-layout.SlaveInBytesSIZE.bytes_wrong.Reads.Learnt
  pub slave_at : OneOutcome slave-layout.SlaveInBytesSIZE.from_bytes.Kinds.ps slave-layout.SlaveInBytesSIZE.from_bytes.Kinds.r slave-layout.SlaveInBytesSIZE.from_bytes.Reads.Learnt
  pub slave_bytes : OneOutcome slave-layout.SlaveInBytesSIZE.to_bytes.Kinds.ps slave-layout.SlaveInBytesSIZE.to_bytes.Kinds.r slave-layout.SlaveInBytesSIZE.to_bytes.Reads.Learnt
  pub master_wrong : OneOutcome master-layout.MasterInBytesSIZE.bytes_wrong.Kinds.ps master-layout.MasterInBytesSIZE.bytes_wrong.Kinds.r master-layout.MasterInBytesSIZE.bytes_wrong.Reads.Learnt
  pub master_at : OneOutcome master-layout.MasterInBytesSIZE.from_bytes.Kinds.ps master-layout.MasterInBytesSIZE.from_bytes.Kinds.r master-layout.MasterInBytesSIZE.from_bytes.Reads.Learnt
  pub master_bytes : OneOutcome master-layout.MasterInBytesSIZE.to_bytes.Kinds.ps master-layout.MasterInBytesSIZE.to_bytes.Kinds.r master-layout.MasterInBytesSIZE.to_bytes.Reads.Learnt
  pub meaning_of : OneOutcome code.meaning_of.Kinds.ps code.meaning_of.Kinds.r code.meaning_of.Reads.Learnt
  pub control_of : OneOutcome code.control_of.Kinds.ps code.control_of.Kinds.r code.control_of.Reads.Learnt
  pub link_number : OneOutcome code.link_number.Kinds.ps code.link_number.Kinds.r code.link_number.Reads.Learnt
  pub level_number : OneOutcome code.level_number.Kinds.ps code.level_number.Kinds.r code.level_number.Reads.Learnt
