-- Any two outcomes that a contract of `slave` allows are equal. The proofs stand in proofs/SlaveOutcomes.antt.
use Rattle.slave.proofs.Slave as Slave
use Rattle.paper.specs.Outcome.{OneOutcome}

pub record SlaveOutcomes : Type 0 where
  pub make : OneOutcome Slave.make.Kinds.ps Slave.make.Kinds.r Slave.make.Reads.Learnt
  pub put : OneOutcome Slave.put.Kinds.ps Slave.put.Kinds.r Slave.put.Reads.Learnt
  pub take : OneOutcome Slave.take.Kinds.ps Slave.take.Kinds.r Slave.take.Reads.Learnt
  pub step : OneOutcome Slave.step.Kinds.ps Slave.step.Kinds.r Slave.step.Reads.Learnt
  pub restart : OneOutcome Slave.restart.Kinds.ps Slave.restart.Kinds.r Slave.restart.Reads.Learnt
  pub clear : OneOutcome Slave.clear.Kinds.ps Slave.clear.Kinds.r Slave.clear.Reads.Learnt
  pub wrong : OneOutcome Slave.wrong.Kinds.ps Slave.wrong.Kinds.r Slave.wrong.Reads.Learnt
