-- Any two outcomes that a contract of `master` allows are equal. The proofs stand in proofs/MasterOutcomes.antt.
use Rattle.master.proofs.Master as Master
use Rattle.master.proofs.response as responses
use Rattle.paper.specs.Outcome.{OneOutcome}

pub record MasterOutcomes : Type 0 where
  pub make : OneOutcome Master.make.Kinds.ps Master.make.Kinds.r Master.make.Reads.Learnt
  pub put : OneOutcome Master.put.Kinds.ps Master.put.Kinds.r Master.put.Reads.Learnt
  pub take : OneOutcome Master.take.Kinds.ps Master.take.Kinds.r Master.take.Reads.Learnt
  pub order : OneOutcome Master.order.Kinds.ps Master.order.Kinds.r Master.order.Reads.Learnt
  pub response : OneOutcome Master.response.Kinds.ps Master.response.Kinds.r Master.response.Reads.Learnt
  pub age : OneOutcome responses.age.Kinds.ps responses.age.Kinds.r responses.age.Reads.Learnt
  pub silence : OneOutcome Master.silence.Kinds.ps Master.silence.Kinds.r Master.silence.Reads.Learnt
  pub restart : OneOutcome Master.restart.Kinds.ps Master.restart.Kinds.r Master.restart.Reads.Learnt
  pub clear : OneOutcome Master.clear.Kinds.ps Master.clear.Kinds.r Master.clear.Reads.Learnt
  pub wrong : OneOutcome Master.wrong.Kinds.ps Master.wrong.Kinds.r Master.wrong.Reads.Learnt
