-- Any two outcomes that a contract of `capture` or `listing` allows are equal. The proofs stand in proofs/CaptureOutcomes.antt.
use Rattle.capture.proofs.records as records
use Rattle.listing.proofs.list as list
use Rattle.paper.specs.Outcome.{OneOutcome}

pub record CaptureOutcomes : Type 0 where
  pub read : OneOutcome records.read.Kinds.ps records.read.Kinds.r records.read.Reads.Learnt
  pub list : OneOutcome list.Kinds.ps list.Kinds.r list.Reads.Learnt
