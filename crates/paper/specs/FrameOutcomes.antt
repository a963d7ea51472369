-- Any two outcomes that a contract of `frame` allows are equal. The proofs stand in proofs/FrameOutcomes.antt.
use Rattle.frame.proofs.number.Refusal as Refusal
use Rattle.frame.proofs.control as control
use Rattle.frame.proofs.message as message
use Rattle.frame.proofs.refusal as refusal
use Rattle.paper.specs.Outcome.{OneOutcome, OneSeen}

pub record FrameOutcomes : Type 0 where
  pub number : OneOutcome Refusal.number.Kinds.ps Refusal.number.Kinds.r Refusal.number.Reads.Learnt
  pub decode : OneOutcome control.decode.Kinds.ps control.decode.Kinds.r control.decode.Reads.Learnt
  pub encode : OneOutcome control.encode.Kinds.ps control.encode.Kinds.r control.encode.Reads.Learnt
  pub counts_refusal : OneOutcome control.counts_refusal.Kinds.ps control.counts_refusal.Kinds.r control.counts_refusal.Reads.Learnt
  pub check : OneOutcome message.check.Kinds.ps message.check.Kinds.r message.check.Reads.Learnt
  pub check_in : OneOutcome message.check_in.Kinds.ps message.check_in.Kinds.r message.check_in.Reads.Learnt
  -- the bytes that the given reference refers to
  pub information : OneSeen message.information.Kinds.ps message.information.Kinds.r message.information.Reads.Learnt (λ κs answer. answer.now)
  pub message_refusal : OneOutcome message.message_refusal.Kinds.ps message.message_refusal.Kinds.r message.message_refusal.Reads.Learnt
  pub source_task : OneOutcome message.source_task.Kinds.ps message.source_task.Kinds.r message.source_task.Reads.Learnt
  pub destination_task : OneOutcome message.destination_task.Kinds.ps message.destination_task.Kinds.r message.destination_task.Reads.Learnt
  pub address_refusal : OneOutcome refusal.address_refusal.Kinds.ps refusal.address_refusal.Kinds.r refusal.address_refusal.Reads.Learnt
  pub information_refusal : OneOutcome refusal.information_refusal.Kinds.ps refusal.information_refusal.Kinds.r refusal.information_refusal.Reads.Learnt
  pub frame_refusal : OneOutcome refusal.frame_refusal.Kinds.ps refusal.frame_refusal.Kinds.r refusal.frame_refusal.Reads.Learnt
