-- Any two outcomes that a contract of `side` allows are equal. The proofs stand in proofs/SideOutcomes.antt.
use Rattle.side.proofs.Side as Side
use Rattle.side.proofs.right as right
use Rattle.side.proofs.rule as rule
use Rattle.side.proofs.slot as slot
use Rattle.paper.specs.Outcome.{OneOutcome}

pub record SideOutcomes : Type 0 where
  pub fresh : OneOutcome Side.fresh.Kinds.ps Side.fresh.Kinds.r Side.fresh.Reads.Learnt
  pub restarted : OneOutcome Side.restarted.Kinds.ps Side.restarted.Kinds.r Side.restarted.Reads.Learnt
  pub cleared : OneOutcome Side.cleared.Kinds.ps Side.cleared.Kinds.r Side.cleared.Reads.Learnt
  pub synchronised : OneOutcome Side.synchronised.Kinds.ps Side.synchronised.Kinds.r Side.synchronised.Reads.Learnt
  pub wrong : OneOutcome Side.wrong.Kinds.ps Side.wrong.Kinds.r Side.wrong.Reads.Learnt
  pub address_wrong : OneOutcome right.address_wrong.Kinds.ps right.address_wrong.Kinds.r right.address_wrong.Reads.Learnt
  pub put : OneOutcome Side.put.Kinds.ps Side.put.Kinds.r Side.put.Reads.Learnt
  pub take : OneOutcome Side.take.Kinds.ps Side.take.Kinds.r Side.take.Reads.Learnt
  pub full : OneOutcome Side.full.Kinds.ps Side.full.Kinds.r Side.full.Reads.Learnt
  pub room : OneOutcome Side.room.Kinds.ps Side.room.Kinds.r Side.room.Reads.Learnt
  pub room_refusal : OneOutcome slot.room_refusal.Kinds.ps slot.room_refusal.Kinds.r slot.room_refusal.Reads.Learnt
  pub lay : OneOutcome slot.lay.Kinds.ps slot.lay.Kinds.r slot.lay.Reads.Learnt
  pub hear : OneOutcome Side.hear.Kinds.ps Side.hear.Kinds.r Side.hear.Reads.Learnt
  pub next : OneOutcome rule.next.Kinds.ps rule.next.Kinds.r rule.next.Reads.Learnt
  pub is_rnr : OneOutcome rule.is_rnr.Kinds.ps rule.is_rnr.Kinds.r rule.is_rnr.Reads.Learnt
  pub say : OneOutcome Side.say.Kinds.ps Side.say.Kinds.r Side.say.Reads.Learnt
