-- Any two outcomes that a contract of `bits`, `nrzi`, `writer` or `reader` allows are equal. The proofs stand in proofs/LineOutcomes.antt.
use Rattle.bits.proofs.check as check
use Rattle.bits.proofs.count as count
use Rattle.nrzi.proofs.encode as encode
use Rattle.nrzi.proofs.decode as decode
use Rattle.writer.proofs.write as write
use Rattle.reader.proofs.read as read
use Rattle.paper.specs.Outcome.{OneOutcome}

pub record LineOutcomes : Type 0 where
  pub check_word : OneOutcome check.check_word.Kinds.ps check.check_word.Kinds.r check.check_word.Reads.Learnt
  pub check_word_of : OneOutcome check.check_word_of.Kinds.ps check.check_word_of.Kinds.r check.check_word_of.Reads.Learnt
  pub bit_count_refusal : OneOutcome count.bit_count_refusal.Kinds.ps count.bit_count_refusal.Kinds.r count.bit_count_refusal.Reads.Learnt
  pub encode : OneOutcome encode.Kinds.ps encode.Kinds.r encode.Reads.Learnt
  pub decode : OneOutcome decode.Kinds.ps decode.Kinds.r decode.Reads.Learnt
  pub write : OneOutcome write.Kinds.ps write.Kinds.r write.Reads.Learnt
  pub read : OneOutcome read.Kinds.ps read.Kinds.r read.Reads.Learnt
