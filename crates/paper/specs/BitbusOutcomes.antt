-- Any two outcomes that a contract of `bitbus` allows are equal. The proofs stand in proofs/BitbusOutcomes.antt.
use Rattle.bitbus.proofs.wire as wire
use Rattle.bitbus.proofs.slave_calls as slaves
use Rattle.bitbus.proofs.master_calls as masters
use Rattle.bitbus.proofs.captures as captures
use Rattle.paper.specs.Outcome.{OneOutcome}

pub record BitbusOutcomes : Type 0 where
  pub bitbus_check_word : OneOutcome wire.bitbus_check_word.Kinds.ps wire.bitbus_check_word.Kinds.r wire.bitbus_check_word.Reads.Learnt
  pub bitbus_message_check : OneOutcome wire.bitbus_message_check.Kinds.ps wire.bitbus_message_check.Kinds.r wire.bitbus_message_check.Reads.Learnt
  pub bitbus_write : OneOutcome wire.bitbus_write.Kinds.ps wire.bitbus_write.Kinds.r wire.bitbus_write.Reads.Learnt
  pub bitbus_read : OneOutcome wire.bitbus_read.Kinds.ps wire.bitbus_read.Kinds.r wire.bitbus_read.Reads.Learnt
  pub bitbus_nrzi_encode : OneOutcome wire.bitbus_nrzi_encode.Kinds.ps wire.bitbus_nrzi_encode.Kinds.r wire.bitbus_nrzi_encode.Reads.Learnt
  pub bitbus_nrzi_decode : OneOutcome wire.bitbus_nrzi_decode.Kinds.ps wire.bitbus_nrzi_decode.Kinds.r wire.bitbus_nrzi_decode.Reads.Learnt
  pub bitbus_slave_make : OneOutcome slaves.bitbus_slave_make.Kinds.ps slaves.bitbus_slave_make.Kinds.r slaves.bitbus_slave_make.Reads.Learnt
  pub bitbus_slave_put : OneOutcome slaves.bitbus_slave_put.Kinds.ps slaves.bitbus_slave_put.Kinds.r slaves.bitbus_slave_put.Reads.Learnt
  pub bitbus_slave_take : OneOutcome slaves.bitbus_slave_take.Kinds.ps slaves.bitbus_slave_take.Kinds.r slaves.bitbus_slave_take.Reads.Learnt
  pub bitbus_slave_step : OneOutcome slaves.bitbus_slave_step.Kinds.ps slaves.bitbus_slave_step.Kinds.r slaves.bitbus_slave_step.Reads.Learnt
  pub bitbus_slave_restart : OneOutcome slaves.bitbus_slave_restart.Kinds.ps slaves.bitbus_slave_restart.Kinds.r slaves.bitbus_slave_restart.Reads.Learnt
  pub bitbus_slave_clear : OneOutcome slaves.bitbus_slave_clear.Kinds.ps slaves.bitbus_slave_clear.Kinds.r slaves.bitbus_slave_clear.Reads.Learnt
  pub bitbus_master_make : OneOutcome masters.bitbus_master_make.Kinds.ps masters.bitbus_master_make.Kinds.r masters.bitbus_master_make.Reads.Learnt
  pub bitbus_master_put : OneOutcome masters.bitbus_master_put.Kinds.ps masters.bitbus_master_put.Kinds.r masters.bitbus_master_put.Reads.Learnt
  pub bitbus_master_take : OneOutcome masters.bitbus_master_take.Kinds.ps masters.bitbus_master_take.Kinds.r masters.bitbus_master_take.Reads.Learnt
  pub bitbus_master_order : OneOutcome masters.bitbus_master_order.Kinds.ps masters.bitbus_master_order.Kinds.r masters.bitbus_master_order.Reads.Learnt
  pub bitbus_master_response : OneOutcome masters.bitbus_master_response.Kinds.ps masters.bitbus_master_response.Kinds.r masters.bitbus_master_response.Reads.Learnt
  pub bitbus_master_silence : OneOutcome masters.bitbus_master_silence.Kinds.ps masters.bitbus_master_silence.Kinds.r masters.bitbus_master_silence.Reads.Learnt
  pub bitbus_master_restart : OneOutcome masters.bitbus_master_restart.Kinds.ps masters.bitbus_master_restart.Kinds.r masters.bitbus_master_restart.Reads.Learnt
  pub bitbus_master_clear : OneOutcome masters.bitbus_master_clear.Kinds.ps masters.bitbus_master_clear.Kinds.r masters.bitbus_master_clear.Reads.Learnt
  pub bitbus_record : OneOutcome captures.bitbus_record.Kinds.ps captures.bitbus_record.Kinds.r captures.bitbus_record.Reads.Learnt
  pub bitbus_list : OneOutcome captures.bitbus_list.Kinds.ps captures.bitbus_list.Kinds.r captures.bitbus_list.Reads.Learnt
