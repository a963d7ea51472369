-- Each contract of `bitbus` is an equation for the answer and for each lent parameter, and so settles them.
-- Assumes nothing.
use mathlib.Core.Path.{refl}
use Rattle.paper.specs.BitbusOutcomes.{BitbusOutcomes}
use Rattle.paper.proofs.Outcome.{both, meets}

pub bitbus_outcomes : BitbusOutcomes
bitbus_outcomes =
    record {
      bitbus_check_word = λ κs a o u p q. both (meets p q) refl;
      bitbus_message_check = λ κs a o u p q. both (meets p q) refl;
      bitbus_write = λ κs a o u p q. both (meets p.0 q.0) (λ i. (tt, (tt, (tt, (meets p.1.0 q.1.0 i, (meets p.1.1 q.1.1 i, tt))))));
      bitbus_read = λ κs a o u p q. both (meets p.0 q.0) (λ i. (tt, (tt, (meets p.1.0 q.1.0 i, (meets p.1.1 q.1.1 i, tt)))));
      bitbus_nrzi_encode = λ κs a o u p q. both (meets p.0 q.0) (λ i. (tt, (tt, (tt, (meets p.1.0 q.1.0 i, (meets p.1.1 q.1.1 i, tt))))));
      bitbus_nrzi_decode = λ κs a o u p q. both (meets p.0 q.0) (λ i. (tt, (tt, (tt, (meets p.1.0 q.1.0 i, (meets p.1.1 q.1.1 i, tt))))));
      bitbus_slave_make = λ κs a o u p q. both (meets p.0 q.0) (λ i. (meets p.1 q.1 i, (tt, tt)));
      bitbus_slave_put = λ κs a o u p q. both (meets p.0 q.0) (λ i. (meets p.1 q.1 i, (tt, tt)));
      bitbus_slave_take = λ κs a o u p q. both (meets p.0 q.0) (λ i. (meets p.1.0 q.1.0 i, (meets p.1.1.0 q.1.1.0 i, (meets p.1.1.1 q.1.1.1 i, tt))));
      bitbus_slave_step = λ κs a o u p q. both (meets p.0 q.0) (λ i. (meets p.1.0 q.1.0 i, (tt, (tt, (tt, (meets p.1.1.0 q.1.1.0 i, (meets p.1.1.1 q.1.1.1 i, tt)))))));
      bitbus_slave_restart = λ κs a o u p q. both (meets p.0 q.0) (λ i. (meets p.1 q.1 i, tt));
      bitbus_slave_clear = λ κs a o u p q. both (meets p.0 q.0) (λ i. (meets p.1 q.1 i, tt));
      bitbus_master_make = λ κs a o u p q. both (meets p.0 q.0) (λ i. (meets p.1 q.1 i, (tt, (tt, tt))));
      bitbus_master_put = λ κs a o u p q. both (meets p.0 q.0) (λ i. (meets p.1 q.1 i, (tt, tt)));
      bitbus_master_take = λ κs a o u p q. both (meets p.0 q.0) (λ i. (meets p.1.0 q.1.0 i, (meets p.1.1.0 q.1.1.0 i, (meets p.1.1.1 q.1.1.1 i, tt))));
      bitbus_master_order = λ κs a o u p q. both (meets p.0 q.0) (λ i. (meets p.1.0 q.1.0 i, (tt, (meets p.1.1.0 q.1.1.0 i, (meets p.1.1.1 q.1.1.1 i, tt)))));
      bitbus_master_response = λ κs a o u p q. both (meets p.0 q.0) (λ i. (meets p.1.0 q.1.0 i, (tt, (tt, (tt, (tt, (meets p.1.1 q.1.1 i, tt)))))));
      bitbus_master_silence = λ κs a o u p q. both (meets p.0 q.0) (λ i. (meets p.1 q.1 i, tt));
      bitbus_master_restart = λ κs a o u p q. both (meets p.0 q.0) (λ i. (meets p.1 q.1 i, tt));
      bitbus_master_clear = λ κs a o u p q. both (meets p.0 q.0) (λ i. (meets p.1 q.1 i, tt));
      bitbus_record = λ κs a o u p q. both (meets p.0 q.0) (λ i. (tt, (tt, (meets p.1 q.1 i, tt))));
      bitbus_list = λ κs a o u p q. both (meets p.0 q.0) (λ i. (tt, (meets p.1.0 q.1.0 i, (meets p.1.1 q.1.1 i, tt))));
    }
