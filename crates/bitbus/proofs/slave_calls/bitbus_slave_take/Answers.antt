-- `bitbus::slave_calls::bitbus_slave_take` meets its contract.
use mathlib.Core.Path.{ap, ◌∙◌}
use lib.ListN.{length}
use borrow.Author.Rules.{rules}
use Rattle.slave.specs.Slave.{take_of, take_bytes}
use Rattle.slave.specs.declared.Slave.{Slave}
use Rattle.bitbus.specs.Call.{number, after, take_values}
use Rattle.bitbus.specs.SlaveCalls.{slave_take, slave_take_out}
use Rattle.bitbus.proofs.slave_calls.bitbus_slave_take.Goals as goal

pub returns : goal.returns
unfolding slave_take slave_take_out
returns c =
    let a = c.args in
    let given = c.on_end-took.ensures (λ (e : Slave). take_of e (length a.out.now)) (λ (e : Slave). take_bytes e a.out.now) (λ r e left h. search rules) in
    record {
      number = c.finish.ensures.number ∙ ap (λ g. number g.answer) given.0;
      end = ap (λ g. g.end) given.0;
      out = given.1;
      values = c.finish.ensures.values ∙ ap (λ g. after take_values g.answer a.values.now) given.0;
    }
