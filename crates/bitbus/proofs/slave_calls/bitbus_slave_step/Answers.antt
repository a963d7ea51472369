-- `bitbus::slave_calls::bitbus_slave_step` meets its contract.
use mathlib.Core.Path.{ap, ◌∙◌}
use lib.ListN.{length}
use borrow.Author.Rules.{rules}
use Rattle.slave.specs.Step.{step_of, step_bytes}
use Rattle.slave.specs.declared.Slave.{Slave}
use Rattle.layout.specs.Control.{meaning_of}
use Rattle.bitbus.specs.Call.{number, after, step_values}
use Rattle.bitbus.specs.SlaveCalls.{slave_step, slave_step_out}
use Rattle.bitbus.proofs.slave_calls.bitbus_slave_step.Goals as goal

pub returns : goal.returns
unfolding slave_step slave_step_out
returns c =
    let a = c.args in
    let given = c.on_end-stepped.ensures (λ (e : Slave). step_of e a.address (meaning_of a.control) a.information.now (length a.out.now)) (λ (e : Slave). step_bytes e a.address (meaning_of a.control) a.information.now a.out.now) (λ r e left h. search rules) in
    record {
      number = c.finish.ensures.number ∙ ap (λ g. number g.answer) given.0;
      end = ap (λ g. g.end) given.0;
      out = given.1;
      values = c.finish.ensures.values ∙ ap (λ g. after step_values g.answer a.values.now) given.0;
    }
