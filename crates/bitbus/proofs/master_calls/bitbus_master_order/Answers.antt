-- `bitbus::master_calls::bitbus_master_order` meets its contract.
use mathlib.Core.Path.{ap, ◌∙◌}
use lib.ListN.{length}
use borrow.Author.Rules.{rules}
use Rattle.master.specs.Order.{order_of, order_bytes}
use Rattle.master.specs.declared.Master.{Master}
use Rattle.bitbus.specs.Call.{number, after, line_values}
use Rattle.bitbus.specs.MasterCalls.{master_order, master_order_out}
use Rattle.bitbus.proofs.master_calls.bitbus_master_order.Goals as goal

pub returns : goal.returns
unfolding master_order master_order_out
returns c =
    let a = c.args in
    let given = c.on_end-ordered.ensures (λ (e : Master). order_of e a.tick (length a.out.now)) (λ (e : Master). order_bytes e a.tick a.out.now) (λ r e left h. search rules) in
    record {
      number = c.finish.ensures.number ∙ ap (λ g. number g.answer) given.0;
      end = ap (λ g. g.end) given.0;
      out = given.1;
      values = c.finish.ensures.values ∙ ap (λ g. after line_values g.answer a.values.now) given.0;
    }
