-- `bitbus::master_calls::bitbus_master_put` meets its contract.
use mathlib.Core.Path.{ap, ◌∙◌}
use mathlib.Core.List.{[]}
use borrow.Author.Rules.{rules}
use Rattle.master.specs.Master.{put_of}
use Rattle.master.specs.declared.Master.{Master}
use Rattle.bitbus.specs.Call.{number}
use Rattle.bitbus.specs.MasterCalls.{master_put}
use Rattle.bitbus.proofs.master_calls.bitbus_master_put.Goals as goal

pub returns : goal.returns
unfolding master_put
returns c =
    let given = c.on_end.ensures (λ (e : Master). put_of e c.args.message.now) (λ e. []) (λ r e left h. search rules) in
    record { number = c.number.ensures ∙ ap (λ g. number g.answer) given.0; end = ap (λ g. g.end) given.0 }
