-- `bitbus::master_calls::bitbus_master_response` meets its contract.
use mathlib.Core.Path.{◌∙◌}
use mathlib.Core.List.{[]}
use borrow.Author.Rules.{rules}
use Rattle.master.specs.Response.{response_of}
use Rattle.master.specs.declared.Master.{Master}
use Rattle.layout.specs.Control.{meaning_of}
use Rattle.layout.specs.MasterLayout.{master_at, master_bytes, master_wrong}
use Rattle.bitbus.specs.MasterCalls.{master_response}
use Rattle.bitbus.proofs.Results.{heard_by, hears, same_call}
use Rattle.bitbus.proofs.master_calls.bitbus_master_response.Goals as goal

pub returns : goal.returns
unfolding master_response
returns c =
    let a = c.args in
    let b = a.end.now in
    let heard = c.on_end-heard.ensures (λ (m : Master). heard_by (response_of m a.address (meaning_of a.control) a.information.now a.tick)) (λ m. [])
    (λ r m left h. (hears _ _ _ (search rules), search rules)) in
    let same = same_call (master_wrong b) b master_bytes (response_of (master_at b) a.address (meaning_of a.control) a.information.now a.tick) _ _ a.values.now heard.0 in
    record { number = c.finish.ensures.number ∙ same.numbers; end = same.end; values = c.finish.ensures.values ∙ same.values }
