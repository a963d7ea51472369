-- `bitbus::master_calls::bitbus_master_restart` meets its contract.
use mathlib.Core.Path.{ap, ◌∙◌}
use mathlib.Core.List.{[]}
use borrow.Author.Rules.{rules}
use Rattle.master.specs.Master.{restart_of}
use Rattle.bitbus.specs.Call.{number}
use Rattle.bitbus.specs.MasterCalls.{master_restart}
use Rattle.bitbus.proofs.master_calls.bitbus_master_restart.Goals as goal

pub returns : goal.returns
unfolding master_restart
returns c =
    let given = c.on_end.ensures restart_of (λ e. []) (λ r e left h. search rules) in
    record { number = c.number.ensures ∙ ap (λ g. number g.answer) given.0; end = ap (λ g. g.end) given.0 }
