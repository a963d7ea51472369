-- `bitbus::slave_calls::bitbus_slave_clear` meets its contract.
use mathlib.Core.Path.{ap, ◌∙◌}
use mathlib.Core.List.{[]}
use borrow.Author.Rules.{rules}
use Rattle.slave.specs.Slave.{clear_of}
use Rattle.bitbus.specs.Call.{number}
use Rattle.bitbus.specs.SlaveCalls.{slave_clear}
use Rattle.bitbus.proofs.slave_calls.bitbus_slave_clear.Goals as goal

pub returns : goal.returns
unfolding slave_clear
returns c =
    let given = c.on_end.ensures clear_of (λ e. []) (λ r e left h. search rules) in
    record { number = c.number.ensures ∙ ap (λ g. number g.answer) given.0; end = ap (λ g. g.end) given.0 }
