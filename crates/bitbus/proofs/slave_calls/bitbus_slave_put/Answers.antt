-- `bitbus::slave_calls::bitbus_slave_put` meets its contract.
use mathlib.Core.Path.{ap, ◌∙◌}
use mathlib.Core.List.{[]}
use borrow.Author.Rules.{rules}
use Rattle.slave.specs.Slave.{put_of}
use Rattle.slave.specs.declared.Slave.{Slave}
use Rattle.bitbus.specs.Call.{number}
use Rattle.bitbus.specs.SlaveCalls.{slave_put}
use Rattle.bitbus.proofs.slave_calls.bitbus_slave_put.Goals as goal

pub returns : goal.returns
unfolding slave_put
returns c =
    let given = c.on_end.ensures (λ (e : Slave). put_of e c.args.message.now) (λ e. []) (λ r e left h. search rules) in
    record { number = c.number.ensures ∙ ap (λ g. number g.answer) given.0; end = ap (λ g. g.end) given.0 }
