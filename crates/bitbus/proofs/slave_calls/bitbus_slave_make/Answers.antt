-- `bitbus::slave_calls::bitbus_slave_make` meets its contract.
use mathlib.Core.Path.{ap, ◌∙◌}
use Rattle.layout.specs.SlaveLayout.{slave_bytes}
use Rattle.bitbus.specs.Call.{number, written}
use Rattle.bitbus.specs.SlaveCalls.{slave_make}
use Rattle.slave.specs.Slave.{blank}
use Rattle.bitbus.proofs.Results.{makes}
use Rattle.bitbus.proofs.slave_calls.bitbus_slave_make.Goals as goal

pub returns : goal.returns
unfolding slave_make
returns c =
    let b = c.args.end.now in
    let same = makes blank slave_bytes b c.make.result in
    record {
      number = c.lay_made.ensures.number ∙ same.0 ∙ ap (λ g. number g.answer) c.make.ensures;
      end = c.lay_made.ensures.bytes ∙ same.1 ∙ ap (λ g. (written slave_bytes b g).end) c.make.ensures;
    }
