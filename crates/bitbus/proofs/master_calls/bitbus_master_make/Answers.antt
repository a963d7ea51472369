-- `bitbus::master_calls::bitbus_master_make` meets its contract.
use mathlib.Core.Path.{ap, ◌∙◌}
use Rattle.layout.specs.MasterLayout.{master_bytes}
use Rattle.bitbus.specs.Call.{number, written}
use Rattle.bitbus.specs.MasterCalls.{master_make}
use Rattle.master.specs.Master.{blank}
use Rattle.bitbus.proofs.Results.{makes}
use Rattle.bitbus.proofs.master_calls.bitbus_master_make.Goals as goal

pub returns : goal.returns
unfolding master_make
returns c =
    let b = c.args.end.now in
    let same = makes blank master_bytes b c.make.result in
    record {
      number = c.lay_made.ensures.number ∙ same.0 ∙ ap (λ g. number g.answer) c.make.ensures;
      end = c.lay_made.ensures.bytes ∙ same.1 ∙ ap (λ g. (written master_bytes b g).end) c.make.ensures;
    }
