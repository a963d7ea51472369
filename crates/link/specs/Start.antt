-- Demand 3, where it starts: two ends that have just synchronised.
use Rattle.std.specs.Prelude.{◌≡◌, true, false}
use Rattle.side.specs.declared.Side.{Side}
use Rattle.slave.specs.declared.Mode.TheVariants.{Nrm}
use Rattle.master.specs.declared.Mode.TheVariants.{Linked}
use Rattle.delivery.specs.Runs.{blank}
use Rattle.link.specs.Runs.{quiet, World}

-- 01, "Synchronising": "counts to zero", and no message is held that is marked sent. The incoming slot and the doubt mark are as they may be.
pub record Zero (s : Side) : Type 0 where
  pub ns : s.ns.0 ≡ 0
  pub nr : s.nr.0 ≡ 0
  pub unsent : s.sent ≡ true → s.holds ≡ 0

-- Demand 3: "Start from a completed synchronisation"; the logs begin there.
pub record Start (w : World) : Type 0 where
  pub master_mode : w.master.mode ≡ Linked
  pub slave_mode : w.slave.mode ≡ Nrm
  pub busy : w.master.busy ≡ false
  pub waiting : w.master.waiting ≡ false
  pub line : w.line ≡ quiet
  pub master : Zero w.master.side
  pub slave : Zero w.slave.side
  pub down : w.down ≡ blank
  pub up : w.up ≡ blank
