-- Demand 3, safety: what holds at every moment of every run.
use Rattle.std.specs.Prelude.{◌≡◌, ◌⊎◌, List, ◌++◌}
use Rattle.delivery.specs.Link.{Message, FRMR, Held, NRM, linked, Rules, holds}
use Rattle.delivery.specs.Runs.{answers, World, Event, run, Start}

-- "the messages handed over since that moment are those confirmed to their sender since, in order, followed at most by the one still held"
abbrev pub Lined : List Message → List Message → Held → Type 0
Lined handed confirmed held = (handed ≡ confirmed) ⊎ (handed ≡ confirmed ++ holds held)

pub record Safe (w : World) : Type 0 where
  -- "Neither end calls for resynchronisation": the master stays linked, the slave in NRM, and no response is FRMR.
  pub master_mode : w.master.mode ≡ linked
  pub slave_mode : w.slave.mode ≡ NRM
  pub no_frmr : w.line ≡ answers FRMR → ⊥
  -- "each way"
  pub down : Lined w.down.handed w.down.confirmed w.master.end.held
  pub up : Lined w.up.handed w.up.confirmed w.slave.end.held

-- "Start from a completed synchronisation, restart neither end, and let each order and each response arrive as sent or be lost, a response always
-- belonging to the order just sent. Owners may put and take messages at any moment. Then, each way, .." (demand 3): after every run of events,
-- so at every moment of it.
abbrev pub Safety : Type 0
Safety = (r : Rules) (start : World) → Start start → (es : List Event) → Safe (run r start es)
