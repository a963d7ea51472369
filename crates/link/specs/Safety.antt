-- Demand 3, safety: what holds at every moment of every run of calls.
use Rattle.std.specs.Prelude.{◌≡◌, ◌⊎◌, List, ◌++◌}
use Rattle.frame.specs.declared.Meaning.TheVariants.{Frmr}
use Rattle.side.specs.declared.Side.{Side}
use Rattle.slave.specs.declared.Mode.TheVariants.{Nrm}
use Rattle.master.specs.declared.Mode.TheVariants.{Linked}
use Rattle.delivery.specs.Link.{Message}
use Rattle.link.specs.Ends.{message}
use Rattle.frame.specs.Carried.{Carried}
use Rattle.link.specs.Runs.{answers, World, Event, run, Sized}
use Rattle.link.specs.Start.{Start}

-- "the messages handed over since that moment are those confirmed to their sender since, in order, followed at most by the one still held"
abbrev pub Lined : List Message → List Message → Side → Type 0
Lined handed confirmed sender = (handed ≡ confirmed) ⊎ (handed ≡ confirmed ++ message sender.held sender.holds)

pub record Safe (w : World) : Type 0 where
  -- "Neither end calls for resynchronisation": the master stays linked, the slave in NRM, and no response is FRMR.
  pub master_mode : w.master.mode ≡ Linked
  pub slave_mode : w.slave.mode ≡ Nrm
  pub no_frmr : (c : Carried) → w.line ≡ answers c → c.meaning ≡ Frmr → ⊥
  -- "each way"
  pub down : Lined w.down.handed w.down.confirmed w.master.side
  pub up : Lined w.up.handed w.up.confirmed w.slave.side

-- "Start from a completed synchronisation, restart neither end, and let each order and each response arrive as sent or be lost, a response always
-- belonging to the order just sent. Owners may put and take messages at any moment. Then, each way, .." (demand 3): after every run of events,
-- so at every moment of it. Refused calls, late responses and what other stations say and are told are among the events.
abbrev pub Safety : Type 0
Safety = (start : World) → Sized start → Start start → (es : List Event) → Safe (run start es)
