-- Demand 3 whole, from a synchronisation that the calls themselves complete.
use Rattle.std.specs.Prelude.{ℕ, ◌≤◌, ◌≡◌, List, length}
use Rattle.master.specs.declared.Mode.TheVariants.{Connecting, Linked}
use Rattle.delivery.specs.Exchanges.{uncounted}
use Rattle.link.specs.Runs.{World, Event, made, step, run, from_here}
use Rattle.link.specs.Exchanges.{wholes}
use Rattle.link.specs.Start.{Start}
use Rattle.link.specs.Safety.{Safe}
use Rattle.link.specs.Honesty.{Honest}
use Rattle.link.specs.Liveness.{Live}
use Rattle.link.specs.LivenessInWords.{Roomy, Delivers}

-- What is promised at w, some moment after the start.
pub record Promised (start w : World) : Type 0 where
  pub safe : Safe w
  pub honest : Honest start w
  pub live : (es : List Event) → Live w (wholes uncounted w es) (run w es)
  pub in_words : (es : List Event) → Roomy w es → 2 ≤ length (wholes uncounted w es) → Delivers w (run w es)

-- Two fresh ends; any run of calls; an event that takes the master from connecting to linked. From there on, with the logs begun at that moment,
-- and after any further run of calls, all is as promised. Nothing else is supposed.
abbrev pub Demand : Type 0
Demand =
    (a l b : ℕ) (es : List Event) (e : Event)
    → let v = run (made a l b) es in
    v.master.mode ≡ Connecting → (step v e).master.mode ≡ Linked
    → let start = from_here (step v e) in
    Start start × ((es' : List Event) → Promised start (run start es'))
