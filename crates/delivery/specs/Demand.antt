-- Demand 3 whole, from a synchronisation that the two ends complete themselves.
use Rattle.std.specs.Prelude.{◌≡◌, true, List}
use Rattle.delivery.specs.Link.{connecting, linked, Rules}
use Rattle.delivery.specs.Runs.{World, Event, hears, step, run, from_here}
use Rattle.delivery.specs.Exchanges.{uncounted, wholes}
use Rattle.delivery.specs.Safety.{Safe}
use Rattle.delivery.specs.Honesty.{Honest}
use Rattle.delivery.specs.Liveness.{Live}

-- What is promised at w, some moment after the start.
pub record Promised (r : Rules) (start w : World) : Type 0 where
  pub safe : Safe w
  pub honest : Honest start w
  pub live : (es : List Event) → Live r w (wholes r uncounted w es) (run r w es)

-- Any two ends, unless the master is connecting and its order already waits; any run; a response that takes the master from connecting to linked.
-- From there on, with the logs begun at that moment, and after any further run, all is as promised.
abbrev pub Demand : Type 0
Demand =
    (r : Rules) (w : World) → (w.master.waiting ≡ true → w.master.mode ≡ connecting → ⊥) → (es : List Event)
    → let v = run r w es in
    v.master.mode ≡ connecting → (step r v hears).master.mode ≡ linked
    → let start = from_here (step r v hears) in
    (es' : List Event) → Promised r start (run r start es')
