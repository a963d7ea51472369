-- Demand 3, liveness in its own words.
use Rattle.std.specs.Prelude.{◌≤◌, ◌≡◌, List, [], ◌∷◌, length}
use Rattle.delivery.specs.Link.{Message}
use Rattle.delivery.specs.Exchanges.{Turn, begins, ends, neither, uncounted}
use Rattle.delivery.specs.Liveness.{Delivered}
use Rattle.link.specs.Ends.{message}
use Rattle.link.specs.Runs.{World, Event, step, run, Sized}
use Rattle.link.specs.Exchanges.{turn, wholes}
use Rattle.link.specs.Start.{Start}

-- "Where both incoming slots are empty as each exchange begins"
abbrev pub RoomAt : Turn → World → Type 0
RoomAt begins w = (w.master.side.waits ≡ 0) × (w.slave.side.waits ≡ 0)
RoomAt ends w = Unit {0}
RoomAt neither w = Unit {0}

abbrev pub Roomy : World → List Event → Type 0
Roomy w [] = Unit {0}
Roomy w (e ∷ es) = RoomAt (turn w e) w × Roomy (step w e) es

-- What both ends held at w "is handed over and confirmed" at v, next after what was confirmed before.
pub record Delivers (w v : World) : Type 0 where
  pub down : (m : Message) → message w.master.side.held w.master.side.holds ≡ m ∷ [] → Delivered w.down.confirmed m v.down
  pub up : (m : Message) → message w.slave.side.held w.slave.side.holds ≡ m ∷ [] → Delivered w.up.confirmed m v.up

-- "Where both incoming slots are empty as each exchange begins, a message held at that moment or put since is handed over and confirmed once two
-- exchanges begun after it was put have come through whole" (demand 3). It follows from `Liveness`, which asks for less: here room is asked on both
-- sides as each exchange begins, those that are lost too.
abbrev pub LivenessInWords : Type 0
LivenessInWords =
    (start : World) → Sized start → Start start → (es₀ es : List Event)
    → let w = run start es₀ in
    Roomy w es → 2 ≤ length (wholes uncounted w es) → Delivers w (run w es)
