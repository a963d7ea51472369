-- Demand 3, liveness in its own words.
use Rattle.std.specs.Prelude.{◌≤◌, ◌≡◌, List, [], ◌∷◌, length}
use Rattle.delivery.specs.Link.{Message, Rules, holds}
use Rattle.delivery.specs.Runs.{World, Event, step, run, Start}
use Rattle.delivery.specs.Exchanges.{Turn, begins, ends, neither, turn, uncounted, wholes}
use Rattle.delivery.specs.Liveness.{MasterRoom, SlaveRoom, Delivered}

module _ (r : Rules) where
  -- "Where both incoming slots are empty as each exchange begins": both sides have room as each exchange of a run begins.
  abbrev pub RoomAt : Turn → World → Type 0
  RoomAt begins w = MasterRoom r w × SlaveRoom r w
  RoomAt ends w = Unit {0}
  RoomAt neither w = Unit {0}

  abbrev pub Roomy : World → List Event → Type 0
  Roomy w [] = Unit {0}
  Roomy w (e ∷ es) = RoomAt (turn w e) w × Roomy (step r w e) es

-- What both ends held at w is delivered at v.
pub record Delivers (w v : World) : Type 0 where
  pub down : (m : Message) → holds w.master.end.held ≡ m ∷ [] → Delivered w.down.confirmed m v.down
  pub up : (m : Message) → holds w.slave.end.held ≡ m ∷ [] → Delivered w.up.confirmed m v.up

-- "Where both incoming slots are empty as each exchange begins, a message held at that moment or put since is handed over and confirmed once two
-- exchanges begun after it was put have come through whole" (demand 3). It follows from `Liveness`, which asks for less: here room is asked on both
-- sides as each exchange begins, those that are lost too.
abbrev pub LivenessInWords : Type 0
LivenessInWords =
    (r : Rules) (start : World) → Start start → (es₀ es : List Event)
    → let w = run r start es₀ in
    Roomy r w es → 2 ≤ length (wholes r uncounted w es) → Delivers w (run r w es)
