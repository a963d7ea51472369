-- Demand 3, liveness: two exchanges that come through whole hand a held message over and confirm it.
use Rattle.std.specs.Prelude.{◌≡◌, List, [], ◌∷◌}
use Rattle.delivery.specs.Link.{Message}
use Rattle.delivery.specs.Runs as lists
use Rattle.delivery.specs.Exchanges.{uncounted}
use Rattle.delivery.specs.Liveness.{MasterRoom, SlaveRoom, Anyhow, Two, Delivered}
use Rattle.link.specs.Ends.{rules, message}
use Rattle.link.specs.Runs.{World, Event, run, Sized}
use Rattle.link.specs.Exchanges.{wholes}
use Rattle.link.specs.Start.{Start}

-- What the exchanges that came through whole between w and v have done. Room, which is an empty incoming slot, is asked only where it is needed.
pub record Live (w : World) (exchanges : List lists.World) (v : World) : Type 0 where
  -- The first of two begins with room at the slave, so that its response clears the busy mark; the second with room at the master, so that
  -- its order is I. Only the message itself can fill the room that the slave had.
  pub down : (m : Message) → message w.master.side.held w.master.side.holds ≡ m ∷ []
      → Two (SlaveRoom rules) (MasterRoom rules) exchanges → Delivered w.down.confirmed m v.down
  -- The first of two begins with room at the master, so that its response is I and is taken; the order of the second confirms it.
  pub up : (m : Message) → message w.slave.side.held w.slave.side.holds ≡ m ∷ []
      → Two (MasterRoom rules) Anyhow exchanges → Delivered w.up.confirmed m v.up

-- "a message held at that moment or put since is handed over and confirmed once two exchanges begun after it was put have come through whole"
-- (demand 3). The moment w is any one since the synchronisation, so what is held then was held at the start or put since; what happens after
-- it is the run `es`, with any number of lost exchanges before, between and after the two.
abbrev pub Liveness : Type 0
Liveness =
    (start : World) → Sized start → Start start → (es₀ es : List Event)
    → let w = run start es₀ in
    Live w (wholes uncounted w es) (run w es)
