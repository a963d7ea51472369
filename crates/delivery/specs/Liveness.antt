-- Demand 3, liveness: two exchanges that come through whole hand a held message over and confirm it.
use Rattle.std.specs.Prelude.{◌<◌, ◌≡◌, ◌⊎◌, List, [], ◌∷◌, ◌++◌, length}
use Rattle.delivery.specs.Link.{Message, End, Rules, holds}
use Rattle.delivery.specs.Runs.{Logs, World, Event, run, Start}
use Rattle.delivery.specs.Exchanges.{uncounted, wholes}

-- Room on an incoming side; where it takes one message: "the slot is empty".
abbrev pub Room : Rules → End → Type 0
Room r e = length e.incoming < r.capacity

abbrev pub MasterRoom : Rules → World → Type 0
MasterRoom r w = Room r w.master.end

abbrev pub SlaveRoom : Rules → World → Type 0
SlaveRoom r w = Room r w.slave.end

abbrev pub Anyhow : World → Type 0
Anyhow w = Unit {0}

-- One of the worlds has p; two of them have p and q, the one with p being the earlier.
abbrev pub One : (World → Type 0) → List World → Type 0
One p [] = ⊥
One p (w ∷ ws) = p w ⊎ One p ws

abbrev pub Two : (World → Type 0) → (World → Type 0) → List World → Type 0
Two p q [] = ⊥
Two p q (w ∷ ws) = (p w × One q ws) ⊎ Two p q ws

-- m stands in the log, next after those of c.
abbrev pub Next : List Message → Message → List Message → Type 0
Next c m log = (rest : List Message) × (log ≡ c ++ (m ∷ rest))

-- m "is handed over and confirmed", next after those of c.
pub record Delivered (c : List Message) (m : Message) (l : Logs) : Type 0 where
  pub handed : Next c m l.handed
  pub confirmed : Next c m l.confirmed

-- What the exchanges that came through whole between w and v have done. Room is asked only where it is needed.
pub record Live (r : Rules) (w : World) (exchanges : List World) (v : World) : Type 0 where
  -- The first of two begins with room at the slave, so that its response clears the busy mark; the second with room at the master, so that
  -- its order is I. Only the message itself can fill the room that the slave had.
  pub down : (m : Message) → holds w.master.end.held ≡ m ∷ [] → Two (SlaveRoom r) (MasterRoom r) exchanges → Delivered w.down.confirmed m v.down
  -- The first of two begins with room at the master, so that its response is I and is taken; the order of the second confirms it.
  pub up : (m : Message) → holds w.slave.end.held ≡ m ∷ [] → Two (MasterRoom r) Anyhow exchanges → Delivered w.up.confirmed m v.up

-- "a message held at that moment or put since is handed over and confirmed once two exchanges begun after it was put have come through whole"
-- (demand 3). The moment w is any one since the synchronisation, so what is held then was held at the start or put since; what happens after
-- it is the run `es`, with any number of lost exchanges before, between and after the two.
abbrev pub Liveness : Type 0
Liveness =
    (r : Rules) (start : World) → Start start → (es₀ es : List Event)
    → let w = run r start es₀ in
    Live r w (wholes r uncounted w es) (run r w es)
