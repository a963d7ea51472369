-- Demand 3, where it starts: what a completed synchronisation is.
use Rattle.std.specs.Prelude.{◌≡◌, true, List}
use Rattle.delivery.specs.Link.{connecting, linked, Rules}
use Rattle.delivery.specs.Runs.{World, Event, hears, step, run, Start, from_here}

-- "Start from a completed synchronisation": the master hears the UA to its SNRM (01, "Synchronising").
--
-- From any two ends whatever, unless the master is connecting and its order already waits, and after any run: where a response takes the
-- master from connecting to linked, both ends stand as `Start` says, with all four counts zero and no sent message held. So demand 3's start
-- is one that these ends reach by themselves, and `Safety`, `Honesty` and `Liveness` speak of what comes after it.
abbrev pub Synchronising : Type 0
Synchronising =
    (r : Rules) (w : World) → (w.master.waiting ≡ true → w.master.mode ≡ connecting → ⊥) → (es : List Event)
    → let v = run r w es in
    v.master.mode ≡ connecting → (step r v hears).master.mode ≡ linked → Start (from_here (step r v hears))
