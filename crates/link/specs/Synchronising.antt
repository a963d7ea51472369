-- Demand 3, where it starts: what a completed synchronisation is.
use Rattle.std.specs.Prelude.{◌≡◌, true, List}
use Rattle.master.specs.declared.Mode.TheVariants.{Connecting, Linked}
use Rattle.link.specs.Runs.{World, Event, step, run, from_here, Sized}
use Rattle.link.specs.Start.{Start}

-- "Start from a completed synchronisation": the master hears the UA to its SNRM (01, "Synchronising").
--
-- From any two ends whatever, unless the master is connecting and its order already waits, and after any run of calls: where an event takes the
-- master from connecting to linked, both ends stand as `Start` says, with all four counts zero and no sent message held. So demand 3's start is
-- one that these very calls reach, and `Safety`, `Honesty` and `Liveness` speak of what comes after it.
abbrev pub Synchronising : Type 0
Synchronising =
    (w : World) → Sized w → (w.master.waiting ≡ true → w.master.mode ≡ Connecting → ⊥) → (es : List Event) (e : Event)
    → let v = run w es in
    v.master.mode ≡ Connecting → (step v e).master.mode ≡ Linked → Start (from_here (step v e))
