-- Beside demand 3: the ends themselves lose no exchange.
use Rattle.std.specs.Prelude.{ℕ, ◌≤◌, ◌<◌, ◌≡◌, false, List, [], ◌∷◌, length}
use Rattle.slave.specs.Slave.{slave_wrong}
use Rattle.master.specs.Master.{master_wrong, make_refusal}
use Rattle.master.specs.Response.{age_of}
use Rattle.delivery.specs.Exchanges.{uncounted}
use Rattle.link.specs.Runs.{World, Event, order, arrives, hears, made, run, Sized, over_lists}
use Rattle.link.specs.Exchanges.{wholes}

-- Safety, honesty and liveness alone could be met by ends that refuse every call: no exchange would come through whole. So this is said too:
-- two right ends of one address, no order waiting; an order and a step with lent buffers of 253 bytes or more, and the response handed in at an
-- age below the limit. Whatever the ends hold, and in whatever modes and counts they are, that exchange comes through whole.
abbrev pub ComesThrough : Type 0
ComesThrough =
    (w : World) → Sized w → master_wrong w.master ≡ 0 → slave_wrong w.slave ≡ 0 → w.slave.address ≡ w.master.address → w.master.waiting ≡ false
    → (tick tick' : ℕ) (out out' : List ℕ) → 253 ≤ length out → 253 ≤ length out' → age_of tick' tick < w.master.limit
    → wholes uncounted w (order tick out ∷ arrives out' ∷ hears tick' ∷ []) ≡ over_lists w ∷ []

-- Two fresh ends of one address stay so: at every moment of every run at which no order waits.
abbrev pub AlwaysComesThrough : Type 0
AlwaysComesThrough =
    (a l : ℕ) → make_refusal a l ≡ 0 → (es : List Event)
    → let w = run (made a l a) es in
    w.master.waiting ≡ false
    → (tick tick' : ℕ) (out out' : List ℕ) → 253 ≤ length out → 253 ≤ length out' → age_of tick' tick < l
    → wholes uncounted w (order tick out ∷ arrives out' ∷ hears tick' ∷ []) ≡ over_lists w ∷ []
