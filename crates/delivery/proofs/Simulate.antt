-- Demand 3 of anything that stands for a world and whose calls do what `step` says: the form in which code's contracts meet it.
-- Assumes nothing.
use mathlib.Core.Path.{◌≡◌, refl, ◌∙◌, ap}
use mathlib.Core.Bool.{true}
use mathlib.Core.List.{List, [], ◌∷◌}
use Rattle.delivery.specs.Link.{connecting, linked, Rules}
use Rattle.delivery.specs.Runs.{World, Event, hears, step, run, Start, from_here}
use Rattle.delivery.specs.Safety.{Safe}
use Rattle.delivery.specs.Honesty.{Honest}
use Rattle.delivery.specs.Exchanges.{uncounted, wholes}
use Rattle.delivery.specs.Liveness.{Live}
use Rattle.delivery.proofs.Safe.{Inv, inv_run, inv_start, safety}
use Rattle.delivery.proofs.Honest.{honesty}
use Rattle.delivery.proofs.Live.{live}
use Rattle.delivery.proofs.Sync.{synchronising}

module _ (r : Rules) {W : Type 0} (abs : W → World) where
  -- The calls of a run, each with what its contract says of the worlds before and after it.
  pub data Calls : W → List Event → W → Type 0 where
    stop : {w : W} → Calls w [] w
    call : {w w' v : W} {e : Event} {es : List Event} → abs w' ≡ step r (abs w) e → Calls w' es v → Calls w (e ∷ es) v

  pub simulates : {w v : W} {es : List Event} → Calls w es v → abs v ≡ run r (abs w) es
  simulates stop = refl
  simulates (call {es = es} p c) = simulates c ∙ ap (λ (x : World). run r x es) p

  pub code_safe : {w v : W} {es : List Event} → Start (abs w) → Calls w es v → Safe (abs v)
  code_safe {w} {v} {es} s c = rw (simulates c) (safety r (abs w) s es)

  pub code_honest : {w v : W} {es : List Event} → Start (abs w) → Calls w es v → Honest (abs w) (abs v)
  code_honest {w} {v} {es} s c = rw (simulates c) (honesty r (abs w) s es)

  pub code_live : {start w v : W} {es₀ es : List Event} → Start (abs start) → Calls start es₀ w → Calls w es v
      → Live r (abs w) (wholes r uncounted (abs w) es) (abs v)
  code_live {start} {w} {v} {es₀} {es} s b c =
      let i : Inv (abs w) = rw (simulates b) (inv_run r (abs start) (inv_start (abs start) s) es₀) in
      rw (simulates c) (live r (abs w) i es)

  -- y is x with its logs begun anew: the start of what follows.
  pub code_synchronising : {w v x y : W} {es : List Event} → ((abs w).master.waiting ≡ true → (abs w).master.mode ≡ connecting → ⊥) → Calls w es v
      → (abs v).master.mode ≡ connecting → abs x ≡ step r (abs v) hears → (abs x).master.mode ≡ linked → abs y ≡ from_here (abs x) → Start (abs y)
  code_synchronising {w} {v} {x} {y} {es} n c q p l f =
      rw (f, p, simulates c) (synchronising r (abs w) n es (rw (simulates c) at q) (rw (p, simulates c) at l))
