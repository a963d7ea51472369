-- Liveness: both ways put together, and demand 3's own words from it.
-- Assumes nothing.
use Prim.Native.Nat.{◌≤◌}
use native.Mathlib.Omega.{arith}
use mathlib.Core.Path.{refl}
use mathlib.Core.List.{List, [], ◌∷◌}
use mathlib.Core.Logic.{inl}
use lib.ListN.{length}
use Rattle.delivery.specs.Link.{Message, Held, Rules}
use Rattle.delivery.specs.Runs.{World, Event, step, run}
use Rattle.delivery.specs.Exchanges.{Turn, begins, ends, neither, turn, Under, uncounted, begun, under, counted, wholes}
use Rattle.delivery.specs.Liveness.{MasterRoom, SlaveRoom, Anyhow, Two, Next, Live, Liveness}
use Rattle.delivery.specs.LivenessInWords.{RoomAt, Roomy, Delivers, LivenessInWords}
use Rattle.delivery.proofs.Way.{Due, level, over}
use Rattle.delivery.proofs.Safe.{Inv, inv_run, inv_start}
use Rattle.delivery.proofs.Stages.{next_longer}
use Rattle.delivery.proofs.Down.{down_run}
use Rattle.delivery.proofs.Up.{up_run}

-- What is confirmed was handed over.
handed_too : (c : List Message) (m : Message) {o : Held} {h l : List Message} → Due o h l → Next c m l → Next c m h
handed_too c m (level p) n = rw p n
handed_too c m (over k s p) n = next_longer c m (k ∷ [], p) n

-- From any moment at which the invariant holds.
pub live : (r : Rules) (w : World) → Inv w → (es : List Event) → Live r w (wholes r uncounted w es) (run r w es)
live r w i es =
    let j : Inv (run r w es) = inv_run r w i es in
    record {
      down = λ m p t.
          let d = down_run r w.down.confirmed m w i (record { held = p; log = refl }) es t in
          record { handed = handed_too w.down.confirmed m j.down.due d; confirmed = d };
      up = λ m p t.
          let d = up_run r w.up.confirmed m w i (record { held = p; log = refl }) es t in
          record { handed = handed_too w.up.confirmed m j.up.due d; confirmed = d };
    }

pub liveness : Liveness
liveness r start s es₀ es = live r (run r start es₀) (inv_run r start (inv_start start s) es₀) es

-- Room on both sides as each exchange begins gives it to those that come through whole.
module _ (r : Rules) where
  abbrev Both : World → Type 0
  Both w = MasterRoom r w × SlaveRoom r w

  abbrev Every : List World → Type 0
  Every [] = Unit {0}
  Every (w ∷ ws) = Both w × Every ws

  abbrev Had : Under → Type 0
  Had uncounted = Unit {0}
  Had (begun v) = Both v

  had_under : (t : Turn) (w : World) (u : Under) → RoomAt r t w → Had u → Had (under t w u)
  had_under begins w u x h = x
  had_under ends w u x h = tt
  had_under neither w u x h = h

  every_counted : (t : Turn) (u : Under) (ws : List World) → Had u → Every ws → Every (counted t u ws)
  every_counted begins u ws h a = a
  every_counted ends uncounted ws h a = a
  every_counted ends (begun v) ws h a = (h, a)
  every_counted neither u ws h a = a

  every_whole : (u : Under) (w : World) → Had u → (es : List Event) → Roomy r w es → Every (wholes r u w es)
  every_whole u w h [] k = tt
  every_whole u w h (e ∷ es) (x, k) =
      let u' = under (turn w e) w u in
      every_counted (turn w e) u (wholes r u' (step r w e) es) h (every_whole u' (step r w e) (had_under (turn w e) w u x h) es k)

  two_of : (p q : World → Type 0) → ((w : World) → Both w → p w) → ((w : World) → Both w → q w) → (ws : List World) → Every ws → 2 ≤ length ws → Two p q ws
  two_of p q f g [] a n = absurd (omega arith)
  two_of p q f g (v ∷ []) a n = absurd (omega arith)
  two_of p q f g (v ∷ x ∷ ws) (a, (b, c)) n = inl (f v a, inl (g x b))

pub in_words_lem : (r : Rules) (w : World) (es : List Event) {v : World} → Live r w (wholes r uncounted w es) v → Roomy r w es → 2 ≤ length (wholes r uncounted w es)
    → Delivers w v
in_words_lem r w es l k n =
    let ws = wholes r uncounted w es in
    let a = every_whole r uncounted w tt es k in
    record {
      down = λ m p. l.down m p (two_of r (SlaveRoom r) (MasterRoom r) (λ v b. b.1) (λ v b. b.0) ws a n);
      up = λ m p. l.up m p (two_of r (MasterRoom r) Anyhow (λ v b. b.0) (λ v b. tt) ws a n);
    }

pub liveness_in_words : LivenessInWords
liveness_in_words r start s es₀ es = in_words_lem r (run r start es₀) es (liveness r start s es₀ es)
