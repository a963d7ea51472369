-- A run of the code's calls is a run over lists, with the same whole exchanges and the same room.
-- Assumes nothing.
use Prim.Native.Nat.{◌<◌}
use mathlib.Core.Path.{◌≡◌, refl, ap}
use mathlib.Core.List.{List, [], ◌∷◌}
use native.Mathlib.Omega.{arith}
use lib.ListN.{length}
use borrow.Author.Tests.{eq-eqb}
use Rattle.side.specs.declared.Side.{Side}
use Rattle.delivery.specs.Runs as lists
use Rattle.delivery.specs.Exchanges as exchanges
use Rattle.delivery.specs.Exchanges.{Turn, begins, ends, neither, Under, under, counted}
use Rattle.delivery.specs.LivenessInWords as words
use Rattle.delivery.proofs.Simulate.{Calls, stop, call}
use Rattle.link.specs.Ends.{rules, message}
use Rattle.link.specs.Runs.{World, Event, master_put, slave_put, master_take, slave_take, master_clear, slave_clear, order, arrives, hears, lost, foreign, overhears, silence, step, run, Sized, over_lists}
use Rattle.link.specs.Exchanges.{turn, wholes}
use Rattle.link.specs.LivenessInWords.{RoomAt, Roomy}
use Rattle.link.proofs.Does.{Does}
use Rattle.link.proofs.Owners as owners
use Rattle.link.proofs.Lines as lines
use Rattle.link.proofs.Slots.{sized}

pub does : (w : World) (e : Event) → Sized w → Does (over_lists w) (over_lists (step w e)) (turn w e)
does w (master_put m) a = owners.master_put_lem w m
does w (slave_put m) a = owners.slave_put_lem w m
does w (master_take out) a = owners.master-take w out a.master
does w (slave_take out) a = owners.slave-take w out a.slave
does w master_clear a = owners.master_clear_lem w
does w slave_clear a = owners.slave_clear_lem w
does w (order tick out) a = lines.order_does w tick out a.master
does w (arrives out) a = lines.arrives_does w out a.slave
does w (hears tick) a = lines.hears_does w tick
does w lost a = record { event = lists.lost; step = refl; turn = refl }
does w (foreign n f k tick) a = lines.foreign_does w n f k tick
does w (overhears n f k out) a = owners.slave_overhears w n f k out
does w silence a = lines.silence_does w

-- the events over lists that a run is, and its whole exchanges
pub record Run (u : Under) (w : World) (es : List Event) : Type 0 where
  pub events : List lists.Event
  pub calls : Calls rules over_lists w events (run w es)
  pub exchanges : wholes u w es ≡ exchanges.wholes rules u (over_lists w) events
  pub roomy : Roomy w es → words.Roomy rules (over_lists w) events

-- an empty incoming slot is room over lists
room : (s : Side) → s.waits ≡ 0 → length (message s.incoming s.waits) < 1
room s e = rw (eq-eqb s.waits 0 e) (omega arith)

room-over : (t : Turn) (w : World) → RoomAt t w → words.RoomAt rules t (over_lists w)
room-over begins w (m, s) = (room w.master.side m, room w.slave.side s)
room-over ends w p = tt
room-over neither w p = tt

pub runs : (u : Under) (w : World) (es : List Event) → Sized w → Run u w es
runs u w [] a = record { events = []; calls = stop; exchanges = refl; roomy = λ p. tt }
runs u w (e ∷ es) a =
    let d = does w e a in
    let r = runs (under (turn w e) (over_lists w) u) (step w e) es (sized w e a) in
    record {
      events = d.event ∷ r.events;
      calls = call d.step r.calls;
      exchanges = rw (d.turn, ← d.step) (ap (counted (turn w e) u) r.exchanges);
      roomy = λ p. (rw d.turn (room-over (turn w e) w p.0), rw (← d.step) (r.roomy p.1));
    }
