-- What holds of the arrays of both ends holds of them after every event of a run; so they keep their 253 bytes.
-- Assumes nothing.
use Prim.Native.Nat.{ℕ}
use mathlib.Core.Path.{◌≡◌}
use mathlib.Core.List.{List, [], ◌∷◌}
use lib.ListN.{length}
use Rattle.frame.proofs.Laws.{pick_both}
use Rattle.side.specs.Side.{Slots}
use Rattle.side.proofs.Slots.{Lays, lays_size}
use Rattle.slave.proofs.Slots.{slave_put_lem, slave-take, slave-step, slave_clear_lem}
use Rattle.master.proofs.Slots.{Holds, master_put_lem, master-take, master-order, master_response_lem, master-silence, master_clear_lem}
use Rattle.link.specs.Runs.{OnLine, quiet, asks, answers, World, Event, master_put, slave_put, master_take, slave_take, master_clear, slave_clear, order, arrives, hears, lost, foreign, overhears, silence, bears, arrive, hear, step, run, Sized}

pub record Both (H J : List ℕ → Type 0) (w : World) : Type 0 where
  pub master : Slots H J w.master.side
  pub slave : Slots H J w.slave.side

-- the message that an event puts keeps what holds of an array, laid over it
abbrev pub PutLays : (List ℕ → Type 0) → Event → Type 0
PutLays H (master_put k) = Lays H k
PutLays H (slave_put k) = Lays H k
PutLays H (master_take out) = Unit {0}
PutLays H (slave_take out) = Unit {0}
PutLays H master_clear = Unit {0}
PutLays H slave_clear = Unit {0}
PutLays H (order tick out) = Unit {0}
PutLays H (arrives out) = Unit {0}
PutLays H (hears tick) = Unit {0}
PutLays H lost = Unit {0}
PutLays H (foreign n f k tick) = Unit {0}
PutLays H (overhears n f k out) = Unit {0}
PutLays H silence = Unit {0}

module _ {H J : List ℕ → Type 0} where
  -- of the tick nothing is said
  of_master : (w : World) → Both H J w → Holds H J (λ _. Unit {0}) w.master
  of_master w b = record { slots = b.master; tick = tt }

  pub both_slots : ((k : List ℕ) → Lays J k) → (w : World) (e : Event) → PutLays H e → Both H J w → Both H J (step w e)
  both_slots lays w (master_put k) p b = record { master = (master_put_lem w.master k p (of_master w b)).slots; slave = b.slave }
  both_slots lays w (slave_put k) p b = record { master = b.master; slave = slave_put_lem w.slave k p b.slave }
  both_slots lays w (master_take out) p b = record { master = (master-take w.master (length out) (of_master w b)).slots; slave = b.slave }
  both_slots lays w (slave_take out) p b = record { master = b.master; slave = slave-take w.slave (length out) b.slave }
  both_slots lays w master_clear p b = record { master = (master_clear_lem w.master (of_master w b)).slots; slave = b.slave }
  both_slots lays w slave_clear p b = record { master = b.master; slave = slave_clear_lem w.slave b.slave }
  both_slots lays w (order tick out) p b = record { master = (master-order w.master tick (length out) tt (of_master w b)).slots; slave = b.slave }
  both_slots lays w (arrives out) p b = go w.line
    where
      go : (l : OnLine) → Both H J (arrive w l out)
      go quiet = b
      go (asks c) =
          record {
            master = b.master;
            slave = slave-step w.slave c.address c.meaning c.information (length out) (lays c.information) b.slave;
          }
      go (answers c) = b
  both_slots lays w (hears tick) p b = go w.line
    where
      go : (l : OnLine) → Both H J (hear w l tick)
      go quiet = b
      go (asks c) = b
      go (answers c) =
          record {
            master = (master_response_lem w.master c.address c.meaning c.information tick (lays c.information) (of_master w b)).slots;
            slave = b.slave;
          }
  both_slots lays w lost p b = record { master = b.master; slave = b.slave }
  both_slots lays w (foreign n f k tick) p b =
      pick_both (Both H J) (bears w.master.address n) _ _ b
      (record { master = (master_response_lem w.master n f k tick (lays k) (of_master w b)).slots; slave = b.slave })
  both_slots lays w (overhears n f k out) p b =
      pick_both (Both H J) (bears w.slave.address n) _ _ b
      (record { master = b.master; slave = slave-step w.slave n f k (length out) (lays k) b.slave })
  both_slots lays w silence p b = record { master = (master-silence w.master (of_master w b)).slots; slave = b.slave }

-- ---- 253 bytes

put_lays : (e : Event) → PutLays (λ x. length x ≡ 253) e
put_lays (master_put k) = lays_size k
put_lays (slave_put k) = lays_size k
put_lays (master_take out) = tt
put_lays (slave_take out) = tt
put_lays master_clear = tt
put_lays slave_clear = tt
put_lays (order tick out) = tt
put_lays (arrives out) = tt
put_lays (hears tick) = tt
put_lays lost = tt
put_lays (foreign n f k tick) = tt
put_lays (overhears n f k out) = tt
put_lays silence = tt

pub sized : (w : World) (e : Event) → Sized w → Sized (step w e)
sized w e a =
    let b = both_slots lays_size w e (put_lays e) (record { master = a.master; slave = a.slave }) in
    record { master = b.master; slave = b.slave }

pub sized_run : (w : World) (es : List Event) → Sized w → Sized (run w es)
sized_run w [] a = a
sized_run w (e ∷ es) a = sized_run (step w e) es (sized w e a)
