-- What every event leaves of the ends: their addresses and the master's limit.
-- Assumes nothing.
use Prim.Native.Nat.{ℕ}
use mathlib.Core.Path.{◌≡◌, refl}
use mathlib.Core.List.{List}
use lib.ListN.{length}
use Rattle.frame.specs.declared.Meaning.{Meaning}
use Rattle.frame.specs.declared.Meaning.TheVariants.{I, Rr, Rnr, Snrm, Disc, Ua, Frmr}
use Rattle.frame.proofs.Laws.{pick_both}
use Rattle.side.specs.Right.{address_wrong}
use Rattle.side.specs.Rule.{count_rule}
use Rattle.side.specs.declared.Side.{Side}
use Rattle.side.specs.declared.answer.Change.TheVariants.{Same}
use Rattle.std.specs.Prelude.{Option, None, Some}
use Rattle.side.specs.declared.rule.Accepted.{Accepted}
use Rattle.side.proofs.Calls.{refusing_keeps}
use Rattle.slave.specs.Slave as slave
use Rattle.slave.specs.Step as slave-step
use Rattle.slave.specs.Step.{in_ndm, responds, in_nrm, moved_in, moved, step_refusal, step_of}
use Rattle.slave.specs.declared.Mode.{Mode as SlaveMode}
use Rattle.slave.specs.declared.Mode.TheVariants.{Ndm, Nrm}
use Rattle.slave.specs.declared.Slave.{Slave}
use Rattle.master.specs.Master as master
use Rattle.master.specs.Order.{in_linked, orders_in, orders, order_refusal, order_of}
use Rattle.master.specs.Response.{turns, is_ua, accepts, hear_disconnecting, hear_connecting, on_heard, hear_linked, hears_in, hears, silence_refusal, response_refusal, counts_as_silence, response_of, silence_of, Report}
use Rattle.master.specs.declared.Mode.{Mode as MasterMode}
use Rattle.master.specs.declared.Mode.TheVariants.{Disconnecting, Connecting, Linked}
use Rattle.master.specs.declared.Master.{Master}
use Rattle.master.specs.declared.response.Brought.{Brought}
use Rattle.side.specs.Given.{Given}
use Rattle.link.specs.Runs.{OnLine, quiet, asks, answers, World, Event, master_put, slave_put, master_take, slave_take, master_clear, slave_clear, order, arrives, hears as heard, lost, foreign, overhears, silence, bears, arrive, hear, step}

pub record KeptMaster (m m' : Master) : Type 0 where
  pub address : m'.address ≡ m.address
  pub limit : m'.limit ≡ m.limit

-- the slave

module _ (s : Slave) where
  abbrev KeptSlave : Slave → Type 0
  KeptSlave s' = s'.address ≡ s.address

  ndm_kept : (f : Meaning) → KeptSlave (in_ndm s f).slave
  unfolding in_ndm
  ndm_kept (I ns nr) = refl
  ndm_kept (Rr nr) = refl
  ndm_kept (Rnr nr) = refl
  ndm_kept Snrm = refl
  ndm_kept Disc = refl
  ndm_kept Ua = refl
  ndm_kept Frmr = refl

  heard-kept : (f : Meaning) (t : Side) (h : Option Accepted) → KeptSlave (slave-step.on_heard s f t h).slave
  unfolding responds
  heard-kept f t None = refl
  heard-kept f t (Some a) = refl

  moved-kept : (f : Meaning) (k : List ℕ) → KeptSlave (moved s f k).slave
  unfolding moved in_nrm
  moved-kept f k = go s.mode
    where
      go : (q : SlaveMode) → KeptSlave (moved_in q s f k).slave
      go Ndm = ndm_kept f
      go Nrm = heard-kept f (count_rule s.side f k).side (count_rule s.side f k).heard

  slave_put_lem : (k : List ℕ) → KeptSlave (slave.put_of s k).end
  unfolding slave.put_of
  slave_put_lem k = refusing_keeps KeptSlave (address_wrong s.address) s _ refl (λ z. refl)

  slave-take : (room : ℕ) → KeptSlave (slave.take_of s room).end
  unfolding slave.take_of
  slave-take room = refusing_keeps KeptSlave (address_wrong s.address) s _ refl (λ z. refl)

  slave_clear_lem : KeptSlave (slave.clear_of s).end
  unfolding slave.clear_of
  slave_clear_lem = refusing_keeps KeptSlave (slave.slave_wrong s) s _ refl (λ z. refl)

  slave_steps : (n : ℕ) (f : Meaning) (k : List ℕ) (room : ℕ) → KeptSlave (step_of s n f k room).end
  unfolding step_of
  slave_steps n f k room = refusing_keeps KeptSlave (step_refusal s n f k room) s _ refl (λ z. moved-kept f k)

-- the master

module _ (m : Master) where
  master_same : KeptMaster m m
  master_same = record { address = refl; limit = refl }

  pub orders-kept : (tick : ℕ) → KeptMaster m (orders m tick).master
  unfolding orders in_linked
  orders-kept tick = go m.mode
    where
      go : (q : MasterMode) → KeptMaster m (orders_in q m tick).master
      go Disconnecting = record { address = refl; limit = refl }
      go Connecting = record { address = refl; limit = refl }
      go Linked = record { address = refl; limit = refl }

  onheard_kept : (f : Meaning) (t : Side) (h : Option Accepted) → KeptMaster m (on_heard m f t h).master
  unfolding accepts
  onheard_kept f t None = record { address = refl; limit = refl }
  onheard_kept f t (Some a) = record { address = refl; limit = refl }

  hears-kept : (f : Meaning) (k : List ℕ) → KeptMaster m (hears m f k).master
  unfolding hears hear_disconnecting hear_connecting hear_linked
  hears-kept f k = go m.mode
    where
      P : Brought → Type 0
      P x = KeptMaster m x.master

      touches : (q : MasterMode) → P (turns m q Same)
      touches q = record { address = refl; limit = refl }

      go : (q : MasterMode) → KeptMaster m (hears_in q m f k).master
      go Disconnecting = pick_both P (is_ua f) _ _ (touches Connecting) (touches Disconnecting)
      go Connecting = pick_both P (is_ua f) _ _ (record { address = refl; limit = refl }) (touches Disconnecting)
      go Linked = onheard_kept f (count_rule m.side f k).side (count_rule m.side f k).heard

  master_put_lem : (k : List ℕ) → KeptMaster m (master.put_of m k).end
  unfolding master.put_of
  master_put_lem k =
      refusing_keeps (KeptMaster m) (master.outer_wrong m.address m.limit) m _ master_same
      (λ z. record { address = refl; limit = refl })

  master-take : (room : ℕ) → KeptMaster m (master.take_of m room).end
  unfolding master.take_of
  master-take room =
      refusing_keeps (KeptMaster m) (master.outer_wrong m.address m.limit) m _ master_same
      (λ z. record { address = refl; limit = refl })

  master_clear_lem : KeptMaster m (master.clear_of m).end
  unfolding master.clear_of
  master_clear_lem =
      refusing_keeps (KeptMaster m) (master.master_wrong m) m _ master_same (λ z. record { address = refl; limit = refl })

  master-orders : (tick room : ℕ) → KeptMaster m (order_of m tick room).end
  unfolding order_of
  master-orders tick room = refusing_keeps (KeptMaster m) (order_refusal m room) m _ master_same (λ z. orders-kept tick)

  master-hears : (n : ℕ) (f : Meaning) (k : List ℕ) (tick : ℕ) → KeptMaster m (response_of m n f k tick).end
  unfolding response_of
  master-hears n f k tick =
      refusing_keeps (KeptMaster m) (response_refusal m f k) m _ master_same
      (λ z. pick_both (λ (g : Given Report Master). KeptMaster m g.end) (counts_as_silence m n tick) _ _
      (record { address = refl; limit = refl }) (hears-kept f k))

  master-silence : KeptMaster m (silence_of m).end
  unfolding silence_of
  master-silence =
      refusing_keeps (KeptMaster m) (silence_refusal m) m _ master_same (λ z. record { address = refl; limit = refl })

-- both

pub record Kept (w w' : World) : Type 0 where
  pub master : KeptMaster w.master w'.master
  pub slave : w'.slave.address ≡ w.slave.address

pub kept : (w : World) (e : Event) → Kept w (step w e)
kept w (master_put k) = record { master = master_put_lem w.master k; slave = refl }
kept w (slave_put k) = record { master = master_same w.master; slave = slave_put_lem w.slave k }
kept w (master_take out) = record { master = master-take w.master (length out); slave = refl }
kept w (slave_take out) = record { master = master_same w.master; slave = slave-take w.slave (length out) }
kept w master_clear = record { master = master_clear_lem w.master; slave = refl }
kept w slave_clear = record { master = master_same w.master; slave = slave_clear_lem w.slave }
kept w (order tick out) = record { master = master-orders w.master tick (length out); slave = refl }
kept w (arrives out) = go w.line
  where
    go : (l : OnLine) → Kept w (arrive w l out)
    go quiet = record { master = master_same w.master; slave = refl }
    go (asks c) =
        record { master = master_same w.master; slave = slave_steps w.slave c.address c.meaning c.information (length out) }
    go (answers c) = record { master = master_same w.master; slave = refl }
kept w (heard tick) = go w.line
  where
    go : (l : OnLine) → Kept w (hear w l tick)
    go quiet = record { master = master_same w.master; slave = refl }
    go (asks c) = record { master = master_same w.master; slave = refl }
    go (answers c) =
        record { master = master-hears w.master c.address c.meaning c.information tick; slave = refl }
kept w lost = record { master = master_same w.master; slave = refl }
kept w (foreign n f k tick) =
    pick_both (Kept w) (bears w.master.address n) _ _ (record { master = master_same w.master; slave = refl })
    (record { master = master-hears w.master n f k tick; slave = refl })
kept w (overhears n f k out) =
    pick_both (Kept w) (bears w.slave.address n) _ _ (record { master = master_same w.master; slave = refl })
    (record { master = master_same w.master; slave = slave_steps w.slave n f k (length out) })
kept w silence = record { master = master-silence w.master; slave = refl }
