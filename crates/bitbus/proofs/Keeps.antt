-- Bytes that number 30 finds nothing wrong with stay so in every call from C.
-- Assumes nothing.
use Prim.Native.Nat.{ℕ, suc, ◌<◌, ◌≤◌, ◌^◌}
use mathlib.Core.Path.{◌≡◌, ap, ◌∙◌}
use mathlib.Core.List.{List}
use native.Mathlib.Omega.{arith}
use lib.Dec.{eqb, ltb}
use lib.ListN.{length, drop, length-append, length-drop}
use lib.Seq.{length-take-le}
use borrow.Author.Tests.{eq-eqb, eqb-true, ltb-false}
use Rattle.frame.specs.Answer.{Answer, gives, refuses}
use Rattle.frame.specs.Refusal.{address_refusal}
use Rattle.frame.proofs.Laws.{pick_both, pick_first, pick_second, then_zero}
use Rattle.side.specs.Given.{Given}
use Rattle.side.specs.Right.{address_wrong, side_wrong}
use Rattle.side.specs.Side.{fresh, Arrays}
use Rattle.side.specs.declared.Side.{Side}
use Rattle.side.proofs.Parts.{parts, slot_small}
use Rattle.side.proofs.Slots.{fresh_arrays, lays_size}
use Rattle.slave.specs.Slave.{slave_wrong as end_wrong, begun, make_of, put_of, take_of, restart_of, clear_of}
use Rattle.slave.specs.Step.{step_of}
use Rattle.slave.specs.declared.Slave.{Slave}
use Rattle.slave.proofs.Keeps.{keeps as slave, parts as slave-parts}
use Rattle.slave.proofs.Slots.{slave_put_lem, slave-take, slave-step, slave_restart_lem, slave_clear_lem}
use Rattle.master.specs.Master.{master_wrong as master_end_wrong, limit_refusal, limit_wrong, outer_wrong, begun as master_begun, make_refusal, make_of as master_make_of, put_of as master_put_of, take_of as master_take_of, restart_of as master_restart_of, clear_of as master_clear_of}
use Rattle.master.specs.Order.{order_of}
use Rattle.master.specs.Response.{response_of, silence_of}
use Rattle.master.specs.declared.Master.{Master}
use Rattle.master.proofs.Keeps.{keeps as master, parts as master-parts}
use Rattle.master.proofs.Slots.{Holds, master_put_lem, master-take, master-order, master_response_lem, master-silence, master_restart_lem, master_clear_lem}
use Rattle.layout.specs.Layout.{side_at, side_bytes}
use Rattle.layout.specs.SlaveLayout.{slave_at, slave_bytes, slave_wrong}
use Rattle.layout.specs.MasterLayout.{master_at, master_bytes, master_tail, master_wrong}
use Rattle.layout.specs.Promises.{Typed}
use Rattle.layout.proofs.Laying.{side_length, tail_length}
use Rattle.layout.proofs.ReadBack.{read_back}
use Rattle.bitbus.specs.Call.{after}
use Rattle.layout.specs.Control.{meaning_of}
use Rattle.bitbus.specs.SlaveCalls.{on_slave, slave_make, slave_put, slave_take, slave_step, slave_restart, slave_clear}
use Rattle.bitbus.specs.MasterCalls.{on_master, master_make, master_put, master_take, master_order, master_response, master_silence, master_restart, master_clear}
use Rattle.bitbus.specs.Promises.{RightSlave, RightMaster, Keeps}

-- what holds of the old and of the new holds after a call
after_both : {A B : Type 0} (P : B → Type 0) (a : Answer A) (new old : B) → P new → P old → P (after (λ (v : A). new) a old)
after_both P (gives v) new old p q = p
after_both P (refuses n) new old p q = q

arrays_at : (b : List ℕ) → 528 ≤ length b → Arrays (side_at b)
unfolding side_at
arrays_at b h =
    record {
      held = length-take-le 253 (drop 22 b) (simp length-drop (omega arith));
      incoming = length-take-le 253 (drop 275 b) (simp length-drop (omega arith));
    }

slave_arrays : (b : List ℕ) → 528 ≤ length b → Arrays (slave_at b).side
unfolding slave_at
slave_arrays b h = arrays_at b h

master_arrays : (b : List ℕ) → 528 ≤ length b → Arrays (master_at b).side
unfolding master_at
master_arrays b h = arrays_at b h

typed : (s : Side) → Arrays s → side_wrong s ≡ 0 → Typed s
typed s h r =
    let p = parts s r in
    let holds = slot_small s.held s.holds p.held in
    let waits = slot_small s.incoming s.waits p.incoming in
    record { arrays = h; holds = omega arith; waits = omega arith }

-- the bytes of a right slave
slave_size : (s : Slave) → Arrays s.side → length (slave_bytes s) ≡ 528
unfolding slave_bytes
slave_size s h = ap (λ (n : ℕ). suc (suc n)) (side_length s.side h.held h.incoming)

slave_bytes_lem : (s : Slave) → Arrays s.side → end_wrong s ≡ 0 → RightSlave (slave_bytes s)
slave_bytes_lem s h r =
    let back = read_back.slave s (typed s.side h (slave-parts s r).1) in
    record { size = slave_size s h; layout = back.0; end = rw back.1 r }

on_slave_lem : {A : Type 0} (b : List ℕ) (call : Slave → Given A Slave) → RightSlave b
    → (Arrays (slave_at b).side → Arrays (call (slave_at b)).end.side)
    → (end_wrong (slave_at b) ≡ 0 → end_wrong (call (slave_at b)).end ≡ 0)
    → RightSlave (on_slave b call).end
on_slave_lem {A} b call r long right =
    let size = r.size in
    pick_both (λ (g : Given A (List ℕ)). RightSlave g.end) (eqb (slave_wrong b) 0) _ _
    (after_both RightSlave (call (slave_at b)).answer _ b (slave_bytes_lem (call (slave_at b)).end (long (slave_arrays b (omega arith))) (right r.end)) r)
    r

slave_make_lem : (b : List ℕ) (a : ℕ) → address_refusal a ≡ 0 → RightSlave (slave_make b a).end
unfolding slave_make make_of
slave_make_lem b a e =
    let t = eq-eqb (address_refusal a) 0 e in
    rw t (slave_bytes_lem (begun fresh a) fresh_arrays (rw t at (slave.make a e)))

-- what the code's types say of a master: arrays of 253 bytes, and a tick of 32 bits
abbrev Fits : Master → Type 0
Fits m = Holds (λ x. length x ≡ 253) (λ x. length x ≡ 253) (λ t. t < 2 ^ 32) m

-- the bytes of a right master
master_size : (m : Master) → Arrays m.side → length (master_bytes m) ≡ 538
unfolding master_bytes
master_size m h =
    ap (λ (n : ℕ). suc (suc n)) (length-append (side_bytes m.side) (master_tail m) ∙ rw (side_length m.side h.held h.incoming, tail_length m))

limit_fits : (l : ℕ) → limit_refusal l ≡ 0 → l ≤ 65535
unfolding limit_refusal
limit_fits l e =
    ltb-false 65535 l (pick_second (ltb 65535 l) 15 0 0 (pick_second (ltb l 1) 15 _ 0 e (λ z. omega arith)).1 (λ z. omega arith)).0

limit_right : (l : ℕ) → limit_wrong l ≡ 0 → limit_refusal l ≡ 0
unfolding limit_wrong
limit_right l e = eqb-true (limit_refusal l) 0 (pick_first (eqb (limit_refusal l) 0) 0 30 0 e (λ z. omega arith)).0

limit_small : (a l : ℕ) → outer_wrong a l ≡ 0 → l < 2 ^ 32
unfolding outer_wrong
limit_small a l e =
    let small = limit_fits l (limit_right l (then_zero (address_wrong a) (limit_wrong l) e).1) in
    omega arith

master_bytes_lem : (m : Master) → Fits m → master_end_wrong m ≡ 0 → RightMaster (master_bytes m)
master_bytes_lem m h r =
    let p = master-parts m r in
    let back = read_back.master m (typed m.side h.slots p.1) h.tick (limit_small m.address m.limit p.0) in
    record { size = master_size m h.slots; layout = back.0; tick = rw back.1 h.tick; end = rw back.1 r }

on_master_lem : {A : Type 0} (b : List ℕ) (call : Master → Given A Master) → RightMaster b
    → (Fits (master_at b) → Fits (call (master_at b)).end)
    → (master_end_wrong (master_at b) ≡ 0 → master_end_wrong (call (master_at b)).end ≡ 0)
    → RightMaster (on_master b call).end
on_master_lem {A} b call r fits right =
    let size = r.size in
    pick_both (λ (g : Given A (List ℕ)). RightMaster g.end) (eqb (master_wrong b) 0) _ _
    (after_both RightMaster (call (master_at b)).answer _ b (master_bytes_lem (call (master_at b)).end (fits (record { slots = master_arrays b (omega arith); tick = r.tick })) (right r.end)) r)
    r

master_make_lem : (b : List ℕ) (a l : ℕ) → make_refusal a l ≡ 0 → RightMaster (master_make b a l).end
unfolding master_make master_make_of
master_make_lem b a l e =
    let t = eq-eqb (make_refusal a l) 0 e in
    rw t (master_bytes_lem (master_begun fresh l a) (record { slots = fresh_arrays; tick = omega arith }) (rw t at (master.make a l e)))

pub keeps : Keeps
unfolding slave_put slave_take slave_step slave_restart slave_clear master_put master_take master_order master_response master_silence master_restart master_clear
keeps =
    record {
      slave_make = slave_make_lem;
      slave_put = λ b m r. on_slave_lem b (λ (s : Slave). put_of s m) r (slave_put_lem (slave_at b) m (lays_size m)) (slave.put (slave_at b) m);
      slave_take = λ b n r. on_slave_lem b (λ (s : Slave). take_of s n) r (slave-take (slave_at b) n) (slave.take (slave_at b) n);
      slave_step = λ b a c m n r.
          on_slave_lem b (λ (s : Slave). step_of s a (meaning_of c) m n) r (slave-step (slave_at b) a (meaning_of c) m n (lays_size m)) (slave.step (slave_at b) a (meaning_of c) m n);
      slave_restart = λ b r. on_slave_lem b restart_of r (slave_restart_lem (slave_at b)) (slave.restart (slave_at b));
      slave_clear = λ b r. on_slave_lem b clear_of r (slave_clear_lem (slave_at b)) (slave.clear (slave_at b));
      master_make = master_make_lem;
      master_put = λ b m r. on_master_lem b (λ (s : Master). master_put_of s m) r (master_put_lem (master_at b) m (lays_size m)) (master.put (master_at b) m);
      master_take = λ b n r. on_master_lem b (λ (s : Master). master_take_of s n) r (master-take (master_at b) n) (master.take (master_at b) n);
      master_order = λ b t n h r. on_master_lem b (λ (s : Master). order_of s t n) r (master-order (master_at b) t n h) (master.order (master_at b) t n);
      master_response = λ b t a c m r.
          on_master_lem b (λ (s : Master). response_of s a (meaning_of c) m t) r
          (master_response_lem (master_at b) a (meaning_of c) m t (lays_size m))
          (master.response (master_at b) a (meaning_of c) m t);
      master_silence = λ b r. on_master_lem b silence_of r (master-silence (master_at b)) (master.silence (master_at b));
      master_restart = λ b r. on_master_lem b master_restart_of r (master_restart_lem (master_at b) (omega arith)) (master.restart (master_at b));
      master_clear = λ b r. on_master_lem b master_clear_of r (master_clear_lem (master_at b)) (master.clear (master_at b));
    }
