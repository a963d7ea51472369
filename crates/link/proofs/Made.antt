-- Two ends as their constructors give them: their arrays have 253 bytes, and no order waits.
-- Assumes nothing.
use Prim.Native.Nat.{ℕ}
use mathlib.Core.Path.{◌≡◌, refl}
use mathlib.Core.Bool.{false}
use Rattle.frame.specs.Refusal.{address_refusal}
use Rattle.side.specs.Side.{Arrays}
use Rattle.side.proofs.Calls.{refusing_keeps}
use Rattle.side.proofs.Slots.{fresh_arrays}
use Rattle.slave.specs.Slave as slave
use Rattle.slave.specs.declared.Slave.{Slave}
use Rattle.master.specs.Master as master
use Rattle.master.specs.declared.Master.{Master}
use Rattle.link.specs.Runs.{made, Sized}

pub made_arrays : (a l b : ℕ) → Sized (made a l b)
unfolding master.make_of slave.make_of
made_arrays a l b =
    record {
      master = refusing_keeps (λ (m : Master). Arrays m.side) (master.make_refusal a l) master.blank _ fresh_arrays (λ z. fresh_arrays);
      slave = refusing_keeps (λ (s : Slave). Arrays s.side) (address_refusal b) slave.blank _ fresh_arrays (λ z. fresh_arrays);
    }

pub made_idle : (a l b : ℕ) → (made a l b).master.waiting ≡ false
unfolding master.make_of
made_idle a l b = refusing_keeps (λ (m : Master). m.waiting ≡ false) (master.make_refusal a l) master.blank _ refl (λ z. refl)
