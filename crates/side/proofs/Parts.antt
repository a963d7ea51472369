-- What a side that is not refused by 30 tells of its parts, and what makes it right again.
-- Assumes nothing.
use Prim.Native.Nat.{ℕ, ◌≤◌}
use mathlib.Core.Path.{◌≡◌}
use mathlib.Core.Bool.{true, false}
use mathlib.Core.List.{List}
use native.Mathlib.Omega.{arith}
use lib.Dec.{eqb, ltb, leb}
use lib.ListN.{length}
use borrow.Author.Tests.{ltb-false, leb-true, le-ltb, eqb-true}
use Rattle.frame.specs.Message.{message_refusal}
use Rattle.frame.proofs.Laws.{pick_cases, pick_second, then_zero}
use Rattle.frame.proofs.Messages.{message_right}
use Rattle.side.specs.Right.{count_wrong, slot_wrong, sent_wrong, side_wrong}
use Rattle.side.specs.Slot.{full, room, put_refusal, take_refusal, laid, laid_where}
use Rattle.side.specs.declared.Side.{Side}

pub record Parts (s : Side) : Type 0 where
  pub ns : count_wrong s.ns.0 ≡ 0
  pub nr : count_wrong s.nr.0 ≡ 0
  pub held : slot_wrong s.held s.holds ≡ 0
  pub incoming : slot_wrong s.incoming s.waits ≡ 0
  pub sent : sent_wrong s.sent s.holds ≡ 0

pub parts : (s : Side) → side_wrong s ≡ 0 → Parts s
unfolding side_wrong
parts s e =
    let a = then_zero (count_wrong s.ns.0) _ e in
    let b = then_zero (count_wrong s.nr.0) _ a.1 in
    let c = then_zero (slot_wrong s.held s.holds) _ b.1 in
    let d = then_zero (slot_wrong s.incoming s.waits) _ c.1 in
    record { ns = a.0; nr = b.0; held = c.0; incoming = d.0; sent = d.1 }

pub whole : (s : Side) → Parts s → side_wrong s ≡ 0
unfolding side_wrong
whole s p = simp (p.ns, p.nr, p.held, p.incoming, p.sent)

-- a slot that is right holds 253 bytes at most
pub slot_small : (slot : List ℕ) (n : ℕ) → slot_wrong slot n ≡ 0 → n ≤ 253
unfolding slot_wrong
slot_small slot n =
    pick_cases (λ (k : ℕ). k ≡ 0 → n ≤ 253) (eqb n 0) _ _ (λ t e. let z = eqb-true n 0 t in omega arith)
    (λ t e. ltb-false 253 n (pick_second (ltb 253 n) _ _ 0 e (λ z. omega arith)).0)

-- a message that put takes has room in the array
pub put_fits : (s : Side) (m : List ℕ) → put_refusal s m ≡ 0 → length m ≤ 253
unfolding put_refusal
put_fits s m e =
    let right = then_zero (side_wrong s) _ e in
    let message = then_zero (message_refusal m) _ right.1 in
    ((message_right m).0 message.0).1

-- a message that take gives stands in the array and has room in the lent buffer
pub take_fits : (s : Side) (room : ℕ) → take_refusal s room ≡ 0 → (s.waits ≤ 253) × (s.waits ≤ room)
unfolding take_refusal
take_fits s room e =
    let right = then_zero (side_wrong s) _ e in
    let waits = pick_second (eqb s.waits 0) _ _ 0 right.1 (λ z. omega arith) in
    let small = pick_second (ltb room s.waits) _ _ 0 waits.1 (λ z. omega arith) in
    (slot_small s.incoming s.waits (parts s right.0).incoming, ltb-false room s.waits small.0)

-- where slot and buffer have as many bytes, they are laid
pub laid_fits : (n : ℕ) (slot out : List ℕ) → n ≤ 253 → n ≤ length out → laid_where n slot out ≡ laid n slot out
unfolding laid_where
laid_fits n slot out small room = rw (le-ltb 253 n small, le-ltb (length out) n room)

-- a message that finds room in the incoming slot has 253 bytes at most
pub room_small : (s : Side) (n : ℕ) → room s n ≡ true → n ≤ 253
unfolding room
room_small s n e =
    leb-true n 253 (pick_second (full s) false (leb n 253) true e (λ z. let w : ◌≡◌ {A = ℕ} 0 1 = cc in omega arith)).1
