-- A slave that is right stays right, and what it says fits the lent buffer.
-- Assumes nothing.
use Prim.Native.Nat.{ℕ, ◌≤◌}
use mathlib.Core.Path.{◌≡◌, refl}
use mathlib.Core.Bool.{not}
use mathlib.Core.List.{List}
use native.Mathlib.Omega.{arith}
use lib.Dec.{ltb}
use borrow.Author.Tests.{ltb-false}
use Rattle.frame.specs.Refusal.{address_refusal, frame_refusal}
use Rattle.frame.specs.declared.Meaning.{Meaning}
use Rattle.frame.specs.declared.Meaning.TheVariants.{I, Rr, Rnr, Snrm, Disc, Ua, Frmr}
use Rattle.frame.proofs.Laws.{pick_second, then_zero}
use Rattle.side.specs.Side.{fresh, restarted, cleared, synchronised}
use Rattle.side.specs.Right.{side_wrong, address_wrong}
use Rattle.side.specs.Slot.{room_refusal, put_of as side_put, take_of as side_take}
use Rattle.side.specs.Rule.{count_rule, is_rnr}
use Rattle.side.specs.declared.Side.{Side}
use Rattle.side.specs.declared.answer.Change.{Change}
use Rattle.std.specs.Prelude.{Option, None, Some}
use Rattle.side.specs.declared.rule.Accepted.{Accepted}
use Rattle.side.proofs.Calls.{refusing_keeps}
use Rattle.side.proofs.Keeps.{keeps as side-keeps, says_small}
use Rattle.slave.specs.Slave.{slave_wrong, begun, on_side, make_of, put_of, take_of, restart_of, clear_of}
use Rattle.slave.specs.Step.{step_refusal, answers, in_ndm, responds, on_heard, in_nrm, moved_in, moved, step_of}
use Rattle.slave.specs.Promises.{Right, Keeps}
use Rattle.slave.specs.declared.Mode.{Mode}
use Rattle.slave.specs.declared.Mode.TheVariants.{Ndm, Nrm}
use Rattle.slave.specs.declared.Slave.{Slave}
use Rattle.slave.specs.declared.step.Moved.{Moved}

-- what an order leaves of a right slave
pub record Kept (s : Slave) (x : Moved) : Type 0 where
  pub side : side_wrong x.slave.side ≡ 0
  pub address : x.slave.address ≡ s.address
  pub small : x.line.size ≤ 253

answers-kept : (s : Slave) (t : Side) (q : Mode) (f : Meaning) (l : Change) → side_wrong t ≡ 0 → Kept s (answers s t q f l)
answers-kept s t q f l r = record { side = r; address = refl; small = omega arith }

ndm_kept : (s : Slave) (f : Meaning) → side_wrong s.side ≡ 0 → Kept s (in_ndm s f)
unfolding in_ndm
ndm_kept s (I ns nr) r = answers-kept s s.side Ndm Frmr _ r
ndm_kept s (Rr nr) r = answers-kept s s.side Ndm Frmr _ r
ndm_kept s (Rnr nr) r = answers-kept s s.side Ndm Frmr _ r
ndm_kept s Snrm r = answers-kept s (synchronised s.side) Nrm Ua _ (side-keeps.synchronised s.side r)
ndm_kept s Disc r = answers-kept s s.side Ndm Ua _ r
ndm_kept s Ua r = answers-kept s s.side Ndm Frmr _ r
ndm_kept s Frmr r = answers-kept s s.side Ndm Frmr _ r

heard-kept : (s : Slave) (f : Meaning) (t : Side) (h : Option Accepted) → side_wrong s.side ≡ 0 → side_wrong t ≡ 0 → Kept s (on_heard s f t h)
unfolding responds
heard-kept s f t None r q = answers-kept s s.side Ndm Frmr _ r
heard-kept s f t (Some k) r q =
    record { side = side-keeps.say (not (is_rnr f)) t q; address = refl; small = says_small (not (is_rnr f)) t q }

in_kept : (q : Mode) (s : Slave) (f : Meaning) (m : List ℕ) → frame_refusal f m ≡ 0 → side_wrong s.side ≡ 0 → Kept s (moved_in q s f m)
unfolding in_nrm
in_kept Ndm s f m e r = ndm_kept s f r
in_kept Nrm s f m e r = heard-kept s f (count_rule s.side f m).side (count_rule s.side f m).heard r (side-keeps.hear s.side f m e r)

pub moved-kept : (s : Slave) (f : Meaning) (m : List ℕ) → frame_refusal f m ≡ 0 → side_wrong s.side ≡ 0 → Kept s (moved s f m)
unfolding moved
moved-kept s f m e r = in_kept s.mode s f m e r

-- what number 30 looks at, part by part
pub parts : (s : Slave) → slave_wrong s ≡ 0 → (address_wrong s.address ≡ 0) × (side_wrong s.side ≡ 0)
unfolding slave_wrong
parts s e = then_zero (address_wrong s.address) (side_wrong s.side) e

-- an order that is not refused was handed a right slave and a right frame, and there is room for the response
pub record Passed (s : Slave) (f : Meaning) (m : List ℕ) (room : ℕ) : Type 0 where
  pub right : slave_wrong s ≡ 0
  pub frame : frame_refusal f m ≡ 0
  pub large : 253 ≤ room

pub passed : (s : Slave) (a : ℕ) (f : Meaning) (m : List ℕ) (room : ℕ) → step_refusal s a f m room ≡ 0 → Passed s f m room
unfolding step_refusal
passed s a f m room e =
    let right = then_zero (slave_wrong s) _ e in
    let lent = then_zero (room_refusal room) _ right.1 in
    let frame = then_zero (frame_refusal f m) _ lent.1 in
    record {
      right = right.0;
      frame = frame.0;
      large = ltb-false room 253 (pick_second (ltb room 253) _ _ 0 lent.0 (λ z. omega arith)).0;
    }

pub step_fits : (s : Slave) (a : ℕ) (f : Meaning) (m : List ℕ) (room : ℕ) → step_refusal s a f m room ≡ 0 → ((moved s f m).line.size ≤ 253) × ((moved s f m).line.size ≤ room)
step_fits s a f m room e =
    let p = passed s a f m room e in
    let small = (moved-kept s f m p.frame (parts s p.right).1).small in
    let large = p.large in
    (small, omega arith)

whole : (s : Slave) → address_wrong s.address ≡ 0 → side_wrong s.side ≡ 0 → Right s
unfolding slave_wrong
whole s p q = simp (p, q)

address_right : (a : ℕ) → address_refusal a ≡ 0 → address_wrong a ≡ 0
unfolding address_wrong
address_right a e = rw e

make_right : (a : ℕ) → address_refusal a ≡ 0 → Right (make_of a).end
unfolding make_of
make_right a e = rw e (whole (begun fresh a) (address_right a e) side-keeps.fresh)

put_right : (s : Slave) (m : List ℕ) → Right s → Right (put_of s m).end
unfolding put_of
put_right s m r =
    let p = parts s r in
    refusing_keeps Right (address_wrong s.address) s _ r (λ z. whole (on_side s (side_put s.side m).end) p.0 (side-keeps.put s.side m p.1))

take_right : (s : Slave) (room : ℕ) → Right s → Right (take_of s room).end
unfolding take_of
take_right s room r =
    let p = parts s r in
    refusing_keeps Right (address_wrong s.address) s _ r (λ z. whole (on_side s (side_take s.side room).end) p.0 (side-keeps.take s.side room p.1))

step_right : (s : Slave) (a : ℕ) (f : Meaning) (m : List ℕ) (room : ℕ) → Right s → Right (step_of s a f m room).end
unfolding step_of
step_right s a f m room r =
    let p = parts s r in
    refusing_keeps Right (step_refusal s a f m room) s _ r
    (λ z. let kept = moved-kept s f m (passed s a f m room z).frame p.1 in
    whole (moved s f m).slave (rw kept.address p.0) kept.side)

restart_right : (s : Slave) → Right s → Right (restart_of s).end
unfolding restart_of
restart_right s r =
    let p = parts s r in
    refusing_keeps Right (slave_wrong s) s _ r (λ z. whole (begun (restarted s.side) s.address) p.0 (side-keeps.restarted s.side p.1))

clear_right : (s : Slave) → Right s → Right (clear_of s).end
unfolding clear_of
clear_right s r =
    let p = parts s r in
    refusing_keeps Right (slave_wrong s) s _ r (λ z. whole (on_side s (cleared s.side)) p.0 (side-keeps.cleared s.side p.1))

pub keeps : Keeps
keeps =
    record {
      make = make_right;
      put = put_right;
      take = take_right;
      step = step_right;
      restart = restart_right;
      clear = clear_right;
    }
