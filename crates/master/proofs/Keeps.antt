-- A master that is right stays right, and what it orders fits the lent buffer.
-- Assumes nothing.
use Rattle.std.proofs.Common.{◌≡◌, ℕ, ◌≤◌, Bool, ltb, List, arith, ltb-false}
use Rattle.frame.specs.Refusal.{address_refusal, frame_refusal}
use Rattle.frame.specs.declared.Meaning.{Meaning}
use Rattle.frame.proofs.Laws.{pick_both, pick_second, then_zero}
use Rattle.side.specs.Given.{Given}
use Rattle.side.specs.Side.{fresh, restarted, cleared, synchronised}
use Rattle.side.specs.Right.{side_wrong, address_wrong}
use Rattle.side.specs.Slot.{put_of as side_put, take_of as side_take}
use Rattle.side.specs.Rule.{count_rule}
use Rattle.side.specs.declared.Side.{Side}
use Rattle.std.specs.Prelude.{Option, None, Some}
use Rattle.side.specs.declared.rule.Accepted.{Accepted}
use Rattle.side.proofs.Calls.{refusing_keeps}
use Rattle.side.proofs.Keeps.{keeps as side-keeps, says_small}
use Rattle.master.specs.Master.{limit_refusal, limit_wrong, outer_wrong, master_wrong, begun, on_side, make_refusal, make_of, put_of, take_of, restart_of, clear_of}
use Rattle.master.specs.Order.{waiting_refusal, order_refusal, plain, may_inform, in_linked, orders_in, orders, order_of}
use Rattle.master.specs.Response.{silence_refusal, response_refusal, counts_as_silence, goes, accepts, is_ua, hear_disconnecting, hear_connecting, on_heard, hear_linked, hears_in, hears, Report, response_of, silence_of}
use Rattle.master.specs.Promises.{Right, Keeps}
use Rattle.master.specs.declared.Mode.{Mode}
use Rattle.master.specs.declared.Mode.TheVariants.{Disconnecting, Connecting, Linked}
use Rattle.master.specs.declared.Master.{Master}
use Rattle.master.specs.declared.order.Ordered.{Ordered}
use Rattle.master.specs.declared.response.Brought.{Brought}

-- what number 30 looks at: address and limit, and the side
pub parts : (m : Master) → Right m → (outer_wrong m.address m.limit ≡ 0) × (side_wrong m.side ≡ 0)
unfolding master_wrong
parts m e = then_zero (outer_wrong m.address m.limit) (side_wrong m.side) e

whole : (m : Master) → outer_wrong m.address m.limit ≡ 0 → side_wrong m.side ≡ 0 → Right m
unfolding master_wrong
whole m p q = simp (p, q)

-- the same address and limit, and a right side
with_side : (m : Master) (q : Mode) (busy : Bool) (t : Side) → Right m → side_wrong t ≡ 0 → Right (goes m q busy t)
with_side m q busy t r e = whole (goes m q busy t) (parts m r).0 e

-- what an order leaves of a right master
pub record Kept (m : Master) (x : Ordered) : Type 0 where
  pub right : Right x.master
  pub small : x.line.size ≤ 253

plain-kept : (m : Master) (f : Meaning) (tick : ℕ) → Right m → Kept m (plain m f tick)
plain-kept m f tick r = record { right = whole (plain m f tick).master (parts m r).0 (parts m r).1; small = omega arith }

in_kept : (q : Mode) (m : Master) (tick : ℕ) → Right m → Kept m (orders_in q m tick)
unfolding in_linked
in_kept Disconnecting m tick r = plain-kept m _ tick r
in_kept Connecting m tick r = plain-kept m _ tick r
in_kept Linked m tick r =
    let p = parts m r in
    record {
      right = whole (in_linked m tick).master p.0 (side-keeps.say (may_inform m) m.side p.1);
      small = says_small (may_inform m) m.side p.1;
    }

pub orders-kept : (m : Master) (tick : ℕ) → Right m → Kept m (orders m tick)
unfolding orders
orders-kept m tick r = in_kept m.mode m tick r

pub order_fits : (m : Master) (tick room : ℕ) → order_refusal m room ≡ 0 → ((orders m tick).line.size ≤ 253) × ((orders m tick).line.size ≤ room)
unfolding order_refusal
order_fits m tick room e =
    let right = then_zero (master_wrong m) _ e in
    let idle = then_zero (waiting_refusal m.waiting) _ right.1 in
    let large = ltb-false room 253 (pick_second (ltb room 253) _ _ 0 idle.1 (λ z. omega arith)).0 in
    let small = (orders-kept m tick right.0).small in
    (small, omega arith)

heard_right : (m : Master) (f : Meaning) (t : Side) (h : Option Accepted) → Right m → side_wrong t ≡ 0 → Right (on_heard m f t h).master
unfolding accepts
heard_right m f t None r e = with_side m _ _ m.side r (parts m r).1
heard_right m f t (Some j) r e = with_side m _ _ t r e

hears_right : (q : Mode) (m : Master) (f : Meaning) (k : List ℕ) → frame_refusal f k ≡ 0 → Right m → Right (hears_in q m f k).master
unfolding hear_disconnecting hear_connecting hear_linked
hears_right Disconnecting m f k e r =
    pick_both (λ (x : Brought). Right x.master) (is_ua f) _ _ (with_side m _ _ m.side r (parts m r).1) (with_side m _ _ m.side r (parts m r).1)
hears_right Connecting m f k e r =
    pick_both (λ (x : Brought). Right x.master) (is_ua f) _ _
    (with_side m _ _ (synchronised m.side) r (side-keeps.synchronised m.side (parts m r).1))
    (with_side m _ _ m.side r (parts m r).1)
hears_right Linked m f k e r =
    heard_right m f (count_rule m.side f k).side (count_rule m.side f k).heard r (side-keeps.hear m.side f k e (parts m r).1)

outer_right : (a l : ℕ) → make_refusal a l ≡ 0 → outer_wrong a l ≡ 0
unfolding make_refusal outer_wrong address_wrong limit_wrong
outer_right a l e = let p = then_zero (address_refusal a) (limit_refusal l) e in rw (p.0, p.1)

make_right : (a l : ℕ) → make_refusal a l ≡ 0 → Right (make_of a l).end
unfolding make_of
make_right a l e = rw e (whole (begun fresh l a) (outer_right a l e) side-keeps.fresh)

put_right : (m : Master) (k : List ℕ) → Right m → Right (put_of m k).end
unfolding put_of
put_right m k r =
    let p = parts m r in
    refusing_keeps Right (outer_wrong m.address m.limit) m _ r (λ z. whole (on_side m (side_put m.side k).end) p.0 (side-keeps.put m.side k p.1))

take_right : (m : Master) (room : ℕ) → Right m → Right (take_of m room).end
unfolding take_of
take_right m room r =
    let p = parts m r in
    refusing_keeps Right (outer_wrong m.address m.limit) m _ r (λ z. whole (on_side m (side_take m.side room).end) p.0 (side-keeps.take m.side room p.1))

order_right : (m : Master) (tick room : ℕ) → Right m → Right (order_of m tick room).end
unfolding order_of
order_right m tick room r = refusing_keeps Right (order_refusal m room) m _ r (λ z. (orders-kept m tick r).right)

response_right : (m : Master) (a : ℕ) (f : Meaning) (k : List ℕ) (tick : ℕ) → Right m → Right (response_of m a f k tick).end
unfolding response_of response_refusal hears
response_right m a f k tick r =
    refusing_keeps Right (response_refusal m f k) m _ r
    (λ z. pick_both (λ (x : Given Report Master). Right x.end) (counts_as_silence m a tick) _ _
    (with_side m _ _ m.side r (parts m r).1)
    (hears_right m.mode m f k (then_zero (silence_refusal m) (frame_refusal f k) z).1 r))

silence_right : (m : Master) → Right m → Right (silence_of m).end
unfolding silence_of
silence_right m r = refusing_keeps Right (silence_refusal m) m _ r (λ z. with_side m _ _ m.side r (parts m r).1)

restart_right : (m : Master) → Right m → Right (restart_of m).end
unfolding restart_of
restart_right m r =
    let p = parts m r in
    refusing_keeps Right (master_wrong m) m _ r (λ z. whole (begun (restarted m.side) m.limit m.address) p.0 (side-keeps.restarted m.side p.1))

clear_right : (m : Master) → Right m → Right (clear_of m).end
unfolding clear_of
clear_right m r =
    let p = parts m r in
    refusing_keeps Right (master_wrong m) m _ r (λ z. whole (on_side m (cleared m.side)) p.0 (side-keeps.cleared m.side p.1))

pub keeps : Keeps
keeps =
    record {
      make = make_right;
      put = put_right;
      take = take_right;
      order = order_right;
      response = response_right;
      silence = silence_right;
      restart = restart_right;
      clear = clear_right;
    }
