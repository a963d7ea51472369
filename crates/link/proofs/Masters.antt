-- What the master's order and the response to it do, seen over lists.
-- Assumes nothing.
use Prim.Native.Nat.{ℕ}
use mathlib.Core.Path.{◌≡◌, refl, ◌∙◌, ap}
use mathlib.Core.Bool.{Bool, true, false, not, ◌&&◌}
use mathlib.Core.List.{List}
use lib.ListN.{take}
use Rattle.frame.specs.Pick.{pick}
use Rattle.frame.specs.Refusal.{frame_refusal}
use Rattle.frame.specs.declared.Meaning.{Meaning}
use Rattle.frame.specs.declared.Meaning.TheVariants.{I, Rr, Rnr, Snrm, Disc, Ua, Frmr}
use Rattle.side.specs.Slot.{full}
use Rattle.side.specs.Rule.{count_rule}
use Rattle.side.specs.Promises.{Right}
use Rattle.side.specs.declared.Side.{Side}
use Rattle.std.specs.Prelude.{Option, None, Some}
use Rattle.side.specs.declared.rule.Accepted.{Accepted}
use Rattle.master.specs.Order.{may_inform, in_linked, orders_in, orders}
use Rattle.master.specs.Response.{is_ua, accepts, hear_disconnecting, hear_connecting, on_heard, hear_linked, hears_in, hears}
use Rattle.master.specs.declared.Mode.{Mode}
use Rattle.master.specs.declared.Mode.TheVariants.{Disconnecting, Connecting, Linked}
use Rattle.master.specs.declared.Master.{Master}
use Rattle.master.specs.declared.response.Brought.{Brought}
use Rattle.delivery.specs.Link as lists
use Rattle.link.specs.Ends.{rules, message, end_of, frame_of, master_mode_of, master_of}
use Rattle.link.proofs.Sides.{heard_of, full-seen, sync-seen, rule_seen, rnr_seen, say_seen, said-seen}

-- the order

may_seen : (m : Master) → lists.may_i rules (master_of m) ≡ may_inform m
unfolding may_inform
may_seen m = rw (full-seen m.side) (go (full m.side))
  where
    go : (b : Bool) → (not b && not m.busy) ≡ pick b false (not m.busy)
    go true = refl
    go false = refl

-- the frame on the line: its information stands in the slot of the held message
pub order-frame : (m : Master) (tick : ℕ)
    → frame_of (orders m tick).line.meaning (take (orders m tick).line.size m.side.held) ≡ lists.order_frame rules (master_of m)
unfolding orders in_linked
order-frame m tick = go m.mode
  where
    go : (q : Mode) → frame_of (orders_in q m tick).line.meaning (take (orders_in q m tick).line.size m.side.held) ≡ lists.order_in rules (master_mode_of q) (master_of m)
    go Disconnecting = refl
    go Connecting = refl
    go Linked = rw (may_seen m) (say_seen (may_inform m) m.side)

pub order-seen : (m : Master) (tick : ℕ) → master_of (orders m tick).master ≡ lists.ordered rules (master_of m)
unfolding orders in_linked
order-seen m tick = go m.mode
  where
    waits : lists.End → lists.Master
    waits e = record { mode = master_mode_of m.mode; busy = m.busy; waiting = true; end = e }

    go : (q : Mode) → master_of (orders_in q m tick).master ≡ waits (lists.sent_in rules (master_mode_of q) (master_of m))
    go Disconnecting = refl
    go Connecting = refl
    go Linked = ap waits (rw (may_seen m) (said-seen (may_inform m) m.side))

-- the response

-- what a response brings, over lists: m is the master before it
abbrev pub taken_of : Master → Brought → lists.Taken
taken_of m x =
    record {
      master = master_of x.master;
      handed = message x.master.side.incoming x.news.handed;
      confirmed = message m.side.held x.news.confirmed;
    }

disconnecting_seen : (m : Master) (f : Meaning) (k : List ℕ)
    → taken_of m (hear_disconnecting m f) ≡ lists.hear_disconnecting m.busy (end_of m.side) (frame_of f k)
unfolding hear_disconnecting is_ua
disconnecting_seen m (I ns nr) k = refl
disconnecting_seen m (Rr nr) k = refl
disconnecting_seen m (Rnr nr) k = refl
disconnecting_seen m Snrm k = refl
disconnecting_seen m Disc k = refl
disconnecting_seen m Ua k = refl
disconnecting_seen m Frmr k = refl

connecting_seen : (m : Master) (f : Meaning) (k : List ℕ) → Right m.side
    → taken_of m (hear_connecting m f) ≡ lists.hear_connecting m.busy (end_of m.side) (frame_of f k)
unfolding hear_connecting is_ua
connecting_seen m (I ns nr) k r = refl
connecting_seen m (Rr nr) k r = refl
connecting_seen m (Rnr nr) k r = refl
connecting_seen m Snrm k r = refl
connecting_seen m Disc k r = refl
connecting_seen m Ua k r = ap (λ (e : lists.End). lists.goes lists.linked false e) (sync-seen m.side r)
connecting_seen m Frmr k r = refl

heard-seen : (m : Master) (f : Meaning) (k : List ℕ) (t : Side) (h : Option Accepted)
    → taken_of m (on_heard m f t h) ≡ lists.hear_linked m.busy (end_of m.side) (frame_of f k) (heard_of m.side t h)
unfolding accepts
heard-seen m f k t None = refl
heard-seen m f k t (Some a) = rw (rnr_seen f k)

-- a response in time from the station that was ordered
pub hears-seen : (m : Master) (f : Meaning) (k : List ℕ) → Right m.side → frame_refusal f k ≡ 0
    → taken_of m (hears m f k) ≡ lists.response rules (master_of m) (frame_of f k)
unfolding hears hear_linked
hears-seen m f k r e = go m.mode
  where
    go : (q : Mode) → taken_of m (hears_in q m f k) ≡ lists.hear_in rules (master_mode_of q) (master_of m) (frame_of f k)
    go Disconnecting = disconnecting_seen m f k
    go Connecting = connecting_seen m f k r
    go Linked =
        heard-seen m f k _ (count_rule m.side f k).heard
        ∙ ap (lists.hear_linked m.busy (end_of m.side) (frame_of f k)) (rule_seen m.side f k e)
