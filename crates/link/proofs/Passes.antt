-- What a right end says is refused by no end: the frames of orders and responses pass 9, 10 and 12.
-- Assumes nothing.
use Prim.Native.Nat.{ℕ}
use mathlib.Core.Path.{◌≡◌, refl}
use mathlib.Core.Bool.{Bool, false, not}
use mathlib.Core.List.{List, []}
use native.Mathlib.Omega.{arith}
use lib.Dec.{eqb, ltb}
use lib.ListN.{take}
use borrow.Author.Tests.{eqb-true}
use Rattle.frame.specs.Message.{message_refusal}
use Rattle.frame.specs.Control.{counts_refusal}
use Rattle.frame.specs.Refusal.{none_refusal, information_refusal, frame_refusal}
use Rattle.frame.specs.declared.Meaning.{Meaning}
use Rattle.frame.specs.declared.Meaning.TheVariants.{I, Rr, Rnr, Snrm, Disc, Ua, Frmr}
use Rattle.frame.proofs.Laws.{pick_cases, pick_both, pick_first, pick_second}
use Rattle.side.specs.Right.{count_wrong, slot_wrong}
use Rattle.side.specs.Slot.{full}
use Rattle.side.specs.Rule.{count_rule, is_rnr}
use Rattle.side.specs.Say.{status, informs, says_held, says}
use Rattle.side.specs.Promises.{Right}
use Rattle.side.specs.declared.Side.{Side}
use Rattle.std.specs.Prelude.{Option, None, Some}
use Rattle.side.specs.declared.rule.Accepted.{Accepted}
use Rattle.side.specs.declared.say.Saying.{Saying}
use Rattle.side.proofs.Parts.{parts}
use Rattle.side.proofs.Keeps.{keeps as side-keeps}
use Rattle.slave.specs.Step.{in_ndm, responds, on_heard, in_nrm, moved_in, moved}
use Rattle.slave.specs.declared.Mode.{Mode as SlaveMode}
use Rattle.slave.specs.declared.Mode.TheVariants.{Ndm, Nrm}
use Rattle.slave.specs.declared.Slave.{Slave}
use Rattle.slave.specs.declared.step.Moved.{Moved}
use Rattle.master.specs.Order.{may_inform, in_linked, orders_in, orders}
use Rattle.master.specs.declared.Mode.{Mode as MasterMode}
use Rattle.master.specs.declared.Mode.TheVariants.{Disconnecting, Connecting, Linked}
use Rattle.master.specs.declared.Master.{Master}
use Rattle.link.proofs.Sides.{rule_held}

count_right : (n : ℕ) → count_wrong n ≡ 0 → ltb 7 n ≡ false
count_right n e = (pick_second (ltb 7 n) 30 0 0 e (λ z. omega arith)).0

slot_message : (slot : List ℕ) (n : ℕ) → slot_wrong slot n ≡ 0 → eqb n 0 ≡ false → message_refusal (take n slot) ≡ 0
unfolding slot_wrong
slot_message slot n e t =
    let small = (pick_second (ltb 253 n) 30 _ 0 (rw t at e) (λ z. omega arith)).1 in
    eqb-true (message_refusal (take n slot)) 0 (pick_first (eqb (message_refusal (take n slot)) 0) 0 30 0 small (λ z. omega arith)).0

status_passes : (s : Side) → Right s → frame_refusal (status s).meaning [] ≡ 0
unfolding status frame_refusal counts_refusal information_refusal none_refusal
status_passes s r =
    let nr = count_right s.nr.0 (parts s r).nr in
    pick_both (λ (f : Meaning). frame_refusal f [] ≡ 0) (full s) _ _ (rw nr) (rw nr)

informs_passes : (s : Side) → Right s → eqb s.holds 0 ≡ false → frame_refusal (informs s).meaning (take s.holds s.held) ≡ 0
unfolding frame_refusal counts_refusal information_refusal
informs_passes s r t =
    let p = parts s r in
    rw (count_right s.ns.0 p.ns, count_right s.nr.0 p.nr, slot_message s.held s.holds p.held t)

-- a frame with its information in the slot of the held message
says_passes : (may : Bool) (s : Side) → Right s → frame_refusal (says may s).meaning (take (says may s).size s.held) ≡ 0
unfolding says says_held status
says_passes may s r =
    pick_both P may _ _ (pick_cases P (eqb s.holds 0) _ _ (λ t. plain) (informs_passes s r)) plain
  where
    P : Saying → Type 0
    P x = frame_refusal x.meaning (take x.size s.held) ≡ 0

    plain : frame_refusal (status s).meaning (take (status s).size s.held) ≡ 0
    plain = status_passes s r

pub order_passes : (m : Master) (tick : ℕ) → Right m.side → frame_refusal (orders m tick).line.meaning (take (orders m tick).line.size m.side.held) ≡ 0
unfolding orders in_linked frame_refusal counts_refusal information_refusal none_refusal
order_passes m tick r = go m.mode
  where
    go : (q : MasterMode) → frame_refusal (orders_in q m tick).line.meaning (take (orders_in q m tick).line.size m.side.held) ≡ 0
    go Disconnecting = refl
    go Connecting = refl
    go Linked = says_passes (may_inform m) m.side r

abbrev Passes : Slave → Moved → Type 0
Passes s x = frame_refusal x.line.meaning (take x.line.size s.side.held) ≡ 0

ndm_passes : (s : Slave) (f : Meaning) → Passes s (in_ndm s f)
unfolding in_ndm frame_refusal counts_refusal information_refusal none_refusal
ndm_passes s (I ns nr) = refl
ndm_passes s (Rr nr) = refl
ndm_passes s (Rnr nr) = refl
ndm_passes s Snrm = refl
ndm_passes s Disc = refl
ndm_passes s Ua = refl
ndm_passes s Frmr = refl

heard_passes : (s : Slave) (f : Meaning) (t : Side) (h : Option Accepted) → Right t → t.held ≡ s.side.held → Passes s (on_heard s f t h)
unfolding responds frame_refusal counts_refusal information_refusal none_refusal
heard_passes s f t None r e = refl
heard_passes s f t (Some a) r e = rw (← e) (says_passes (not (is_rnr f)) t r)

pub response_passes : (s : Slave) (f : Meaning) (k : List ℕ) → Right s.side → frame_refusal f k ≡ 0 → Passes s (moved s f k)
unfolding moved in_nrm
response_passes s f k r e = go s.mode
  where
    go : (q : SlaveMode) → Passes s (moved_in q s f k)
    go Ndm = ndm_passes s f
    go Nrm = heard_passes s f (count_rule s.side f k).side (count_rule s.side f k).heard (side-keeps.hear s.side f k e r) (rule_held s.side f k)
