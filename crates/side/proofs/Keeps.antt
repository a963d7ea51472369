-- A side that is right stays right.
-- Assumes nothing.
use Prim.Native.Nat.{ℕ, ◌≤◌}
use mathlib.Core.Path.{◌≡◌, refl}
use mathlib.Core.Bool.{Bool, false}
use mathlib.Core.List.{List, ◌++◌}
use native.Mathlib.Omega.{arith}
use lib.Dec.{eqb}
use lib.ListN.{length, drop}
use lib.Seq.{take-append_seam}
use borrow.Author.Tests.{le-ltb, ne_eqb}
use Rattle.frame.specs.Message.{message_refusal}
use Rattle.frame.specs.Refusal.{information_refusal, frame_refusal}
use Rattle.frame.specs.Control.{counts_refusal}
use Rattle.frame.specs.declared.Meaning.{Meaning}
use Rattle.frame.specs.declared.Meaning.TheVariants.{I, Rr, Rnr, Snrm, Disc, Ua, Frmr}
use Rattle.frame.proofs.Laws.{pick_cases, pick_both, then_zero}
use Rattle.frame.proofs.Messages.{message_right}
use Rattle.side.specs.Side.{fresh, restarted, cleared, dropped, synchronised}
use Rattle.side.specs.Right.{count_wrong, slot_wrong, side_wrong}
use Rattle.side.specs.Slot.{put_refusal, put_of, take_refusal, take_of, with_held, emptied, room}
use Rattle.side.specs.Rule.{next, ack, seen, released, advanced, filled_with, on_nr, hand_over, on_heard, on_i, count_rule}
use Rattle.side.specs.Say.{status, informs, says_held, says}
use Rattle.side.specs.Promises.{Right, Keeps}
use Rattle.side.specs.declared.Side.{Side}
use Rattle.side.specs.declared.rule.Ack.{Ack}
use Rattle.side.specs.declared.rule.Ack.TheVariants.{ConfirmsNothing, Confirms, Astray}
use Rattle.side.specs.declared.rule.Seen.{Seen}
use Rattle.side.specs.declared.rule.Seen.TheVariants.{New, Duplicate, Strange}
use Rattle.std.specs.Prelude.{Option, None, Some}
use Rattle.side.specs.declared.rule.Accepted.{Accepted}
use Rattle.side.specs.declared.rule.Hearing.{Hearing}
use Rattle.side.specs.declared.say.Saying.{Saying}
use Rattle.side.proofs.Parts.{parts, whole, slot_small}
use Rattle.side.proofs.Calls.{refusing_keeps}

-- a message that the check passes is right in its slot
slot_filled : (m rest : List ℕ) → message_refusal m ≡ 0 → slot_wrong (m ++ rest) (length m) ≡ 0
unfolding slot_wrong
slot_filled m rest e =
    let right = (message_right m).0 e in
    rw (ne_eqb (length m) 0 (λ z. omega arith), le-ltb 253 (length m) right.1, take-append_seam m rest, e)

next_right : (n : ℕ) → count_wrong (next n) ≡ 0
next_right n = rw (le-ltb 7 (next n) (omega arith))

fresh_right : Right fresh
unfolding side_wrong slot_wrong
fresh_right = refl

restarted_right : (s : Side) → Right s → Right (restarted s)
restarted_right s r = let p = parts s r in whole (restarted s) (record { ns = refl; nr = refl; held = p.held; incoming = p.incoming; sent = p.sent })

cleared_right : (s : Side) → Right s → Right (cleared s)
unfolding side_wrong
cleared_right s r = r

dropped_right : (s : Side) → Right s → Right (dropped s)
unfolding slot_wrong
dropped_right s r = let p = parts s r in whole (dropped s) (record { ns = p.ns; nr = p.nr; held = refl; incoming = p.incoming; sent = refl })

synchronised_right : (s : Side) → Right s → Right (synchronised s)
unfolding synchronised
synchronised_right s r =
    pick_both Right s.sent _ _ (dropped_right (restarted s) (restarted_right s r)) (restarted_right s r)

held_right : (s : Side) (m : List ℕ) → message_refusal m ≡ 0 → Right s → Right (with_held m s)
held_right s m e r =
    let p = parts s r in
    whole (with_held m s)
    (record { ns = p.ns; nr = p.nr; held = slot_filled m (drop (length m) s.held) e; incoming = p.incoming; sent = refl })

put_right : (s : Side) (m : List ℕ) → Right s → Right (put_of s m).end
unfolding put_of put_refusal
put_right s m r =
    refusing_keeps Right (put_refusal s m) s _ r
    (λ z. held_right s m (then_zero (message_refusal m) _ (then_zero (side_wrong s) _ z).1).0 r)

take_right : (s : Side) (room : ℕ) → Right s → Right (take_of s room).end
unfolding take_of slot_wrong
take_right s room r =
    let p = parts s r in
    refusing_keeps Right (take_refusal s room) s _ r
    (λ z. whole (emptied s) (record { ns = p.ns; nr = p.nr; held = p.held; incoming = refl; sent = p.sent }))

nr_right : (s : Side) (k : Ack) → Right s → Right (on_nr s k).side
unfolding slot_wrong
nr_right s ConfirmsNothing r = r
nr_right s Confirms r =
    let p = parts s r in
    whole (released s) (record { ns = next_right s.ns.0; nr = p.nr; held = refl; incoming = p.incoming; sent = refl })
nr_right s Astray r = r

hand_over_right : (m : List ℕ) (confirmed : ℕ) (s : Side) → message_refusal m ≡ 0 → Right s → Right (hand_over m confirmed s).side
unfolding hand_over
hand_over_right m confirmed s e r =
    let p = parts s r in
    pick_both (λ (h : Hearing). Right h.side) (room s (length m)) _ _
    (whole (filled_with m (advanced s))
    (record { ns = p.ns; nr = next_right s.nr.0; held = p.held; incoming = slot_filled m (drop (length m) s.incoming) e; sent = p.sent }))
    r

heard_right : (m : List ℕ) (s : Side) (h : Option Accepted) → message_refusal m ≡ 0 → Right s → Right (on_heard m s h).side
heard_right m s None e r = r
heard_right m s (Some a) e r = hand_over_right m a.confirmed s e r

i_right : (s : Side) (k : Ack) (m : List ℕ) (n : Seen) → message_refusal m ≡ 0 → Right s → Right (on_i s k m n).side
i_right s k m New e r = heard_right m (on_nr s k).side (on_nr s k).heard e (nr_right s k r)
i_right s k m Duplicate e r = nr_right s k r
i_right s k m Strange e r = r

hear_right : (s : Side) (f : Meaning) (m : List ℕ) → frame_refusal f m ≡ 0 → Right s → Right (count_rule s f m).side
unfolding count_rule frame_refusal information_refusal
hear_right s (I ns nr) m e r = i_right s (ack s nr) m (seen s ns) (then_zero (counts_refusal (I ns nr)) _ e).1 r
hear_right s (Rr nr) m e r = nr_right s (ack s nr) r
hear_right s (Rnr nr) m e r = nr_right s (ack s nr) r
hear_right s Snrm m e r = r
hear_right s Disc m e r = r
hear_right s Ua m e r = r
hear_right s Frmr m e r = r

informs_right : (s : Side) → eqb s.holds 0 ≡ false → Right s → Right (informs s).side
informs_right s t r =
    let p = parts s r in
    whole (informs s).side (record { ns = p.ns; nr = p.nr; held = p.held; incoming = p.incoming; sent = rw t })

say_right : (may : Bool) (s : Side) → Right s → Right (says may s).side
unfolding says says_held status
say_right may s r =
    pick_both (λ (x : Saying). Right x.side) may _ _
    (pick_cases (λ (x : Saying). Right x.side) (eqb s.holds 0) _ _ (λ t. r) (λ t. informs_right s t r))
    r

pub keeps : Keeps
keeps =
    record {
      fresh = fresh_right;
      restarted = restarted_right;
      cleared = cleared_right;
      synchronised = synchronised_right;
      put = put_right;
      take = take_right;
      hear = hear_right;
      say = say_right;
    }

-- what a right side says has 253 bytes of information at most
pub says_small : (may : Bool) (s : Side) → Right s → (says may s).size ≤ 253
unfolding says says_held status
says_small may s r =
    let small = slot_small s.held s.holds (parts s r).held in
    pick_both (λ (x : Saying). x.size ≤ 253) may _ _
    (pick_both (λ (x : Saying). x.size ≤ 253) (eqb s.holds 0) _ _ (omega arith) small)
    (omega arith)
