-- What the calls do to a side, seen over lists.
-- Assumes nothing.
use Prim.Native.Nat.{ℕ, ◌≤◌}
use mathlib.Core.Path.{◌≡◌, refl}
use mathlib.Core.Bool.{Bool, true, false, cond, not}
use mathlib.Core.List.{List, [], ◌∷◌, ◌++◌}
use native.Mathlib.Omega.{arith}
use lib.Dec.{eqb, leb}
use lib.ListN.{length, take, drop}
use lib.Seq.{take-append_seam, take_at, length-take-le}
use borrow.Author.Tests.{ne_eqb, le-leb}
use Rattle.frame.specs.Pick.{pick}
use Rattle.frame.specs.Message.{message_refusal}
use Rattle.frame.specs.Refusal.{frame_refusal, information_refusal}
use Rattle.frame.specs.Control.{counts_refusal}
use Rattle.frame.specs.declared.SendCount.{SendCount}
use Rattle.frame.specs.declared.ReceiveCount.{ReceiveCount}
use Rattle.frame.specs.declared.Meaning.{Meaning}
use Rattle.frame.specs.declared.Meaning.TheVariants.{I, Rr, Rnr, Snrm, Disc, Ua, Frmr}
use Rattle.frame.proofs.Laws.{pick_cases, pick_both, pick_first, pick_second, then_zero}
use Rattle.frame.proofs.Messages.{message_right}
use Rattle.side.specs.Side.{cleared, dropped, restarted, synchronised}
use Rattle.side.specs.Right.{side_wrong}
use Rattle.side.specs.Slot.{full, room, put_refusal, with_held, take_refusal, emptied, laid}
use Rattle.side.specs.Rule.{ack, seen, released, advanced, filled_with, accepted, on_nr, not_taken, hand_over, on_i, count_rule, is_rnr}
use Rattle.side.specs.Say.{status, informs, says_held, says}
use Rattle.side.specs.Promises.{Right}
use Rattle.side.specs.declared.Side.{Side}
use Rattle.side.specs.declared.rule.Ack.{Ack}
use Rattle.side.specs.declared.rule.Ack.TheVariants.{ConfirmsNothing, Confirms, Astray}
use Rattle.side.specs.declared.rule.Seen.{Seen}
use Rattle.side.specs.declared.rule.Seen.TheVariants.{New, Duplicate, Strange}
use Rattle.std.specs.Prelude.{Option, None, Some}
use Rattle.side.specs.declared.rule.Accepted.{Accepted}
use Rattle.side.specs.declared.rule.Hearing.{Hearing}
use Rattle.side.specs.declared.say.Saying.{Saying}
use Rattle.side.proofs.Parts.{parts}
use Rattle.delivery.specs.Link as lists
use Rattle.delivery.specs.Link.{Message, none, unsent, sent, holds, called, put, clear, put_by, taken_by, sync_held, sync_doubt, sync, said, irrecoverable, heard}
use Rattle.link.specs.Ends.{rules, message, held_of, end_of, frame_of}

-- a message that the check passes has bytes
some_bytes : (m : List ℕ) → message_refusal m ≡ 0 → eqb (length m) 0 ≡ false
some_bytes m e = let right = (message_right m).0 e in ne_eqb (length m) 0 (λ z. omega arith)

-- a message laid in a slot is the message in it
laid-message : (m rest : List ℕ) → message_refusal m ≡ 0 → message (m ++ rest) (length m) ≡ m ∷ []
laid-message m rest e = rw (some_bytes m e, take-append_seam m rest)

-- the held message, by its size and with its mark, is the same one
pub held_message : (s : Side) → message s.held s.holds ≡ holds (held_of s)
held_message s = go (eqb s.holds 0) s.sent refl refl
  where
    go : (z t : Bool) → eqb s.holds 0 ≡ z → s.sent ≡ t → message s.held s.holds ≡ holds (held_of s)
    go true t p q = rw p
    go false true p q = rw (p, q)
    go false false p q = rw (p, q)

-- put

pub put_seen : (s : Side) (m : List ℕ) → put_refusal s m ≡ 0 → (end_of (with_held m s) ≡ called (put m) (end_of s)) × (put_by (put m) (end_of s) ≡ m ∷ [])
unfolding put_refusal
put_seen s m e =
    let tests = then_zero (message_refusal m) _ (then_zero (side_wrong s) _ e).1 in
    let free = (pick_first (eqb s.holds 0) 0 13 0 tests.1 (λ z. omega arith)).0 in
    (rw (some_bytes m tests.0, take-append_seam m (drop (length m) s.held), free), rw free)

-- take: what lies at the front of the lent buffer is the message

pub front : (n : ℕ) (slot out : List ℕ) → n ≤ length slot → take n (laid n slot out) ≡ take n slot
front n slot out fits = take_at (take n slot) (drop n out) n (length-take-le n slot fits)

pub take-seen : (s : Side) (room : ℕ) → take_refusal s room ≡ 0
    → (end_of (emptied s) ≡ called lists.take (end_of s)) × (taken_by lists.take (end_of s) ≡ take s.waits s.incoming ∷ [])
unfolding take_refusal
take-seen s room e =
    let waits = (pick_second (eqb s.waits 0) 14 _ 0 (then_zero (side_wrong s) _ e).1 (λ z. omega arith)).0 in
    (rw waits, rw waits)

pub clear_seen : (s : Side) → end_of (cleared s) ≡ called clear (end_of s)
clear_seen s = refl

-- synchronising

unsent_stays : (z : Bool) (m : Message) → pick z none (unsent m) ≡ sync_held (pick z none (unsent m))
unsent_stays true m = refl
unsent_stays false m = refl

unsent_no_doubt : (z : Bool) (m : Message) (d : Bool) → d ≡ sync_doubt (pick z none (unsent m)) d
unsent_no_doubt true m d = refl
unsent_no_doubt false m d = refl

pub sync-seen : (s : Side) → Right s → end_of (synchronised s) ≡ sync (end_of s)
unfolding synchronised
sync-seen s r = pick_cases (λ (x : Side). end_of x ≡ sync (end_of s)) s.sent _ _ was_sent was_not
  where
    was_sent : s.sent ≡ true → end_of (dropped (restarted s)) ≡ sync (end_of s)
    was_sent t =
        let marked : ◌≡◌ {A = ℕ} (pick (eqb s.holds 0) 30 0) 0 = rw t at (parts s r).sent in
        let held = (pick_second (eqb s.holds 0) 30 0 0 marked (λ z. omega arith)).0 in
        rw (held, t)

    was_not : s.sent ≡ false → end_of (restarted s) ≡ sync (end_of s)
    was_not t =
        let m = take s.holds s.held in
        rw t (λ i. record {
          ns = 0;
          nr = 0;
          held = unsent_stays (eqb s.holds 0) m i;
          incoming = message s.incoming s.waits;
          doubt = unsent_no_doubt (eqb s.holds 0) m s.doubt i;
        })

-- the count rule

abbrev ack_of : Ack → lists.Ack
ack_of ConfirmsNothing = lists.confirms_nothing
ack_of Confirms = lists.confirms
ack_of Astray = lists.astray

abbrev seen_of : Seen → lists.Seen
seen_of New = lists.new
seen_of Duplicate = lists.duplicate
seen_of Strange = lists.strange

-- what comes of a frame: s is the side before it, t the side after it; the sizes told are those of the message handed over and of the one confirmed
abbrev pub heard_of : Side → Side → Option Accepted → lists.Heard
heard_of s t None = irrecoverable
heard_of s t (Some a) = heard (end_of t) (message t.incoming a.handed) (message s.held a.confirmed)

ack-seen : (s : Side) (nr : ReceiveCount) → lists.ack rules (end_of s) nr.0 ≡ ack_of (ack s nr)
unfolding ack
ack-seen s nr = go (eqb nr.0 s.ns.0) (eqb nr.0 (lists.next s.ns.0))
  where
    go : (a b : Bool) → cond a lists.confirms_nothing (cond b lists.confirms lists.astray) ≡ ack_of (pick a ConfirmsNothing (pick b Confirms Astray))
    go true b = refl
    go false true = refl
    go false false = refl

seen-seen : (s : Side) (ns : SendCount) → lists.seen (end_of s) ns.0 ≡ seen_of (seen s ns)
unfolding seen
seen-seen s ns = go (eqb ns.0 s.nr.0) (eqb (lists.next ns.0) s.nr.0)
  where
    go : (a b : Bool) → cond a lists.new (cond b lists.duplicate lists.strange) ≡ seen_of (pick a New (pick b Duplicate Strange))
    go true b = refl
    go false true = refl
    go false false = refl

nr-seen : (s : Side) (k : Ack) → heard_of s (on_nr s k).side (on_nr s k).heard ≡ lists.on_nr (end_of s) (ack_of k)
nr-seen s ConfirmsNothing = refl
nr-seen s Confirms = rw (held_message s)
nr-seen s Astray = refl

pub full-seen : (s : Side) → lists.full rules (end_of s) ≡ full s
unfolding full
full-seen s = go (eqb s.waits 0) (take s.waits s.incoming)
  where
    go : (z : Bool) (m : Message) → leb 1 (length (pick z [] (m ∷ []))) ≡ pick z false true
    go true m = refl
    go false m = refl

filled_seen : (m : List ℕ) (t : Side) → message_refusal m ≡ 0 → full t ≡ false → end_of (filled_with m (advanced t)) ≡ lists.handed_over m (end_of t)
unfolding full
filled_seen m t e f =
    let free = (pick_first (eqb t.waits 0) false true false f (λ z. let k : ◌≡◌ {A = ℕ} 0 1 = cc in omega arith)).0 in
    rw (laid-message m (drop (length m) t.incoming) e, free)

-- over lists there is room where the slot is not full; no message is too long for it
room-seen : (s : Side) (m : List ℕ) → message_refusal m ≡ 0 → room s (length m) ≡ not (lists.full rules (end_of s))
unfolding room
room-seen s m e = rw (full-seen s, le-leb (length m) 253 ((message_right m).0 e).1) (go (full s))
  where
    go : (b : Bool) → pick b false true ≡ not b
    go true = refl
    go false = refl

hand_seen : (m : List ℕ) (confirmed : ℕ) (s t : Side) → message_refusal m ≡ 0
    → heard_of s (hand_over m confirmed t).side (hand_over m confirmed t).heard ≡ lists.on_new m (end_of t) (message s.held confirmed) (lists.full rules (end_of t))
unfolding hand_over
hand_seen m confirmed s t e = rw (room-seen t m e, full-seen t) (go (full t) refl)
  where
    go : (b : Bool) → full t ≡ b
        → let h = pick {A = Hearing} (not b) (record { heard = accepted confirmed (length m); side = filled_with m (advanced t) }) (not_taken confirmed t) in
        heard_of s h.side h.heard ≡ lists.on_new m (end_of t) (message s.held confirmed) b
    go true f = refl
    go false f = λ i. heard (filled_seen m t e f i) (laid-message m (drop (length m) t.incoming) e i) (message s.held confirmed)

i_seen : (s : Side) (k : Ack) (m : List ℕ) (n : Seen) (ns : ℕ) → message_refusal m ≡ 0 → lists.seen (end_of s) ns ≡ seen_of n
    → heard_of s (on_i s k m n).side (on_i s k m n).heard ≡ lists.on_i rules ns m (lists.on_nr (end_of s) (ack_of k))
i_seen s ConfirmsNothing m New ns e q = rw q (hand_seen m 0 s s e)
i_seen s Confirms m New ns e q = rw (q, ← held_message s) (hand_seen m s.holds s (released s) e)
i_seen s Astray m New ns e q = refl
i_seen s ConfirmsNothing m Duplicate ns e q = rw q
i_seen s Confirms m Duplicate ns e q = rw (q, held_message s)
i_seen s Astray m Duplicate ns e q = refl
i_seen s ConfirmsNothing m Strange ns e q = rw q
i_seen s Confirms m Strange ns e q = rw q
i_seen s Astray m Strange ns e q = refl

pub rule_seen : (s : Side) (f : Meaning) (m : List ℕ) → frame_refusal f m ≡ 0
    → heard_of s (count_rule s f m).side (count_rule s f m).heard ≡ lists.count_rule rules (end_of s) (frame_of f m)
unfolding count_rule frame_refusal information_refusal
rule_seen s (I ns nr) m e =
    rw (ack-seen s nr) (i_seen s (ack s nr) m (seen s ns) ns.0 (then_zero (counts_refusal (I ns nr)) _ e).1 (seen-seen s ns))
rule_seen s (Rr nr) m e = rw (ack-seen s nr) (nr-seen s (ack s nr))
rule_seen s (Rnr nr) m e = rw (ack-seen s nr) (nr-seen s (ack s nr))
rule_seen s Snrm m e = refl
rule_seen s Disc m e = refl
rule_seen s Ua m e = refl
rule_seen s Frmr m e = refl

pub rnr_seen : (f : Meaning) (m : List ℕ) → lists.is_rnr (frame_of f m) ≡ is_rnr f
unfolding is_rnr
rnr_seen (I ns nr) m = refl
rnr_seen (Rr nr) m = refl
rnr_seen (Rnr nr) m = refl
rnr_seen Snrm m = refl
rnr_seen Disc m = refl
rnr_seen Ua m = refl
rnr_seen Frmr m = refl

-- giving out

status-seen : (s : Side) (m : List ℕ) → frame_of (status s).meaning m ≡ lists.status (full s) s.nr.0
unfolding status
status-seen s m = go (full s)
  where
    go : (b : Bool) → frame_of (pick b (Rnr s.nr) (Rr s.nr)) m ≡ lists.status b s.nr.0
    go true = refl
    go false = refl

-- the frame that a side says, its information being what stands in the slot of the held message
pub say_seen : (may : Bool) (s : Side)
    → frame_of (says may s).meaning (take (says may s).size s.held) ≡ lists.says may (lists.full rules (end_of s)) s.ns.0 s.nr.0 (held_of s)
unfolding says says_held
say_seen false s = rw (full-seen s) (status-seen s (take (status s).size s.held))
say_seen true s = rw (full-seen s) (go (eqb s.holds 0) s.sent)
  where
    go : (z t : Bool)
        → let x = pick {A = Saying} z (status s) (informs s) in
        let m = take s.holds s.held in
        frame_of x.meaning (take x.size s.held) ≡ lists.says true (full s) s.ns.0 s.nr.0 (pick z none (pick t (sent m) (unsent m)))
    go true t = status-seen s (take (status s).size s.held)
    go false true = refl
    go false false = refl

pub said-seen : (may : Bool) (s : Side) → end_of (says may s).side ≡ said may (end_of s)
unfolding says says_held status
said-seen false s = refl
said-seen true s = go (eqb s.holds 0) s.sent refl refl
  where
    go : (z t : Bool) → eqb s.holds 0 ≡ z → s.sent ≡ t → end_of (pick {A = Saying} z (status s) (informs s)).side ≡ said true (end_of s)
    go true t p q = rw p
    go false true p q = rw (p, q)
    go false false p q = rw (p, q)

-- what stays: hearing leaves the bytes of the held message, giving out those of the waiting one

nr_held : (s : Side) (k : Ack) → (on_nr s k).side.held ≡ s.held
nr_held s ConfirmsNothing = refl
nr_held s Confirms = refl
nr_held s Astray = refl

hand_held : (m : List ℕ) (confirmed : ℕ) (s : Side) → (hand_over m confirmed s).side.held ≡ s.held
unfolding hand_over
hand_held m confirmed s = pick_both (λ (h : Hearing). h.side.held ≡ s.held) (room s (length m)) _ _ refl refl

i_held : (s : Side) (k : Ack) (m : List ℕ) (n : Seen) → (on_i s k m n).side.held ≡ s.held
i_held s ConfirmsNothing m New = hand_held m 0 s
i_held s Confirms m New = hand_held m s.holds (released s)
i_held s Astray m New = refl
i_held s k m Duplicate = nr_held s k
i_held s k m Strange = refl

pub rule_held : (s : Side) (f : Meaning) (m : List ℕ) → (count_rule s f m).side.held ≡ s.held
unfolding count_rule
rule_held s (I ns nr) m = i_held s (ack s nr) m (seen s ns)
rule_held s (Rr nr) m = nr_held s (ack s nr)
rule_held s (Rnr nr) m = nr_held s (ack s nr)
rule_held s Snrm m = refl
rule_held s Disc m = refl
rule_held s Ua m = refl
rule_held s Frmr m = refl

pub says_incoming : (may : Bool) (s : Side) → (says may s).side.incoming ≡ s.incoming
unfolding says says_held status
says_incoming may s =
    pick_both (λ (x : Saying). x.side.incoming ≡ s.incoming) may _ _
    (pick_both (λ (x : Saying). x.side.incoming ≡ s.incoming) (eqb s.holds 0) _ _ refl refl)
    refl
