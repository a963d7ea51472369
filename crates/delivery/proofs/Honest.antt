-- Honesty: what goes into an end and what comes out of it balance at every event.
-- Assumes nothing.
use Prim.Native.Nat.{ℕ}
use mathlib.Core.Path.{◌≡◌, refl, sym, ◌∙◌, ap}
use mathlib.Core.Bool.{Bool, true, false, not}
use mathlib.Core.List.{List, [], ◌∷◌, ◌++◌, tail, append-nil, append_assoc}
use Rattle.delivery.specs.Link.{Message, Frame, I, RR, RNR, SNRM, DISC, UA, FRMR, Held, none, unsent, sent, End, Rules, holds, Call, put, take, clear, put_held, called, accepted, put_by, oldest, taken_by, Ack, confirms_nothing, confirms, astray, ack, Seen, new, duplicate, strange, seen, Heard, irrecoverable, heard, released, on_nr, on_new, full, on_ns, on_i, count_rule, mark_sent, said, is_rnr, may_i}
use Rattle.delivery.specs.Runs.{Logs, blank, log_put, log_confirmed, log_handed, log_taken, World, Event, step, run}
use Rattle.delivery.specs.Honesty.{Balanced, Honest, Honesty}
use Rattle.delivery.proofs.Safe.{Inv, Handled, by_event, inv_step, inv_start}

-- x joins at the end of both sides of a balance; x goes over from the right part of its right side to the left one.
joins : (a b c d x : List Message) {d' : List Message} → a ++ b ≡ c ++ d → d' ≡ d ++ x → a ++ (b ++ x) ≡ c ++ d'
joins a b c d x p q = rw (q, ← append_assoc a b x, ← append_assoc c d x, p) refl

crosses : (c x d' : List Message) {p d : List Message} → p ≡ c ++ d → d ≡ x ++ d' → p ≡ (c ++ x) ++ d'
crosses c x d' p q = p ∙ ap (λ (l : List Message). c ++ l) q ∙ sym (append_assoc c x d')

-- What an owner's call puts in and takes out.
put_balances : (m : Message) (o : Held) → holds (put_held m o) ≡ holds o ++ accepted m o
put_balances m none = refl
put_balances m (unsent k) = refl
put_balances m (sent k) = refl

call_puts : (c : Call) (e : End) → holds (called c e).held ≡ holds e.held ++ put_by c e
call_puts (put m) e = put_balances m e.held
call_puts take e = rw (append-nil (holds e.held)) refl
call_puts clear e = rw (append-nil (holds e.held)) refl

take_balances : (l : List Message) → l ≡ oldest l ++ tail l
take_balances [] = refl
take_balances (m ∷ l) = refl

call_takes : (c : Call) (e : End) → e.incoming ≡ taken_by c e ++ (called c e).incoming
call_takes (put m) e = refl
call_takes take e = take_balances e.incoming
call_takes clear e = refl

pub mark_holds : (may : Bool) (o : Held) → holds (mark_sent may o) ≡ holds o
mark_holds false o = refl
mark_holds true none = refl
mark_holds true (unsent m) = refl
mark_holds true (sent m) = refl

-- What the count rule hands over comes to wait, and what it confirms is what was held: of any frame, whatever the counts.
record Sound (e e' : End) (h c : List Message) : Type 0 where
  pub incoming : e'.incoming ≡ e.incoming ++ h
  pub held : holds e.held ≡ c ++ holds e'.held

abbrev Sounds : End → Heard → Type 0
Sounds e irrecoverable = Unit {0}
Sounds e (heard e' h c) = Sound e e' h c

module _ (e : End) where
  sound_nr : (a : Ack) → Sounds e (on_nr e a)
  sound_nr confirms_nothing = record { incoming = sym (append-nil e.incoming); held = refl }
  sound_nr confirms = record { incoming = sym (append-nil e.incoming); held = sym (append-nil (holds e.held)) }
  sound_nr astray = tt

  sound_new : (m : Message) (e' : End) (c : List Message) → e'.incoming ≡ e.incoming → holds e.held ≡ c ++ holds e'.held
      → (b : Bool) → Sounds e (on_new m e' c b)
  sound_new m e' c p q true = record { incoming = p ∙ sym (append-nil e.incoming); held = q }
  sound_new m e' c p q false = record { incoming = ap (λ (l : List Message). l ++ (m ∷ [])) p; held = q }

  sound_ns : (r : Rules) (m : Message) (e' : End) (c : List Message) → e'.incoming ≡ e.incoming → holds e.held ≡ c ++ holds e'.held
      → (s : Seen) → Sounds e (on_ns r m e' c s)
  sound_ns r m e' c p q new = sound_new m e' c p q (full r e')
  sound_ns r m e' c p q duplicate = record { incoming = p ∙ sym (append-nil e.incoming); held = q }
  sound_ns r m e' c p q strange = tt

  sound_i : (r : Rules) (n : ℕ) (m : Message) (a : Ack) → Sounds e (on_i r n m (on_nr e a))
  sound_i r n m confirms_nothing = sound_ns r m e [] refl refl (seen e n)
  sound_i r n m confirms =
      let e' = released e in
      sound_ns r m e' (holds e.held) refl (sym (append-nil (holds e.held))) (seen e' n)
  sound_i r n m astray = tt

  sound : (r : Rules) (f : Frame) → Sounds e (count_rule r e f)
  sound r (I n k m) = sound_i r n m (ack r e k)
  sound r (RR k) = sound_nr (ack r e k)
  sound r (RNR k) = sound_nr (ack r e k)
  sound r SNRM = tt
  sound r DISC = tt
  sound r UA = tt
  sound r FRMR = tt

-- A way's balance, after what its sender or its receiver does.
module _ {held waits : List Message} {a b : End} {l : Logs} (k : Balanced held waits a b l) where
  sender_calls : (c : Call) → Balanced held waits (called c a) b (log_put l (put_by c a))
  sender_calls c =
      record { sent = joins held l.put l.confirmed (holds a.held) (put_by c a) k.sent (call_puts c a); received = k.received }

  receiver_calls : (c : Call) → Balanced held waits a (called c b) (log_taken l (taken_by c b))
  receiver_calls c = record { sent = k.sent; received = crosses l.taken (taken_by c b) (called c b).incoming k.received (call_takes c b) }

  sender_says : (may : Bool) → Balanced held waits (said may a) b l
  sender_says may = record { sent = rw (mark_holds may a.held) k.sent; received = k.received }

  receiver_says : (may : Bool) → Balanced held waits a (said may b) l
  receiver_says may = record { sent = k.sent; received = k.received }

  sender_hears : {a' : End} {h c : List Message} → Sound a a' h c → Balanced held waits a' b (log_confirmed l c)
  sender_hears {a'} {h} {c} s = record { sent = crosses l.confirmed c (holds a'.held) k.sent s.held; received = k.received }

  receiver_hears : {b' : End} {h c : List Message} → Sound b b' h c → Balanced held waits a b' (log_handed l h)
  receiver_hears {b'} {h} {c} s = record { sent = k.sent; received = joins waits l.handed l.taken b.incoming h k.received s.incoming }

honest_handled : (r : Rules) (start w : World) → Honest start w → Handled r w (λ l. Unit {0}) (λ t v. Honest start v)
honest_handled r start w k =
    record {
      same = k;
      master_calls = λ c. record { down = sender_calls k.down c; up = receiver_calls k.up c };
      slave_calls = λ c. record { down = receiver_calls k.down c; up = sender_calls k.up c };
      orders = record { down = sender_says k.down (may_i r w.master); up = receiver_says k.up (may_i r w.master) };
      arrives = λ f l t e h c p g.
          let s : Sound w.slave.end e h c = rw p at (sound w.slave.end r f) in
          let may = not (is_rnr f) in
          record { down = receiver_says (receiver_hears k.down s) may; up = sender_says (sender_hears k.up s) may };
      loses = record { down = k.down; up = k.up };
      hears = λ f l t e h c p g.
          let s : Sound w.master.end e h c = rw p at (sound w.master.end r f) in
          record { down = sender_hears k.down s; up = receiver_hears k.up s };
      silences = record { down = k.down; up = k.up };
    }

honest_run : (r : Rules) (start w : World) → Inv w → Honest start w → (es : List Event) → Honest start (run r w es)
honest_run r start w i k [] = k
honest_run r start w i k (e ∷ es) =
    honest_run r start (step r w e) (inv_step r w i e) (by_event r w i tt (honest_handled r start w k) e) es

balanced_start : (h w : List Message) (a b : End) → h ≡ holds a.held → w ≡ b.incoming → Balanced h w a b blank
balanced_start h w a b p q = record { sent = append-nil h ∙ p; received = append-nil w ∙ q }

pub honesty : Honesty
honesty r start s es =
    honest_run r start start (inv_start start s)
    (record { down = rw s.down (balanced_start _ _ _ _ refl refl); up = rw s.up (balanced_start _ _ _ _ refl refl) })
    es
