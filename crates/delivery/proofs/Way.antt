-- One way of the link: each count follows a log, and the count rule keeps it so.
-- Assumes nothing.
use Prim.Native.Nat.{ℕ, ◌+◌, ◌%◌}
use native.Mathlib.Omega.{arith}
use mathlib.Core.Path.{◌≡◌, refl, sym, ◌∙◌, ap}
use mathlib.Core.Logic.{◌⊎◌, inl, inr}
use mathlib.Core.Bool.{Bool, true, false}
use mathlib.Core.List.{List, [], ◌∷◌, ◌++◌, append-nil}
use lib.ListN.{length, length-append}
use borrow.Author.Tests.{eq-eqb, ne_eqb}
use Rattle.delivery.specs.Link.{Message, Frame, I, RR, RNR, SNRM, DISC, UA, FRMR, Held, none, unsent, sent, End, Rules, next, holds, Call, put, take, clear, called, confirms, one_ahead, ack, seen, Heard, irrecoverable, heard, released, on_nr, on_new, full, on_ns, count_rule, status, says, mark_sent, said}

-- The messages handed over are those confirmed, or one more, which the sender holds and has sent.
pub data Due (o : Held) (h c : List Message) : Type 0 where
  level : h ≡ c → Due o h c
  over : (m : Message) → o ≡ sent m → h ≡ c ++ (m ∷ []) → Due o h c

-- From a to b: each count is the length of a log modulo 8.
pub record Way (a b : End) (h c : List Message) : Type 0 where
  pub sends : a.ns ≡ length c % 8
  pub takes : b.nr ≡ length h % 8
  pub due : Due a.held h c

-- A frame on the line carries its sender's present counts and its held message.
abbrev pub Carries : End → Frame → Type 0
Carries e (I n k m) = (n ≡ e.ns) × (k ≡ e.nr) × (e.held ≡ sent m)
Carries e (RR k) = k ≡ e.nr
Carries e (RNR k) = k ≡ e.nr
Carries e SNRM = ⊥
Carries e DISC = ⊥
Carries e UA = ⊥
Carries e FRMR = ⊥

-- What the owner's calls and the giving out of a message leave.
pub record Kept (e e' : End) : Type 0 where
  pub ns : e'.ns ≡ e.ns
  pub nr : e'.nr ≡ e.nr
  pub held : (m : Message) → e.held ≡ sent m → e'.held ≡ sent m

put_kept : (m : Message) (e : End) (o : Held) → e.held ≡ o → Kept e (called (put m) e)
put_kept m e none p = record { ns = refl; nr = refl; held = λ k q. let z : ◌≡◌ {A = Held} none (sent k) = sym p ∙ q in cc }
put_kept m e (unsent k) p = record { ns = refl; nr = refl; held = λ k q. cc }
put_kept m e (sent k) p = record { ns = refl; nr = refl; held = λ k q. rw q refl }

pub called-kept : (c : Call) (e : End) → Kept e (called c e)
called-kept (put m) e = put_kept m e e.held refl
called-kept take e = record { ns = refl; nr = refl; held = λ m p. p }
called-kept clear e = record { ns = refl; nr = refl; held = λ m p. p }

mark_sent_lem : (may : Bool) (m : Message) → mark_sent may (sent m) ≡ sent m
mark_sent_lem true m = refl
mark_sent_lem false m = refl

pub said-kept : (may : Bool) (e : End) → Kept e (said may e)
said-kept may e = record { ns = refl; nr = refl; held = λ m p. rw p (mark_sent_lem may m) }

kept_due : {o o' : Held} {h c : List Message} → ((m : Message) → o ≡ sent m → o' ≡ sent m) → Due o h c → Due o' h c
kept_due k (level p) = level p
kept_due k (over m p q) = over m (k m p) q

pub kept_from : {a a' b : End} {h c : List Message} → Kept a a' → Way a b h c → Way a' b h c
kept_from k w = record { sends = k.ns ∙ w.sends; takes = w.takes; due = kept_due k.held w.due }

pub kept_to : {a b b' : End} {h c : List Message} → Kept b b' → Way a b h c → Way a b' h c
kept_to k w = record { sends = w.sends; takes = k.nr ∙ w.takes; due = w.due }

pub kept_carries : {e e' : End} → Kept e e' → (f : Frame) → Carries e f → Carries e' f
kept_carries k (I n j m) (p, q, s) = (p ∙ sym k.ns, q ∙ sym k.nr, k.held m s)
kept_carries k (RR j) p = p ∙ sym k.nr
kept_carries k (RNR j) p = p ∙ sym k.nr
kept_carries {e = e} k SNRM p = elim p [ ]
kept_carries {e = e} k DISC p = elim p [ ]
kept_carries {e = e} k UA p = elim p [ ]
kept_carries {e = e} k FRMR p = elim p [ ]

status_carries : (e : End) (b : Bool) → Carries e (status b e.nr)
status_carries e true = refl
status_carries e false = refl

-- What an end says carries its counts and its message.
pub says_carries : (may b : Bool) (e : End) → Carries (said may e) (says may b e.ns e.nr e.held)
says_carries may b e = go may e.held refl
  where
    go : (t : Bool) (o : Held) → e.held ≡ o → Carries (said t e) (says t b e.ns e.nr o)
    go false o p = status_carries (said false e) b
    go true none p = status_carries (said true e) b
    go true (unsent m) p = (refl, refl, rw p refl)
    go true (sent m) p = (refl, refl, rw p refl)

pub snoc-length : (c : List Message) (m : Message) → length (c ++ (m ∷ [])) ≡ length c + 1
snoc-length c m = length-append c (m ∷ [])

-- What comes of Nr: what was sent is confirmed as far as it was handed over.
record Acked (b e : End) (h c cf : List Message) : Type 0 where
  pub ns : e.ns ≡ length (c ++ cf) % 8
  pub nr : e.nr ≡ b.nr
  pub incoming : e.incoming ≡ b.incoming
  pub caught : h ≡ c ++ cf
  pub moved : ((cf ≡ []) × (e.held ≡ b.held)) ⊎ (cf ≡ holds b.held)

ahead_sent : (t : Bool) (m : Message) → one_ahead t (sent m) ≡ confirms
ahead_sent true m = refl
ahead_sent false m = refl

ack_confirms : (r : Rules) (b : End) (m : Message) (k : ℕ) → b.held ≡ sent m → (k ≡ b.ns → ⊥) → k ≡ next b.ns → ack r b k ≡ confirms
ack_confirms r b m k s x y = rw (ne_eqb _ _ x, eq-eqb _ _ y, s) (ahead_sent r.sent_only m)

heard-nr : (r : Rules) (a b : End) (h c : List Message) (k : ℕ) → Way b a h c → k ≡ a.nr
    → (e : End) × (cf : List Message) × (on_nr b (ack r b k) ≡ heard e [] cf) × Acked b e h c cf
heard-nr r a b h c k w p = go w.due
  where
    go : Due b.held h c → (e : End) × (cf : List Message) × (on_nr b (ack r b k) ≡ heard e [] cf) × Acked b e h c cf
    go (level q) =
        let x : k ≡ b.ns = p ∙ w.takes ∙ ap (λ (l : List Message). length l % 8) q ∙ sym w.sends in (
          b,
          [],
          rw (eq-eqb _ _ x) refl,
          record { ns = rw (append-nil c) w.sends; nr = refl; incoming = refl; caught = rw (append-nil c) q; moved = inl (refl, refl) },
        )
    go (over m s q) =
        let l : length h ≡ length c + 1 = ap length q ∙ snoc-length c m in
        let x : k ≡ b.ns → ⊥ = λ y. omega arith in
        let y : k ≡ next b.ns = omega arith in
        let z : next b.ns ≡ length (c ++ (m ∷ [])) % 8 = omega (arith, snoc-length c m) in (
          released b,
          holds b.held,
          rw (ack_confirms r b m k s x y) refl,
          record { ns = rw s z; nr = refl; incoming = refl; caught = rw s q; moved = inr refl },
        )

-- A message that finds room is handed over, now or before; a frame without one leaves the incoming side.
abbrev Gave : Rules → End → List Message → List Message → Frame → End → Type 0
Gave r b h c (I n k m) e = full r b ≡ false → h ≡ c ++ (m ∷ [])
Gave r b h c (RR k) e = e.incoming ≡ b.incoming
Gave r b h c (RNR k) e = e.incoming ≡ b.incoming
Gave r b h c SNRM e = Unit {0}
Gave r b h c DISC e = Unit {0}
Gave r b h c UA e = Unit {0}
Gave r b h c FRMR e = Unit {0}

-- What b has of a frame from a: both ways hold on, and what b had sent is confirmed as far as it was handed over.
pub record Took (r : Rules) (a b : End) (h c h' c' : List Message) (f : Frame) (e : End) (hd cf : List Message) : Type 0 where
  pub gave : Gave r b (h ++ hd) c f e
  pub inward : Way a e (h ++ hd) c
  pub outward : Way e a h' (c' ++ cf)
  pub caught : h' ≡ c' ++ cf
  pub moved : ((cf ≡ []) × (e.held ≡ b.held)) ⊎ (cf ≡ holds b.held)

abbrev pub Good : Rules → End → End → List Message → List Message → List Message → List Message → Frame → Heard → Type 0
Good r a b h c h' c' f irrecoverable = ⊥
Good r a b h c h' c' f (heard e hd cf) = Took r a b h c h' c' f e hd cf

module _ (r : Rules) (a b : End) (h c h' c' : List Message) (i : Way a b h c) (o : Way b a h' c') where
  -- From what came of Nr: what Ns does leaves Ns and the held message, and has to say what was handed over.
  took : {e e' : End} {hd : List Message} (cf : List Message) (f : Frame) → Acked b e h' c' cf → e'.ns ≡ e.ns → e'.held ≡ e.held
      → Gave r b (h ++ hd) c f e' → Way a e' (h ++ hd) c → Took r a b h c h' c' f e' hd cf
  took cf f g x y t w =
      record {
        gave = t;
        inward = w;
        outward = record { sends = x ∙ g.ns; takes = o.takes; due = level g.caught };
        caught = g.caught;
        moved = rw y g.moved;
      }

  nothing_handed : {e' : End} → e'.nr ≡ b.nr → Way a e' (h ++ []) c
  nothing_handed x = rw (append-nil h) (record { sends = i.sends; takes = x ∙ i.takes; due = i.due })

  heard_new : (e : End) (cf : List Message) (n k : ℕ) (m : Message) → Acked b e h' c' cf → a.held ≡ sent m → h ≡ c → (t : Bool) → full r e ≡ t
      → Good r a b h c h' c' (I n k m) (on_new m e cf t)
  heard_new e cf n k m g s q true z = took cf (I n k m) g refl refl (λ x. cc) (nothing_handed (omega arith))
  heard_new e cf n k m g s q false z =
      took cf (I n k m) g refl refl (λ x. rw q refl)
      (record { sends = i.sends; takes = simp length-append (omega (arith, g.nr, i.takes)); due = over m s (rw q refl) })

  heard_i : (e : End) (cf : List Message) (n k : ℕ) (m : Message) → Acked b e h' c' cf → Carries a (I n k m)
      → Good r a b h c h' c' (I n k m) (on_ns r m e cf (seen e n))
  heard_i e cf n k m g (x, y, s) = go i.due
    where
      go : Due a.held h c → Good r a b h c h' c' (I n k m) (on_ns r m e cf (seen e n))
      go (level q) =
          let z : n ≡ e.nr = x ∙ i.sends ∙ ap (λ (l : List Message). length l % 8) (sym q) ∙ sym i.takes ∙ sym g.nr in
          rw (eq-eqb _ _ z) (heard_new e cf n k m g s q (full r e) refl)
      go (over m' s' q) =
          let l : length h ≡ length c + 1 = ap length q ∙ snoc-length c m' in
          let u : n ≡ e.nr → ⊥ = λ z. omega (arith, g.nr, i.sends, i.takes) in
          let v : next n ≡ e.nr = omega (arith, g.nr, i.sends, i.takes) in
          let z : m' ≡ m = cc in
          rw (ne_eqb _ _ u, eq-eqb _ _ v) (took cf (I n k m) g refl refl (λ t. append-nil h ∙ q ∙ rw z refl) (nothing_handed g.nr))

  -- The count rule keeps both ways, for whatever frame the other end sends.
  pub heard_good : (f : Frame) → Carries a f → Good r a b h c h' c' f (count_rule r b f)
  heard_good (I n k m) l =
      let (e, cf, p, g) = heard-nr r a b h' c' k o l.1 in
      rw p (heard_i e cf n k m g l)
  heard_good (RR k) l =
      let (e, cf, p, g) = heard-nr r a b h' c' k o l in
      rw p (took cf (RR k) g refl refl g.incoming (nothing_handed g.nr))
  heard_good (RNR k) l =
      let (e, cf, p, g) = heard-nr r a b h' c' k o l in
      rw p (took cf (RNR k) g refl refl g.incoming (nothing_handed g.nr))
  heard_good SNRM l = elim l [ ]
  heard_good DISC l = elim l [ ]
  heard_good UA l = elim l [ ]
  heard_good FRMR l = elim l [ ]
