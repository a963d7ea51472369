-- A held message through two whole exchanges, for either way: the induction over a run, and what each event leaves of a held message.
-- Assumes nothing.
use Prim.Native.Nat.{ℕ, ◌+◌, ◌<◌}
use native.Mathlib.Omega.{arith}
use mathlib.Core.Path.{◌≡◌, refl, sym, ◌∙◌, ap}
use mathlib.Core.Logic.{◌⊎◌, inl, inr, ⊎_elim}
use mathlib.Core.Bool.{Bool, true, false}
use mathlib.Core.List.{List, [], ◌∷◌, ◌++◌, append-nil, append_assoc, tail}
use lib.ListN.{length, length-append}
use borrow.Author.Tests.{lt-leb}
use Rattle.delivery.specs.Link.{Message, Frame, I, RR, RNR, SNRM, DISC, UA, FRMR, Held, none, unsent, sent, End, Rules, holds, Call, put, take, clear, put_held, called, full, says, is_rnr}
use Rattle.delivery.specs.Runs.{World, Event, step, run}
use Rattle.delivery.specs.Exchanges.{Turn, begins, ends, neither, turn, Under, uncounted, begun, under, counted, wholes}
use Rattle.delivery.specs.Liveness.{Room, One, Two, Next}
use Rattle.delivery.proofs.Way.{Due, level, over, snoc-length}
use Rattle.delivery.proofs.Safe.{Inv, Handled, by_event, inv_step}

-- The exchange under way is counted, and began where p held.
abbrev pub Began : (World → Type 0) → Under → Type 0
Began p uncounted = ⊥
Began p (begun v) = p v

abbrev pub AtEnd : Turn → Type 0 → Type 0
AtEnd begins X = Unit {0}
AtEnd ends X = X
AtEnd neither X = Unit {0}

-- What is left to meet after an event: an exchange that ends is the one looked for, or those after it are looked at.
one_later : (q : World → Type 0) (t : Turn) (u : Under) (ws : List World) → AtEnd t (Began q u → ⊥) → One q (counted t u ws) → One q ws
one_later q begins u ws a o = o
one_later q ends uncounted ws a o = o
one_later q ends (begun v) ws a (inl x) = absurd (a x)
one_later q ends (begun v) ws a (inr o) = o
one_later q neither u ws a o = o

two_later : (p q : World → Type 0) {X : Type 0} (t : Turn) (u : Under) (ws : List World) → AtEnd t (Began p u → X) → Two p q (counted t u ws)
    → (X × One q ws) ⊎ Two p q ws
two_later p q begins u ws a o = inr o
two_later p q ends uncounted ws a o = inr o
two_later p q ends (begun v) ws a (inl (x, o)) = inl (a x, o)
two_later p q ends (begun v) ws a (inr o) = inr o
two_later p q neither u ws a o = inr o

-- `First` stands until a whole exchange that began where p held, `Second` from there until one that began where q held; then it is done.
abbrev pub FirstAfter : (World → Type 0) → (World → Type 0) → (Under → World → Type 0) → (Under → World → Type 0) → World → Under → Turn → World → Type 0
FirstAfter p Done First Second w u t v = Done v ⊎ (First (under t w u) v × AtEnd t (Began p u → Second (under t w u) v))

abbrev pub SecondAfter : (World → Type 0) → (World → Type 0) → (Under → World → Type 0) → World → Under → Turn → World → Type 0
SecondAfter q Done Second w u t v = Done v ⊎ (Second (under t w u) v × AtEnd t (Began q u → ⊥))

module _
    (r : Rules) (p q Done : World → Type 0) (First Second : Under → World → Type 0)
    (done-step : (w : World) → Inv w → Done w → (e : Event) → Done (step r w e))
    (first_step : (w : World) (u : Under) → Inv w → First u w → (e : Event) → FirstAfter p Done First Second w u (turn w e) (step r w e))
    (second-step : (w : World) (u : Under) → Inv w → Second u w → (e : Event) → SecondAfter q Done Second w u (turn w e) (step r w e))
  where
    done-run : (w : World) → Inv w → Done w → (es : List Event) → Done (run r w es)
    done-run w i d [] = d
    done-run w i d (e ∷ es) = done-run (step r w e) (inv_step r w i e) (done-step w i d e) es

    second_run : (u : Under) (w : World) → Inv w → Second u w → (es : List Event) → One q (wholes r u w es) → Done (run r w es)
    second_run u w i s [] o = absurd o
    second_run u w i s (e ∷ es) o =
        let v = step r w e in
        let j = inv_step r w i e in
        let u' = under (turn w e) w u in
        ⊎_elim
        (λ d. done-run v j d es)
        (λ a. second_run u' v j a.0 es (one_later q (turn w e) u (wholes r u' v es) a.1 o))
        (second-step w u i s e)

    pub first_run : (u : Under) (w : World) → Inv w → First u w → (es : List Event) → Two p q (wholes r u w es) → Done (run r w es)
    first_run u w i s [] o = absurd o
    first_run u w i s (e ∷ es) o =
        let v = step r w e in
        let j = inv_step r w i e in
        let u' = under (turn w e) w u in
        ⊎_elim
        (λ d. done-run v j d es)
        (λ a.
        ⊎_elim
        (λ b. second_run u' v j b.0 es b.1)
        (λ b. first_run u' v j a.0 es b)
        (two_later p q (turn w e) u (wholes r u' v es) a.1 o))
        (first_step w u i s e)

-- What is confirmed stays so: both logs only grow.
abbrev pub Longer : List Message → List Message → Type 0
Longer l l' = (x : List Message) × (l' ≡ l ++ x)

abbrev pub Grown : World → World → Type 0
Grown w v = record { down : Longer w.down.confirmed v.down.confirmed; up : Longer w.up.confirmed v.up.confirmed }

grown_handled : (r : Rules) (w : World) → Handled r w (λ l. Unit {0}) (λ t v. Grown w v)
grown_handled r w =
    let z : Grown w w = record { down = ([], sym (append-nil w.down.confirmed)); up = ([], sym (append-nil w.up.confirmed)) } in
    record {
      same = z;
      master_calls = λ k. z;
      slave_calls = λ k. z;
      orders = z;
      arrives = λ f l t e h c p g. record { down = z.down; up = (c, refl) };
      loses = z;
      hears = λ f l t e h c p g. record { down = (c, refl); up = z.up };
      silences = z;
    }

pub grown : (r : Rules) (w : World) → Inv w → (e : Event) → Grown w (step r w e)
grown r w i e = by_event r w i tt (grown_handled r w) e

pub next_longer : (c : List Message) (m : Message) {l l' : List Message} → Longer l l' → Next c m l → Next c m l'
next_longer c m (x, q) (rest, p) = (rest ++ x, rw (q, p) (append_assoc c (m ∷ rest) x))

-- An owner's call leaves the held message, and the room.
put_holds : (k : Message) (o : Held) (m : Message) → holds o ≡ m ∷ [] → holds (put_held k o) ≡ m ∷ []
put_holds k none m p = cc
put_holds k (unsent x) m p = p
put_holds k (sent x) m p = p

pub call_holds : (c : Call) (e : End) (m : Message) → holds e.held ≡ m ∷ [] → holds (called c e).held ≡ m ∷ []
call_holds (put k) e m p = put_holds k e.held m p
call_holds take e m p = p
call_holds clear e m p = p

tail_room : (l : List Message) (n : ℕ) → length l < n → length (tail l) < n
tail_room [] n h = h
tail_room (m ∷ l) n h = omega arith

pub call_room : (r : Rules) (c : Call) (e : End) → Room r e → Room r (called c e)
call_room r (put k) e h = h
call_room r take e h = tail_room e.incoming r.capacity h
call_room r clear e h = h

pub room-full : (r : Rules) (e : End) → Room r e → full r e ≡ false
room-full r e h = lt-leb _ _ h

-- An end with room says no RNR; one that may send and holds m says I with m.
pub says_no_rnr : (may : Bool) (ns nr : ℕ) (o : Held) → is_rnr (says may false ns nr o) ≡ false
says_no_rnr false ns nr o = refl
says_no_rnr true ns nr none = refl
says_no_rnr true ns nr (unsent m) = refl
says_no_rnr true ns nr (sent m) = refl

abbrev pub Brings : Message → Frame → Type 0
Brings m (I n k x) = x ≡ m
Brings m (RR k) = ⊥
Brings m (RNR k) = ⊥
Brings m SNRM = ⊥
Brings m DISC = ⊥
Brings m UA = ⊥
Brings m FRMR = ⊥

pub says_brings : (m : Message) (b : Bool) (ns nr : ℕ) (o : Held) → holds o ≡ m ∷ [] → Brings m (says true b ns nr o)
says_brings m b ns nr none p = let z : ◌≡◌ {A = ℕ} 0 1 = cc in absurd (omega arith)
says_brings m b ns nr (unsent x) p = cc
says_brings m b ns nr (sent x) p = cc

-- A message handed over and not yet confirmed stays the one that is over.
pub still_over : {o : Held} (h x c : List Message) (m : Message) → holds o ≡ m ∷ [] → h ≡ c ++ (m ∷ []) → Due o (h ++ x) c → h ++ x ≡ c ++ (m ∷ [])
still_over h x c m p q (level d) =
    let l : length h ≡ length c + 1 = ap length q ∙ snoc-length c m in
    let z : length (h ++ x) ≡ length c = ap length d in
    absurd (omega (arith, length-append h x))
still_over h x c m p q (over k s d) =
    let y : holds (sent k) ≡ m ∷ [] = rw s at p in
    let z : k ≡ m = cc in
    d ∙ rw z refl

-- The sender has heard a frame: it has confirmed the message, or holds it still.
pub confirmed_or_held : (o o' : Held) (c log x : List Message) (m : Message) → holds o ≡ m ∷ [] → log ≡ c → ((x ≡ []) × (o' ≡ o)) ⊎ (x ≡ holds o)
    → Next c m (log ++ x) ⊎ (record { held : holds o' ≡ m ∷ []; log : log ++ x ≡ c })
confirmed_or_held o o' c log x m p q (inl (a, b)) = inr (record { held = rw b p; log = rw (a, append-nil log) q })
confirmed_or_held o o' c log x m p q (inr a) = inl ([], rw (a, p, q) refl)
