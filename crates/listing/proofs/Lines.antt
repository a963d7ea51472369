-- The lines of a capture: the bound on their count does not matter, and they go on where a record ends.
-- Assumes nothing.
use Prim.Native.Nat.{ℕ, zero, suc, ◌+◌, ◌-◌, ◌≤◌, ◌<◌}
use mathlib.Core.Path.{◌≡◌, refl, sym, ◌∙◌, ap}
use mathlib.Core.List.{List, [], ◌++◌, append_assoc, append-nil}
use native.Mathlib.Omega.{arith}
use lib.ListN.{length}
use Rattle.frame.specs.Answer.{Answer}
use Rattle.capture.specs.Record.{Step, record_at}
use Rattle.capture.proofs.Forms.{record_end}
use Rattle.capture.proofs.Standing.{Stands, ends, fails, waits, speaks, stands}
use Rattle.listing.specs.Listing.{line_of, follow, lines_from, lines_of}
use Rattle.listing.specs.declared.text.Text.{Text}
use Rattle.listing.specs.Put.{Puts, place_after}
use Rattle.listing.specs.Promises.{Bounds}
use Rattle.listing.proofs.Putting.{puts_on, puts_as, puts_none}

-- what follows is the same under two bounds where it is so from every later place
follow_same : {capture : List ℕ} {at : ℕ} {x : Answer Step} → Stands capture at x → (f g : ℕ → List ℕ)
    → ((next : ℕ) → at + 4 ≤ next → f next ≡ g next) → follow x f ≡ follow x g
follow_same (ends h) f g same = refl
follow_same (fails n h) f g same = refl
follow_same {at = at} (waits h) f g same = same (at + 4) (omega arith)
follow_same (speaks kind next body frame e h k) f g same = same next (omega arith)

-- past the end no line follows, whatever the bound
pub lines_past : (b : ℕ) (capture : List ℕ) (n at : ℕ) → length capture ≤ at → lines_from b capture n at ≡ []
unfolding lines_from
lines_past zero capture n at h = refl
lines_past (suc b) capture n at h = rw (record_end capture at h)

-- any bound that reaches the end will do
pub lines_enough : Bounds
unfolding lines_from
lines_enough zero b capture n at h k = sym (lines_past b capture n at (omega arith))
lines_enough (suc a) zero capture n at h k = lines_past (suc a) capture n at (omega arith)
lines_enough (suc a) (suc b) capture n at h k =
    ap (λ (l : List ℕ). line_of n (record_at capture at) ++ l)
    (follow_same (stands capture at) (λ (next : ℕ). lines_from a capture (n + 1) next) (λ (next : ℕ). lines_from b capture (n + 1) next)
    (λ next far. lines_enough a b capture (n + 1) next (omega arith) (omega arith)))

-- the lines from a place on, with no bound to give
abbrev pub lines_at : List ℕ → ℕ → ℕ → List ℕ
lines_at capture n at = lines_from (length capture - at) capture n at

-- what follows a record that ends before the capture's end, or none
follow_on : {capture : List ℕ} {at : ℕ} {x : Answer Step} → Stands capture at x → (n : ℕ)
    → follow x (λ (next : ℕ). lines_at capture n next) ≡ lines_at capture n (place_after x (length capture))
follow_on {capture} (ends h) n = sym (lines_past _ capture n (length capture) (omega arith))
follow_on {capture} (fails r h) n = sym (lines_past _ capture n (length capture) (omega arith))
follow_on (waits h) n = refl
follow_on (speaks kind next body frame e h k) n = refl

-- the lines from a place on are the line there and those from the place after it on
pub lines_step : (capture : List ℕ) (n at : ℕ) → at < length capture
    → lines_at capture n at ≡ line_of n (record_at capture at) ++ lines_at capture (n + 1) (place_after (record_at capture at) (length capture))
unfolding lines_from
lines_step capture n at h =
    let more : length capture - at ≡ suc (length capture - at - 1) = omega arith in
    rw more
    (ap (λ (l : List ℕ). line_of n (record_at capture at) ++ l)
    (follow_same (stands capture at) (λ (next : ℕ). lines_from (length capture - at - 1) capture (n + 1) next) (λ (next : ℕ). lines_at capture (n + 1) next)
    (λ next far. lines_enough (length capture - at - 1) (length capture - next) capture (n + 1) next (omega arith) (omega arith))
    ∙ follow_on (stands capture at) (n + 1)))

-- the next record begins later, and not past the end
far : {capture : List ℕ} {at : ℕ} {x : Answer Step} → Stands capture at x → at < length capture
    → (at + 1 ≤ place_after x (length capture)) × (place_after x (length capture) ≤ length capture)
far (ends h) i = (omega arith, omega arith)
far (fails r h) i = (omega arith, omega arith)
far (waits h) i = (omega arith, omega arith)
far (speaks kind next body frame e h k) i = (omega arith, omega arith)

pub further : (capture : List ℕ) (place : ℕ) {x : Answer Step} → x ≡ record_at capture place → place < length capture → place < place_after x (length capture)
further capture place e h = rw e (let later = (far (stands capture place) h).0 in omega arith)

-- how far the listing has come: text that was put, and the lines that are left, are all lines of the capture
pub record Sofar (capture : List ℕ) (old new : Text) (place number : ℕ) : Type 0 where
  pub text : List ℕ
  pub done : Puts text old new
  pub inside : place ≤ length capture
  pub counted : number ≤ place + 1
  pub whole : text ++ lines_at capture number place ≡ lines_of capture

module _ {capture : List ℕ} {old : Text} where
  pub sofar_none : Sofar capture old old 0 1
  unfolding lines_of
  sofar_none = record { text = []; done = puts_none old; inside = omega arith; counted = omega arith; whole = let e : length capture - 0 ≡ length capture = omega arith in rw e }

  pub sofar-line : {new new' : Text} {place place' number : ℕ} {found : Answer Step} → Sofar capture old new place number → place < length capture
      → found ≡ record_at capture place → Puts (line_of number found) new new' → place' ≡ place_after found (length capture)
      → Sofar capture old new' place' (number + 1)
  sofar-line {place = place} {place'} {number} s h f p e =
      let line = line_of number (record_at capture place) in
      let next : place' ≡ place_after (record_at capture place) (length capture) = e ∙ ap (λ (x : Answer Step). place_after x (length capture)) f in
      let later = far (stands capture place) h in
      let counted = s.counted in
      record {
        text = s.text ++ line;
        done = puts_on s.done (puts_as (ap (λ (x : Answer Step). line_of number x) f) p);
        inside = omega arith;
        counted = omega arith;
        whole = rw (next, append_assoc, ← lines_step capture number place h) s.whole;
      }

  pub sofar_all : {new : Text} {place number : ℕ} → Sofar capture old new place number → length capture ≤ place → Puts (lines_of capture) old new
  sofar_all {place = place} {number} s h =
      puts_as (sym (append-nil s.text) ∙ ap (λ (l : List ℕ). s.text ++ l) (sym (lines_past (length capture - place) capture number place h)) ∙ s.whole) s.done
