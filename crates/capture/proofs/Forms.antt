-- What a record has that is not refused.
-- Assumes nothing.
use Prim.Native.Nat.{ℕ, ◌+◌, ◌-◌, ◌≤◌, ◌<◌}
use mathlib.Core.Path.{◌≡◌, ◌∙◌, refl, sym, ap}
use mathlib.Core.Bool.{false}
use mathlib.Core.List.{List, []}
use native.Mathlib.Omega.{arith}
use lib.Dec.{eqb, ltb}
use lib.ListN.{length, take, drop, length-take, length-drop, drop_of_length-le}
use Rattle.std.proofs.lemmas.List.{take_rest}
use borrow.Author.Tests.{ltb-false, eqb-true, eq-eqb, ne_eqb}
use Rattle.frame.specs.Answer.{Answer, gives, refuses, number_of}
use Rattle.frame.specs.declared.number.Refusal.{Refusal}
use Rattle.frame.proofs.Laws.{pick_first, pick_second}
use Rattle.frame.proofs.LosesNothing.{refused}
use Rattle.capture.specs.declared.records.Frame.{Frame}
use Rattle.capture.specs.declared.records.Kind.{Kind}
use Rattle.capture.specs.declared.records.Kind.TheVariants.{Order as IsOrder, Response as IsResponse, Silence as IsSilence}
use Rattle.capture.specs.Record.{length_of, kind_of, kind_refusal, form_refusal, frame_in, silence, entry, end, framed, kind_number, record_of, record_at}

-- a kind that is not refused 18 with its body, and is no silence, has two bytes at least
body_least : (kind size : ℕ) → kind_refusal kind size ≡ 0 → (kind ≡ 3 → ⊥) → 2 ≤ size
unfolding kind_refusal
body_least kind size e other =
    let low = pick_second (ltb kind 1) 18 _ 0 (rw (ne_eqb kind 3 other) at e) (λ z. omega arith) in
    let high = pick_second (ltb 2 kind) 18 _ 0 low.1 (λ z. omega arith) in
    let few = pick_second (ltb size 2) 18 _ 0 high.1 (λ z. omega arith) in
    ltb-false size 2 few.0

-- a silence that is not refused 18 has no body
silent_none : (kind size : ℕ) → kind_refusal kind size ≡ 0 → kind ≡ 3 → size ≡ 0
unfolding kind_refusal
silent_none kind size e k =
    let none = pick_first (eqb size 0) 0 18 0 (rw (eq-eqb kind 3 k) at e) (λ z. omega arith) in
    eqb-true size 0 none.0

-- what is known of the bytes left where 18 is not given
pub record Formed (left : List ℕ) : Type 0 where
  pub head : 4 ≤ length left
  pub least : 4 ≤ length_of left
  pub most : length_of left ≤ length left
  pub right : kind_refusal (kind_of left) (length_of left - 4) ≡ 0

pub form_right : (left : List ℕ) → form_refusal left ≡ 0 → Formed left
unfolding form_refusal
form_right left e =
    let head = pick_second (ltb (length left) 4) 18 _ 0 e (λ z. omega arith) in
    let least = pick_second (ltb (length_of left) 4) 18 _ 0 head.1 (λ z. omega arith) in
    let most = pick_second (ltb (length left) (length_of left)) 18 _ 0 least.1 (λ z. omega arith) in
    record {
      head = ltb-false (length left) 4 head.0;
      least = ltb-false (length_of left) 4 least.0;
      most = ltb-false (length left) (length_of left) most.0;
      right = most.1;
    }

pub body_two : {left : List ℕ} → Formed left → (kind_of left ≡ 3 → ⊥) → 6 ≤ length_of left
body_two {left} f other = let b = body_least (kind_of left) (length_of left - 4) f.right other in omega (arith, f.least)

-- the definition, answer by answer
pub record_end : (capture : List ℕ) (at : ℕ) → length capture ≤ at → record_at capture at ≡ gives end
unfolding record_at record_of
record_end capture at h = let none : drop at capture ≡ [] = drop_of_length-le capture h in rw none

-- the record at the front of what is left
module _ (at : ℕ) (left : List ℕ) (some : 0 < length left) where
  pub record_refused : (n : ℕ) → eqb n 0 ≡ false → n ≡ form_refusal left → record_of at left ≡ refuses n
  unfolding record_of
  record_refused n z e = rw (ne_eqb (length left) 0 (λ y. omega arith), ← e, z)

  pub record_silent : {size : ℕ} → form_refusal left ≡ 0 → size ≡ length_of left → kind_of left ≡ 3 → record_of at left ≡ gives (entry silence (at + size))
  unfolding record_of
  record_silent e s k = rw (ne_eqb (length left) 0 (λ z. omega arith), eq-eqb (form_refusal left) 0 e, eq-eqb (kind_of left) 3 k, s)

  pub record_framed : {size kind : ℕ} {held : Answer Frame} → form_refusal left ≡ 0 → size ≡ length_of left → kind ≡ kind_of left → (kind ≡ 3 → ⊥)
      → held ≡ frame_in (take (size - 4) (drop 4 left)) → record_of at left ≡ framed kind (at + size) held
  unfolding record_of
  record_framed {size} {kind} e s k other j =
      let tests = ne_eqb kind 3 other in
      rw (ne_eqb (length left) 0 (λ z. omega arith), eq-eqb (form_refusal left) 0 e, ← s, ← k, tests, j)

-- a kind that is no silence has another number
other : (kind : Kind) → (kind ≡ IsSilence → ⊥) → kind_number kind ≡ 3 → ⊥
other IsOrder n e = omega arith
other IsResponse n e = omega arith
other IsSilence n e = n refl

speaks : (kind : Kind) → (kind ≡ IsSilence → ⊥) → {n : ℕ} → kind_number kind ≡ n → n ≡ 3 → ⊥
speaks kind n e f = other kind n (e ∙ f)

-- what is left of a capture from a place inside it on, and what its head tells
module _ (capture : List ℕ) (at : ℕ) (inside : at < length capture) where
  abbrev pub left_at : List ℕ
  left_at = take (length capture - at) (drop at capture)

  left_some : 0 < length left_at
  left_some = omega (arith, length-take (length capture - at) (drop at capture), length-drop at capture)

  pub at_refused : (r : Refusal) → number_of r ≡ form_refusal left_at → refuses (number_of r) ≡ record_at capture at
  unfolding record_at
  at_refused r e = rw (← take_rest capture at) (sym (record_refused at left_at left_some (number_of r) (refused r) e))

  module _ (size : ℕ) (kind : Kind) (right : 0 ≡ form_refusal left_at) (head : (size ≡ length_of left_at) × (kind_number kind ≡ kind_of left_at)) where
    abbrev body : List ℕ
    body = take (size - 4) (drop 4 left_at)

    pub at_inside : (4 ≤ size) × (size ≤ length left_at) × (at + size ≤ length capture)
    at_inside =
        let f = form_right left_at (sym right) in
        let least = f.least in
        let most = f.most in
        (omega arith, omega arith, omega (arith, length-take (length capture - at) (drop at capture), length-drop at capture))

    pub at_two : (kind ≡ IsSilence → ⊥) → 2 ≤ length body
    at_two n = let most = at_inside.2 in let six = body_two (form_right left_at (sym right)) (speaks kind n (head.1)) in simp (length-take, length-drop) (omega arith)

    pub at_silent : kind ≡ IsSilence → gives (entry silence (at + size)) ≡ record_at capture at
    unfolding record_at
    at_silent k =
        let three : kind_of left_at ≡ 3 = sym (head.1) ∙ ap kind_number k in
        rw (← take_rest capture at) (sym (record_silent at left_at left_some (sym right) (head.0) three))

    pub at_framed : (kind ≡ IsSilence → ⊥) → (held : Answer Frame) → held ≡ frame_in body → framed (kind_number kind) (at + size) held ≡ record_at capture at
    unfolding record_at
    at_framed n held e =
        rw (← take_rest capture at) (sym (record_framed at left_at left_some (sym right) (head.0) (head.1) (other kind n) e))

-- a silence is four bytes long
pub silent_four : {left : List ℕ} → Formed left → kind_of left ≡ 3 → length_of left ≡ 4
silent_four {left} f k =
    let none = silent_none (kind_of left) (length_of left - 4) f.right k in
    let least = f.least in
    omega arith
