-- Reading a record gives the numbers of its list and no other.
-- Assumes nothing.
use Prim.Native.Nat.{ℕ, ◌+◌, ◌-◌}
use mathlib.Core.Path.{◌≡◌, refl}
use mathlib.Core.List.Memᴰ.{head as here}
use mathlib.Core.List.Memᴰ.{tail as there}
use mathlib.Core.List.{List, [], ◌∷◌}
use lib.Dec.{eqb, ltb}
use lib.ListN.{length, get_or, drop}
use borrow.Author.Tests.{eqb-false}
use Rattle.frame.specs.Answer.{Answer, gives, refuses, Among, Lists}
use Rattle.frame.specs.Control.{decode_of}
use Rattle.frame.specs.Refusal.{address_refusal}
use Rattle.frame.specs.declared.Meaning.{Meaning}
use Rattle.frame.proofs.Laws.{pick_both, pick_cases, pick_among, unless_lists}
use Rattle.frame.proofs.Numbers.{numbers as frame-numbers}
use Rattle.capture.specs.declared.records.Frame.{Frame}
use Rattle.capture.specs.Record.{length_of, kind_of, body_of, kind_refusal, form_refusal, with_information, with_control, frame_in, Step, framed, record_of, record_at}
use Rattle.capture.specs.Promises.{Numbers, record_numbers}

kind_numbers : (kind size : ℕ) → Among (kind_refusal kind size) (0 ∷ record_numbers)
unfolding kind_refusal
kind_numbers kind size =
    let none = here refl in
    let wrong = there (here refl) in
    pick_among (eqb kind 3) (pick_among (eqb size 0) none wrong)
    (pick_among (ltb kind 1) wrong
    (pick_among (ltb 2 kind) wrong
    (pick_among (ltb size 2) wrong
    (pick_among (ltb 255 size) wrong
    none))))

form_numbers : (left : List ℕ) → Among (form_refusal left) (0 ∷ record_numbers)
unfolding form_refusal
form_numbers left =
    let wrong = there (here refl) in
    pick_among (ltb (length left) 4) wrong
    (pick_among (ltb (length_of left) 4) wrong
    (pick_among (ltb (length left) (length_of left)) wrong
    (kind_numbers (kind_of left) (length_of left - 4))))

information_numbers : (address : ℕ) (m : Meaning) (info : List ℕ) → Lists record_numbers (with_information address m info)
unfolding with_information
information_numbers address m info = unless_lists _ (wider (frame-numbers.information m info))
  where
    wider : {n : ℕ} → Among n (0 ∷ 10 ∷ 12 ∷ []) → Among n (0 ∷ record_numbers)
    wider (here e) = here e
    wider (there (here e)) = there (there (there (there (here e))))
    wider (there (there (here e))) = there (there (there (there (there (here e)))))
    wider {n = n} (there (there (there x12))) = elim x12 [ ]

control_numbers : (address : ℕ) (x : Answer Meaning) (info : List ℕ) → Lists (9 ∷ []) x → Lists record_numbers (with_control address x info)
control_numbers address (gives m) info l = information_numbers address m info
control_numbers address (refuses n) info (here e) = there (there (here e))
control_numbers address (refuses n) info (there x5) = elim x5 [ ]

frame_lists : (body : List ℕ) → Lists record_numbers (frame_in body)
unfolding frame_in
frame_lists body =
    pick_cases (λ (x : Answer Frame). Lists record_numbers x) (eqb (address_refusal (get_or body 0 0)) 0) _ _
    (λ t. control_numbers (get_or body 0 0) (decode_of (get_or body 1 0)) (drop 2 body) (frame-numbers.decode (get_or body 1 0)))
    (λ t. other (eqb-false (address_refusal (get_or body 0 0)) 0 t) (frame-numbers.address (get_or body 0 0)))
  where
    other : {n : ℕ} → (n ≡ 0 → ⊥) → Among n (0 ∷ 8 ∷ []) → Among n record_numbers
    other z (here e) = absurd (z e)
    other z (there (here e)) = there (here e)
    other {n = n} z (there (there x8)) = elim x8 [ ]

framed_numbers : (kind next : ℕ) (x : Answer Frame) → Lists record_numbers x → Lists record_numbers (framed kind next x)
framed_numbers kind next (gives f) l = tt
framed_numbers kind next (refuses n) l = l

pub numbers : Numbers
unfolding record_at record_of
numbers capture at =
    let left = drop at capture in
    let Listed : Answer Step → Type 0 = λ (x : Answer Step). Lists record_numbers x in
    pick_both Listed (eqb (length left) 0) _ _ tt
    (pick_cases Listed (eqb (form_refusal left) 0) _ _
    (λ t. pick_both Listed (eqb (kind_of left) 3) _ _ tt (framed_numbers (kind_of left) (at + length_of left) (frame_in (body_of left)) (frame_lists (body_of left))))
    (λ t. other (eqb-false (form_refusal left) 0 t) (form_numbers left)))
  where
    other : {n : ℕ} → (n ≡ 0 → ⊥) → Among n (0 ∷ record_numbers) → Among n record_numbers
    other z (here e) = absurd (z e)
    other z (there m) = m
