-- What can stand at a place of a capture: each record ends inside it, at least four bytes later.
-- Assumes nothing.
use Prim.Native.Nat.{ℕ, ◌+◌, ◌-◌, ◌≤◌, ◌<◌}
use mathlib.Core.Path.{◌≡◌, refl}
use mathlib.Core.List.{List}
use native.Mathlib.Omega.{arith}
use lib.Dec.{eqb}
use lib.ListN.{length, drop, length-drop}
use borrow.Author.Tests.{eqb-true, eqb-false}
use Rattle.frame.specs.Answer.{Answer, gives, refuses}
use Rattle.frame.proofs.Laws.{pick_cases}
use Rattle.capture.specs.declared.records.Frame.{Frame}
use Rattle.capture.specs.Record.{length_of, kind_of, body_of, form_refusal, frame_in, Step, silence, entry, end, way_of, framed, formed, record_of, record_at}
use Rattle.capture.proofs.Forms.{Formed, form_right, silent_four, body_two}

-- what can stand at a place of a capture, with the place where the next record begins
pub data Stands (capture : List ℕ) (at : ℕ) : Answer Step → Type 0 where
  ends : length capture ≤ at → Stands capture at (gives end)
  fails : (n : ℕ) → at < length capture → Stands capture at (refuses n)
  waits : at + 4 ≤ length capture → Stands capture at (gives (entry silence (at + 4)))
  speaks : (kind next : ℕ) (body : List ℕ) (frame : Frame) → frame_in body ≡ gives frame → at + 6 ≤ next → next ≤ length capture
      → Stands capture at (gives (entry (way_of kind frame) next))

module _ (capture : List ℕ) (at : ℕ) (inside : at < length capture) where
  abbrev left : List ℕ
  left = drop at capture

  length-left : length left ≡ length capture - at
  length-left = length-drop at capture

  framed_stands : (x : Answer Frame) → frame_in (body_of left) ≡ x → 6 ≤ length_of left → length_of left ≤ length left
      → Stands capture at (framed (kind_of left) (at + length_of left) x)
  framed_stands (gives frame) e least most =
      let n = length-left in speaks (kind_of left) (at + length_of left) (body_of left) frame e (omega arith) (omega arith)
  framed_stands (refuses n) e least most = fails n inside

  formed_stands : Formed left → Stands capture at (formed at left)
  formed_stands f =
      let n = length-left in
      let head = f.head in
      pick_cases (λ (x : Answer Step). Stands capture at x) (eqb (kind_of left) 3) _ _
      (λ t. rw (silent_four f (eqb-true (kind_of left) 3 t)) (waits (omega arith)))
      (λ t. framed_stands (frame_in (body_of left)) refl (body_two f (eqb-false (kind_of left) 3 t)) f.most)

pub stands : (capture : List ℕ) (at : ℕ) → Stands capture at (record_at capture at)
unfolding record_at record_of
stands capture at =
    let n : length (drop at capture) ≡ length capture - at = length-drop at capture in
    pick_cases (λ (x : Answer Step). Stands capture at x) (eqb (length (drop at capture)) 0) _ _
    (λ t. let none = eqb-true (length (drop at capture)) 0 t in ends (omega arith))
    (λ t. let some = eqb-false (length (drop at capture)) 0 t in let inside : at < length capture = omega arith in
    pick_cases (λ (x : Answer Step). Stands capture at x) (eqb (form_refusal (drop at capture)) 0) _ _
    (λ u. formed_stands capture at inside (form_right (drop at capture) (eqb-true (form_refusal (drop at capture)) 0 u)))
    (λ u. fails (form_refusal (drop at capture)) inside))
