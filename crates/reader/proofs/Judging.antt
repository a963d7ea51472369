-- The reader's tests in their order: what a passed test tells.
-- Assumes nothing.
use Prim.Native.Nat.{ℕ, ◌+◌, ◌-◌, ◌*◌, ◌/◌, ◌%◌, ◌≤◌}
use mathlib.Core.Path.{◌≡◌, ap}
use mathlib.Core.List.{List}
use lib.Dec.{eqb, ltb}
use native.Mathlib.Omega.{arith}
use lib.ListN.{length, get_or, take, drop}
use lib.Seq.{get_or-drop}
use borrow.Author.Tests.{eqb-true, eqb-false, ltb-false}
use Rattle.frame.specs.Pick.{pick}
use Rattle.frame.specs.Answer.{Answer}
use Rattle.frame.proofs.Laws.{pick_first, pick_second, then_zero}
use Rattle.bits.specs.Check.{check_word}
use Rattle.reader.specs.Read.{◌before◌, removal_refusal, check_refusal}

-- a test that found none
pub before_passes : {A : Type 0} (n : ℕ) (x : Answer A) → n ≡ 0 → (n before x) ≡ x
before_passes {A} n x z = ap (λ (m : ℕ). m before x) z

-- the check word against the last two bytes
pub check_decides : (f : List ℕ) {front back : List ℕ} {word last : ℕ} → 2 ≤ length f → front ≡ take (length f - 2) f → back ≡ drop (length f - 2) f
    → word ≡ check_word front → last ≡ get_or back 0 0 + get_or back 1 0 * 256 → check_refusal f ≡ pick (eqb word last) 0 7
unfolding check_refusal
check_decides f {front} {back} {word} {last} h split rest is-word is_last =
    let n : length f - 2 + 1 ≡ length f - 1 = omega arith in
    let z : length f - 2 + 0 ≡ length f - 2 = omega arith in
    let low : get_or back 0 0 ≡ get_or f (length f - 2) 0 = rw (rest, get_or-drop, z) in
    let high : get_or back 1 0 ≡ get_or f (length f - 1) 0 = rw (rest, get_or-drop, n) in
    let joined : last ≡ get_or f (length f - 2) 0 + 256 * get_or f (length f - 1) 0 = omega arith in
    rw (← split, ← is-word, ← joined)

-- the removal: 3, 4, 5, 6
pub removal_passed : (n run : ℕ) → removal_refusal n run ≡ 0 → (run ≡ 5 → ⊥) × (n % 8 ≡ 0) × (4 ≤ n / 8) × (n / 8 ≤ 257)
unfolding removal_refusal
removal_passed n run e =
    let a = then_zero (pick (eqb run 5) 3 0) _ e in
    let b = then_zero (pick (eqb (n % 8) 0) 0 4) _ a.1 in
    let c = then_zero (pick (ltb (n / 8) 4) 5 0) (pick (ltb 257 (n / 8)) 6 0) b.1 in (
      eqb-false run 5 (pick_second (eqb run 5) 3 0 0 a.0 (λ z. omega arith)).0,
      eqb-true (n % 8) 0 (pick_first (eqb (n % 8) 0) 0 4 0 b.0 (λ z. omega arith)).0,
      ltb-false (n / 8) 4 (pick_second (ltb (n / 8) 4) 5 0 0 c.0 (λ z. omega arith)).0,
      ltb-false 257 (n / 8) (pick_second (ltb 257 (n / 8)) 6 0 0 c.1 (λ z. omega arith)).0,
    )
