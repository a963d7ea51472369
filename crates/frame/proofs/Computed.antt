-- Two functions that agree at each number below a bound, by one comparison of their values that the check computes.
-- Assumes nothing.
use Prim.Native.Nat.{ℕ, zero, suc, ◌<◌}
use mathlib.Core.Path.{◌≡◌, ◌∙◌, refl, ap, sym}
use mathlib.Core.List.{List, [], ◌∷◌}
use native.Mathlib.Nat.{not-suc-le-zero}
use native.Mathlib.Omega.{arith}
use lib.Dec.{eqb}
use borrow.Author.Tests.{eqb-true, eqb-false}
use mathlib.Core.Bool.{Bool, true, false}

module _ {A : Type 0} where
  -- the values at the numbers below n, the last first
  abbrev pub values : (ℕ → A) → ℕ → List A
  values f zero = []
  values f (suc n) = f n ∷ values f n

  head_equal : {a b : A} {l k : List A} → a ∷ l ≡ b ∷ k → a ≡ b
  head_equal e = cc

  tail_equal : {a b : A} {l k : List A} → a ∷ l ≡ b ∷ k → l ≡ k
  tail_equal e = cc

  pub agree : (f g : ℕ → A) (n : ℕ) → values f n ≡ values g n → (k : ℕ) → k < n → f k ≡ g k
  agree f g zero e k h = absurd (not-suc-le-zero h)
  agree f g (suc n) e k h = go (eqb k n) refl (agree f g n (tail_equal e) k)
    where
      go : (t : Bool) → eqb k n ≡ t → (k < n → f k ≡ g k) → f k ≡ g k
      go true q below = ap f (eqb-true k n q) ∙ head_equal e ∙ ap g (sym (eqb-true k n q))
      go false q below = let d = eqb-false k n q in below (omega arith)
