-- Laws of what a call gives: what holds of the end handed in and of the end after the call holds of the end given back, and the numbers are those of the tests.
-- Assumes nothing.
use Prim.Native.Nat.{ℕ}
use mathlib.Core.Path.{◌≡◌}
use mathlib.Core.List.{List, ◌∷◌}
use lib.Dec.{eqb}
use borrow.Author.Tests.{eqb-true}
use Rattle.frame.specs.Answer.{Among, Lists}
use Rattle.frame.proofs.Laws.{pick_cases, unless_lists}
use Rattle.side.specs.Given.{Given, refusing}

module _ {A E : Type 0} where
  pub refusing_keeps : (P : E → Type 0) (n : ℕ) (e : E) (g : Given A E) → P e → (n ≡ 0 → P g.end) → P (refusing n e g).end
  refusing_keeps P n e g p q = pick_cases (λ (x : Given A E). P x.end) (eqb n 0) _ _ (λ t. q (eqb-true n 0 t)) (λ t. p)

  pub refusing_lists : (ks : List ℕ) (n : ℕ) (e : E) (g : Given A E) → Among n (0 ∷ ks) → Lists ks g.answer → Lists ks (refusing n e g).answer
  refusing_lists ks n e g p q =
      pick_cases (λ (x : Given A E). Lists ks x.answer) (eqb n 0) _ _ (λ t. q) (λ t. rw t at (unless_lists {n = n} (tt {0}) p))
