-- Choosing by a test, and the paper's tests in their order.
use Rattle.std.specs.Prelude.{ℕ, Bool, true, false, eqb}

-- the first of two where the test holds, else the second
abbrev pub pick {ℓ} : {A : Type ℓ} → Bool → A → A → A
pick true a b = a
pick false a b = b

infixr 20 ◌then◌
-- "Order of tests": the first number of two that is not 0 (0: nothing is refused)
abbrev pub ◌then◌ : ℕ → ℕ → ℕ
a then b = pick (eqb a 0) b a
