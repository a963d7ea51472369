-- Laws of choosing by a test, of the paper's tests in their order, and of answers.
-- Assumes nothing.
use Prim.Native.Nat.{ℕ}
use mathlib.Core.Path.{◌≡◌, refl}
use mathlib.Core.Bool.{Bool, true, false}
use mathlib.Core.List.Memᴰ
use mathlib.Core.List.Memᴰ.{head as here}
use mathlib.Core.List.Memᴰ.{tail as there}
use mathlib.Core.List.{List, ◌∷◌, ◌++◌}
use native.Mathlib.Omega.{arith}
use lib.Dec.{eqb}
use borrow.Author.Tests.{eqb-true, eqb-false}
use Rattle.frame.specs.Pick.{pick, ◌then◌}
use Rattle.frame.specs.Answer.{Answer, gives, refuses, unless, Among, Lists}

-- what holds of both holds of what is picked; each is shown knowing the test
pub pick_cases {ℓ} : {A : Type ℓ} (P : A → Type 0) (t : Bool) (a b : A) → (t ≡ true → P a) → (t ≡ false → P b) → P (pick t a b)
pick_cases P true a b p q = p refl
pick_cases P false a b p q = q refl

pub pick_both {ℓ} : {A : Type ℓ} (P : A → Type 0) (t : Bool) (a b : A) → P a → P b → P (pick t a b)
pick_both P t a b p q = pick_cases P t a b (λ _. p) (λ _. q)

-- a picked value that the second cannot be, or the first cannot be: inverting a chain goes test by test
pub pick_first {ℓ} : {A : Type ℓ} (t : Bool) (a b c : A) → pick t a b ≡ c → (b ≡ c → ⊥) → (t ≡ true) × (a ≡ c)
pick_first true a b c e n = (refl, e)
pick_first false a b c e n = absurd (n e)

pub pick_second {ℓ} : {A : Type ℓ} (t : Bool) (a b c : A) → pick t a b ≡ c → (a ≡ c → ⊥) → (t ≡ false) × (b ≡ c)
pick_second true a b c e n = absurd (n e)
pick_second false a b c e n = (refl, e)

-- nothing is refused by tests in a row exactly where nothing is refused by each
pub then_zero : (a b : ℕ) → (a then b) ≡ 0 → (a ≡ 0) × (b ≡ 0)
then_zero a b = pick_cases (λ (n : ℕ). n ≡ 0 → (a ≡ 0) × (b ≡ 0)) (eqb a 0) b a (λ t e. (eqb-true a 0 t, e)) (λ t e. absurd (eqb-false a 0 t e))

-- an answer with values was not refused
pub unless_gives : {A : Type 0} (n : ℕ) (v w : A) → unless n v ≡ gives w → (n ≡ 0) × (v ≡ w)
unless_gives {A} n v w =
    pick_cases (λ (x : Answer A). x ≡ gives w → (n ≡ 0) × (v ≡ w)) (eqb n 0) (gives v) (refuses n) (λ t e. (eqb-true n 0 t, cc)) (λ t e. (absurd_answer e))
  where
    absurd_answer : refuses n ≡ gives w → (n ≡ 0) × (v ≡ w)
    absurd_answer e = let z : ◌≡◌ {A = ℕ} 0 1 = cc in absurd (omega arith)

-- numbers picked from a list
pub pick_among : {ks : List ℕ} (t : Bool) {a b : ℕ} → Among a ks → Among b ks → Among (pick t a b) ks
pick_among {ks} t {a} {b} = pick_both (λ (n : ℕ). Among n ks) t a b

-- tests in a row give the numbers of either, or 0
pub then_among : {a b : ℕ} (ks ls : List ℕ) → Among a (0 ∷ ks) → Among b (0 ∷ ls) → Among (a then b) (0 ∷ ks ++ ls)
then_among {a} {b} ks ls p q = pick_among (eqb a 0) (second q) (Memᴰ.append_left ls p)
  where
    second : Among b (0 ∷ ls) → Among b (0 ∷ ks ++ ls)
    second (here e) = here e
    second (there m) = there (Memᴰ.append_right ks m)

-- and those of one list where both do
pub then_both : {ks : List ℕ} {a b : ℕ} → Among a ks → Among b ks → Among (a then b) ks
then_both {ks} {a} {b} p q = pick_among (eqb a 0) q p

-- an answer gives the numbers of its tests
pub unless_lists : {A : Type 0} {n : ℕ} (v : A) {ks : List ℕ} → Among n (0 ∷ ks) → Lists ks (unless n v)
unless_lists {A} {n} v {ks} p = pick_cases (λ (x : Answer A). Lists ks x) (eqb n 0) (gives v) (refuses n) (λ t. tt) (λ t. other (eqb-false n 0 t) p)
  where
    other : (n ≡ 0 → ⊥) → Among n (0 ∷ ks) → Among n ks
    other z (here e) = absurd (z e)
    other z (there m) = m

-- an answer with values is none with a number, and numbers of one answer are one
module _ {A : Type 0} where
  pub gives_not : {v : A} {n : ℕ} → gives v ≡ refuses n → ⊥
  gives_not e = cc

  pub refuses_one : {n k : ℕ} → ◌≡◌ {A = Answer A} (refuses n) (refuses k) → n ≡ k
  refuses_one e = cc
