-- Decimal numbers: the bound on their digits does not matter, the digits say the number, and there is no leading zero.
-- Assumes nothing.
use Prim.Native.Nat.{ℕ, zero, suc, ◌+◌, ◌*◌, ◌-◌, ◌/◌, ◌%◌, ◌≤◌, ◌<◌}
use mathlib.Core.Path.{◌≡◌, refl, sym, ◌∙◌, ap}
use mathlib.Core.List.{List, [], ◌∷◌, ◌++◌}
use native.Mathlib.Omega.{arith}
use mathlib.Core.Bool.{Bool, true, false}
use lib.Dec.{ltb}
use lib.ListN.{length, get_or, length-append, get_or-append}
use borrow.Author.Tests.{ltb-true, ltb-false, lt-ltb, le-ltb}
use Rattle.frame.proofs.Laws.{pick_cases}
use Rattle.listing.specs.Decimal.{digits, decimal}
use Rattle.listing.specs.Promises.{value, Decimals}

digits_one : (b n : ℕ) → n < 10 → digits b n ≡ (48 + n) ∷ []
unfolding digits
digits_one zero n h = refl
digits_one (suc b) n h = rw (lt-ltb n 10 h)

digits_more : (b n : ℕ) → 10 ≤ n → digits (suc b) n ≡ digits b (n / 10) ++ ((48 + n % 10) ∷ [])
unfolding digits
digits_more b n h = rw (le-ltb n 10 h)

-- any bound that is not below the number will do
same_digits : (a b n : ℕ) → n ≤ a → n ≤ b → digits a n ≡ digits b n
same_digits zero b n h k = digits_one zero n (omega arith) ∙ sym (digits_one b n (omega arith))
same_digits (suc a) zero n h k = digits_one (suc a) n (omega arith) ∙ sym (digits_one zero n (omega arith))
same_digits (suc a) (suc b) n h k = go (ltb n 10) refl (same_digits a b (n / 10))
  where
    go : (t : Bool) → ltb n 10 ≡ t → (n / 10 ≤ a → n / 10 ≤ b → digits a (n / 10) ≡ digits b (n / 10)) → digits (suc a) n ≡ digits (suc b) n
    go true e same = let l = ltb-true n 10 e in digits_one (suc a) n l ∙ sym (digits_one (suc b) n l)
    go false e same =
        let l = ltb-false n 10 e in
        digits_more a n l ∙ ap (λ (d : List ℕ). d ++ ((48 + n % 10) ∷ [])) (same (omega arith) (omega arith)) ∙ sym (digits_more b n l)

-- "Decimal numbers": a digit alone, or the digits of the tenth part and the last digit
pub decimal_one : (n : ℕ) → n < 10 → decimal n ≡ (48 + n) ∷ []
unfolding decimal
decimal_one n h = digits_one n n h

pub decimal_more : (n : ℕ) → 10 ≤ n → decimal n ≡ decimal (n / 10) ++ ((48 + n % 10) ∷ [])
unfolding decimal
decimal_more (suc m) h =
    digits_more m (suc m) h ∙ ap (λ (d : List ℕ). d ++ ((48 + suc m % 10) ∷ [])) (same_digits m (suc m / 10) (suc m / 10) (omega arith) (omega arith))
decimal_more zero h = absurd (omega arith)

digits_few : (b n : ℕ) → length (digits b n) ≤ 1 + b
unfolding digits
digits_few zero n = omega arith
digits_few (suc b) n =
    pick_cases (λ (d : List ℕ). length d ≤ 1 + suc b) (ltb n 10) _ _ (λ t. omega arith)
    (λ t. let few = digits_few b (n / 10) in omega (arith, length-append (digits b (n / 10)) ((48 + n % 10) ∷ [])))

digits_some : (b n : ℕ) → 1 ≤ length (digits b n)
unfolding digits
digits_some zero n = omega arith
digits_some (suc b) n =
    pick_cases (λ (d : List ℕ). 1 ≤ length d) (ltb n 10) _ _ (λ t. omega arith)
    (λ t. omega (arith, length-append (digits b (n / 10)) ((48 + n % 10) ∷ [])))

pub decimal_some : (n : ℕ) → 1 ≤ length (decimal n)
unfolding decimal
decimal_some n = digits_some n n

-- a number has no more digits than one and itself
pub decimal_few : (n : ℕ) → length (decimal n) ≤ 1 + n
unfolding decimal
decimal_few n = digits_few n n

value_last : (before : ℕ) (ds : List ℕ) (d : ℕ) → value before (ds ++ (d ∷ [])) ≡ 10 * value before ds + (d - 48)
value_last before [] d = refl
value_last before (x ∷ ds) d = value_last (10 * before + (x - 48)) ds d

Said : ℕ → List ℕ → Type 0
Said n ds = (value 0 ds ≡ n) × (get_or ds 0 0 ≡ 48 → n ≡ 0)

digits-said : (b n : ℕ) → n ≤ b → Said n (digits b n)
unfolding Said digits
digits-said zero n h = (omega arith, λ z. omega arith)
digits-said (suc b) n h = go (ltb n 10) refl (digits-said b (n / 10))
  where
    go : (t : Bool) → ltb n 10 ≡ t → (n / 10 ≤ b → Said (n / 10) (digits b (n / 10))) → Said n (digits (suc b) n)
    go true e tenth = rw (digits_one (suc b) n (ltb-true n 10 e)) (omega arith, λ z. omega arith)
    go false e tenth =
        let l = ltb-false n 10 e in
        let first = tenth (omega arith) in
        let last = value_last 0 (digits b (n / 10)) (48 + n % 10) in
        let front = get_or-append (digits b (n / 10)) ((48 + n % 10) ∷ []) 0 0 (digits_some b (n / 10)) in
        let said = first.0 in
        rw (digits_more b n l) (omega arith, λ z. let none = first.1 (sym front ∙ z) in absurd (omega arith))

pub decimals : Decimals
unfolding decimal Said
decimals n = digits-said n n (omega arith)
