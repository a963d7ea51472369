-- Decimal numbers in ASCII (01, "Captures": "Decimal numbers").
use Rattle.std.specs.Prelude.{ℕ, zero, suc, ◌+◌, ◌/◌, ◌%◌, List, [], ◌∷◌, ◌++◌, ltb}
use Rattle.frame.specs.Pick.{pick}

-- the digits of n, of which there are at most b after the first: a digit alone, or the digits of its tenth part and the last one
unfoldable pub digits : ℕ → ℕ → List ℕ
digits zero n = (48 + n) ∷ []
digits (suc b) n = pick (ltb n 10) ((48 + n) ∷ []) (digits b (n / 10) ++ ((48 + n % 10) ∷ []))

-- no number n has more than n digits after the first
unfoldable pub decimal : ℕ → List ℕ
decimal n = digits n n
