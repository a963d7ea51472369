-- Lists of bytes, put together and taken apart.
-- Assumes nothing.
use Prim.Native.Nat.{ℕ, zero, suc, ◌+◌, ◌<◌}
use mathlib.Core.Path.{◌≡◌, refl, sym, subst}
use mathlib.Core.Bool.{Bool, true, false}
use mathlib.Core.List.{List, [], ◌∷◌, ◌++◌}
use native.Mathlib.Omega.{arith}
use lib.Dec.{ltb}
use lib.ListN.{get_or, take, drop, length-take, get_or-eq_default}
use lib.Seq.{get_or-take, get_or-drop}
use borrow.Author.Tests.{ltb-true, ltb-false}
use Rattle.frame.specs.Bytes.{Bytes}

pub bytes_cons : (a : ℕ) (x : List ℕ) → a < 256 → Bytes x → Bytes (a ∷ x)
bytes_cons a x h b zero = h
bytes_cons a x h b (suc i) = b i

pub bytes_append : (x y : List ℕ) → Bytes x → Bytes y → Bytes (x ++ y)
bytes_append [] y b c i = c i
bytes_append (a ∷ x) y b c zero = b 0
bytes_append (a ∷ x) y b c (suc i) = bytes_append x y (λ k. b (suc k)) c i

pub bytes_take : (n : ℕ) (x : List ℕ) → Bytes x → Bytes (take n x)
bytes_take n x b i = go (ltb i n) refl
  where
    go : (t : Bool) → ltb i n ≡ t → get_or (take n x) i 0 < 256
    go true e = subst (λ (v : ℕ). v < 256) (sym (get_or-take n x i 0 (ltb-true i n e))) (b i)
    go false e =
        subst (λ (v : ℕ). v < 256) (sym (get_or-eq_default (take n x) 0 (let d = ltb-false i n e in omega (arith, length-take n x)))) (omega arith)

pub bytes_drop : (n : ℕ) (x : List ℕ) → Bytes x → Bytes (drop n x)
bytes_drop n x b i = rw (get_or-drop n x i 0) (b (n + i))
