-- The bit at a place of packed bytes, by division.
-- Assumes nothing.
use Prim.Native.Nat.{ℕ, zero, suc, ◌+◌, ◌-◌, ◌*◌, ◌/◌, ◌%◌, ◌^◌, ◌<◌}
use mathlib.Core.Path.{◌≡◌, ◌∙◌, sym, ap}
use mathlib.Core.Bool.{Bool}
use mathlib.Core.List.{List, [], ◌∷◌}
use native.Mathlib.Decide.{dec_lt}
use native.Mathlib.Nat.{pow-succ', div-div-eq-div-mul, le_of_suc-le-suc, not-suc-le-zero}
use native.Mathlib.Omega.{arith}
use lib.ListN.{length, get_or, get_or-append}
use lib.Seq.{get_or-append-add}
use Rattle.bits.specs.Bits.{odd, low, bits_of}
use Rattle.bits.proofs.BitLaws.{length-low}

low_bit : (n x i : ℕ) (d : Bool) → i < n → get_or (low n x) i d ≡ odd (x / 2 ^ i)
unfolding low
low_bit zero x i d h = absurd (not-suc-le-zero h)
low_bit (suc n) x zero d h = let e : x / 2 ^ 0 ≡ x = omega arith in rw e
low_bit (suc n) x (suc i) d h = low_bit n (x / 2) i d (le_of_suc-le-suc h) ∙ ap odd (div-div-eq-div-mul x 2 (2 ^ i) ∙ ap (λ (k : ℕ). x / k) (sym (pow-succ' 2 i)))

pub bit_at : (a : List ℕ) (i : ℕ) (d : Bool) → i < 8 * length a → get_or (bits_of a) i d ≡ odd (get_or a (i / 8) 0 / 2 ^ (i % 8))
unfolding bits_of
bit_at [] i d h = absurd (omega arith)
bit_at (x ∷ xs) i d h = go (dec_lt i 8) (λ k. bit_at xs k d)
  where
    go : Dec (i < 8) → ((k : ℕ) → k < 8 * length xs → get_or (bits_of xs) k d ≡ odd (get_or xs (k / 8) 0 / 2 ^ (k % 8))) → get_or (bits_of (x ∷ xs)) i d ≡ odd (get_or (x ∷ xs) (i / 8) 0 / 2 ^ (i % 8))
    go (yes b) later =
        let q : i / 8 ≡ 0 = omega arith in
        let r : i % 8 ≡ i = omega arith in
        get_or-append (low 8 x) (bits_of xs) d i (omega (arith, length-low 8 x)) ∙ low_bit 8 x i d b ∙ rw (q, r)
    go (no b) later =
        let k = i - 8 in
        let o : i ≡ length (low 8 x) + k = omega (arith, length-low 8 x) in
        let q : i / 8 ≡ suc (k / 8) = omega arith in
        let r : i % 8 ≡ k % 8 = omega arith in
        ap (λ (n : ℕ). get_or (bits_of (x ∷ xs)) n d) o ∙ get_or-append-add (low 8 x) (bits_of xs) k d ∙ later k (omega arith) ∙ rw (q, r)
