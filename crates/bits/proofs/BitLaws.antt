-- Numbers, bytes and their bits: from one to the other and back, in pieces.
-- Assumes nothing.
use Prim.Native.Nat.{ℕ, zero, suc, ◌+◌, ◌*◌, ◌/◌, ◌%◌, ◌^◌, ◌≤◌, ◌<◌}
use mathlib.Core.Path.{◌≡◌, ◌∙◌, refl, sym, ap, ap₂, subst}
use mathlib.Core.Bool.{Bool, true, false}
use mathlib.Core.List.{List, [], ◌∷◌, ◌++◌, append_assoc}
use native.Mathlib.Omega.{arith}
use native.Mathlib.Nat.{pow-suc, suc-add, zero-add, mul_assoc, mul_comm, lt_of_lt_of_le}
use lib.Dec.{eqb}
use lib.Bits.{block_half, block_odd}
use lib.ListN.{length, take, drop, length-append, length-take, length-drop, take-append-drop}
use lib.Pow.{pow_mono}
use lib.Seq.{take_at, drop_at, length-take-le}
use Rattle.frame.specs.Bytes.{Bytes}
use Rattle.bits.specs.Bits.{num, odd, low, bits_of, val, bytes_of}
use Rattle.bits.specs.Flag.{flag}

-- ---- the lowest bits of a number

pub length-low : (n x : ℕ) → length (low n x) ≡ n
unfolding low
length-low zero x = refl
length-low (suc n) x = ap suc (length-low n (x / 2))

pub low_join : (k a n v : ℕ) → a < 2 ^ k → low (k + n) (v * 2 ^ k + a) ≡ low k a ++ low n v
unfolding low
low_join zero a n v h = let e : v * 2 ^ 0 + a ≡ v = omega arith in rw (zero-add n, e)
low_join (suc k) a n v h =
    let small : a / 2 < 2 ^ k = omega (arith, pow-suc 2 k) in
    rw (suc-add k n, block_odd v k a, block_half v k a) (ap (λ (l : List Bool). odd a ∷ l) (low_join k (a / 2) n v small))

-- a flag's byte
pub flag_bits : low 8 0x7e ≡ flag
unfolding low
flag_bits = refl

pub num-odd : (x : ℕ) → num (odd x) ≡ x % 2
num-odd x = go (x % 2) (omega arith)
  where
    go : (r : ℕ) → r < 2 → num (eqb r 1) ≡ r
    go zero h = refl
    go (suc zero) h = refl
    go (suc (suc r)) h = absurd (omega arith)

-- ---- the number of bits

pub val-low : (n x : ℕ) → x < 2 ^ n → val (low n x) ≡ x
unfolding low val
val-low zero x h = omega arith
val-low (suc n) x h = let e = val-low n (x / 2) (omega (arith, pow-suc 2 n)) in omega (arith, num-odd x)

odd_join : (b : Bool) (n : ℕ) → odd (num b + 2 * n) ≡ b
odd_join true n = let e : (1 + 2 * n) % 2 ≡ 1 = omega arith in rw e
odd_join false n = let e : (0 + 2 * n) % 2 ≡ 0 = omega arith in rw e

half_join : (b : Bool) (n : ℕ) → (num b + 2 * n) / 2 ≡ n
half_join true n = omega arith
half_join false n = omega arith

pub low-val : (bs : List Bool) → low (length bs) (val bs) ≡ bs
unfolding low val
low-val [] = refl
low-val (b ∷ bs) = rw (odd_join b (val bs), half_join b (val bs)) (ap (λ (l : List Bool). b ∷ l) (low-val bs))

pub num_small : (b : Bool) → num b ≤ 1
num_small true = omega arith
num_small false = omega arith

pub val_small : (bs : List Bool) → val bs < 2 ^ length bs
unfolding val
val_small [] = omega arith
val_small (b ∷ bs) = let e = val_small bs in omega (arith, pow-suc 2 (length bs), num_small b)

pub val-append : (x y : List Bool) → val (x ++ y) ≡ val x + 2 ^ length x * val y
unfolding val
val-append [] y = omega arith
val-append (b ∷ bs) y =
    let e = val-append bs y in
    let f : 2 ^ suc (length bs) * val y ≡ 2 * (2 ^ length bs * val y) = ap (λ (n : ℕ). n * val y) (pow-suc 2 (length bs) ∙ mul_comm (2 ^ length bs) 2) ∙ mul_assoc 2 (2 ^ length bs) (val y) in
    omega arith

-- ---- bytes and their bits

pub length_bits_of : (a : List ℕ) → length (bits_of a) ≡ 8 * length a
unfolding bits_of
length_bits_of [] = refl
length_bits_of (x ∷ xs) = omega (arith, length-append (low 8 x) (bits_of xs), length-low 8 x, length_bits_of xs)

pub bits_of_append : (a b : List ℕ) → bits_of (a ++ b) ≡ bits_of a ++ bits_of b
unfolding bits_of
bits_of_append [] b = refl
bits_of_append (x ∷ xs) b = ap (λ (l : List Bool). low 8 x ++ l) (bits_of_append xs b) ∙ sym (append_assoc (low 8 x) (bits_of xs) (bits_of b))

pub length_bytes_of : (n : ℕ) (bs : List Bool) → length (bytes_of n bs) ≡ n
unfolding bytes_of
length_bytes_of zero bs = refl
length_bytes_of (suc n) bs = ap suc (length_bytes_of n (drop 8 bs))

-- bytes to bits and back
pub bytes_back : (a : List ℕ) → Bytes a → bytes_of (length a) (bits_of a) ≡ a
unfolding bytes_of bits_of
bytes_back [] h = refl
bytes_back (x ∷ xs) h =
    rw (take_at (low 8 x) (bits_of xs) 8 (length-low 8 x), drop_at (low 8 x) (bits_of xs) 8 (length-low 8 x), val-low 8 x (h 0))
    (ap (λ (l : List ℕ). x ∷ l) (bytes_back xs (λ i. h (suc i))))

-- whole bytes of bits, to bytes and back
pub bits_back : (n : ℕ) (bs : List Bool) → length bs ≡ 8 * n → bits_of (bytes_of n bs) ≡ bs
unfolding bytes_of bits_of
bits_back zero [] h = refl
bits_back zero (b ∷ bs) h = absurd (omega arith)
bits_back (suc n) bs h =
    let eight : length (take 8 bs) ≡ 8 = omega (arith, length-take 8 bs) in
    let first : low 8 (val (take 8 bs)) ≡ take 8 bs = subst (λ (k : ℕ). low k (val (take 8 bs)) ≡ take 8 bs) eight (low-val (take 8 bs)) in
    ap₂ (λ (l m : List Bool). l ++ m) first (bits_back n (drop 8 bs) (omega (arith, length-drop 8 bs))) ∙ take-append-drop 8 bs

-- each is a byte
pub bytes_of_small : (n : ℕ) (bs : List Bool) → Bytes (bytes_of n bs)
unfolding bytes_of
bytes_of_small zero bs i = omega arith
bytes_of_small (suc n) bs zero = lt_of_lt_of_le (val_small (take 8 bs)) (pow_mono {j = 8} (omega (arith, length-take 8 bs)))
bytes_of_small (suc n) bs (suc i) = bytes_of_small n (drop 8 bs) i

-- the bits of the first bytes, and of the later ones
module _ (n : ℕ) (a : List ℕ) (h : n ≤ length a) where
  split : bits_of a ≡ bits_of (take n a) ++ bits_of (drop n a)
  split = ap bits_of (sym (take-append-drop n a)) ∙ bits_of_append (take n a) (drop n a)

  long : length (bits_of (take n a)) ≡ 8 * n
  long = length_bits_of (take n a) ∙ ap (λ (k : ℕ). 8 * k) (length-take-le n a h)

  pub take_bits : take (8 * n) (bits_of a) ≡ bits_of (take n a)
  take_bits = ap (λ (l : List Bool). take (8 * n) l) split ∙ take_at (bits_of (take n a)) (bits_of (drop n a)) (8 * n) long

  pub drop_bits : drop (8 * n) (bits_of a) ≡ bits_of (drop n a)
  drop_bits = ap (λ (l : List Bool). drop (8 * n) l) split ∙ drop_at (bits_of (take n a)) (bits_of (drop n a)) (8 * n) long
