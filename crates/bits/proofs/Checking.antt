-- The check word's register is linear, so that eight steps are one, which depends on a byte alone.
-- Assumes nothing.
use Prim.Native.Nat.{ℕ, zero, suc, ◌+◌, ◌*◌, ◌/◌, ◌%◌, ◌^◌, ◌<◌}
use mathlib.Core.Path.{◌≡◌, ◌∙◌, refl, sym, ap, ap₂}
use mathlib.Core.Bool.{Bool, true, false}
use mathlib.Core.List.{List, [], ◌∷◌, ◌++◌}
use native.Mathlib.Omega.{arith}
use native.Mathlib.Nat.{pow-suc, div-add-mod'}
use lib.Arith.{bin_ind}
use borrow.Author.Tests.{eq-eqb}
use lib.Dec.{eqb, lit<}
use lib.Bits.{bit_xor, differ, xor_step, xor_comm, xor_zero_r, xor_self, xor_shifted, shifted_half, shifted_even}
use Rattle.std.specs.List.{fold}
use Rattle.frame.specs.Pick.{pick}
use Rattle.bits.specs.Bits.{num, odd, low, bits_of}
use Rattle.bits.specs.Check.{shifted, register, after_zeros}
use Rattle.bits.proofs.BitLaws.{num-odd}

-- ---- the sum without carry

differ_small : (x y : ℕ) → x < 2 → y < 2 → differ x y < 2
differ_small zero y h k = k
differ_small (suc zero) zero h k = lit< tt
differ_small (suc zero) (suc zero) h k = lit< tt
differ_small (suc zero) (suc (suc y)) h k = absurd (omega arith)
differ_small (suc (suc x)) y h k = absurd (omega arith)

xor_half : (a b : ℕ) → bit_xor a b / 2 ≡ bit_xor (a / 2) (b / 2)
xor_half a b = let d = differ_small (a % 2) (b % 2) (omega arith) (omega arith) in let e = xor_step a b in omega arith

xor_odd : (a b : ℕ) → bit_xor a b % 2 ≡ differ (a % 2) (b % 2)
xor_odd a b = let d = differ_small (a % 2) (b % 2) (omega arith) (omega arith) in let e = xor_step a b in omega arith

differ_assoc : (x y z : ℕ) → x < 2 → y < 2 → z < 2 → differ (differ x y) z ≡ differ x (differ y z)
differ_assoc zero y z h k l = refl
differ_assoc (suc zero) zero z h k l = refl
differ_assoc (suc zero) (suc zero) zero h k l = refl
differ_assoc (suc zero) (suc zero) (suc zero) h k l = refl
differ_assoc (suc zero) (suc zero) (suc (suc z)) h k l = absurd (omega arith)
differ_assoc (suc zero) (suc (suc y)) z h k l = absurd (omega arith)
differ_assoc (suc (suc x)) y z h k l = absurd (omega arith)

pub xor_assoc : (a b c : ℕ) → bit_xor (bit_xor a b) c ≡ bit_xor a (bit_xor b c)
xor_assoc =
    bin_ind (λ (a : ℕ). (b c : ℕ) → bit_xor (bit_xor a b) c ≡ bit_xor a (bit_xor b c)) (λ b c. refl)
    (λ a ih b c.
    xor_step (bit_xor a b) c
    ∙ ap₂ (λ (x y : ℕ). x * 2 + y)
    (ap (λ (n : ℕ). bit_xor n (c / 2)) (xor_half a b) ∙ ih (b / 2) (c / 2) ∙ ap (λ (n : ℕ). bit_xor (a / 2) n) (sym (xor_half b c)))
    (ap (λ (n : ℕ). differ n (c % 2)) (xor_odd a b) ∙ differ_assoc (a % 2) (b % 2) (c % 2) (omega arith) (omega arith) (omega arith)
    ∙ ap (λ (n : ℕ). differ (a % 2) n) (sym (xor_odd b c)))
    ∙ sym (xor_step a (bit_xor b c)))

-- two sums, taken crosswise
xor_cross : (a b c d : ℕ) → bit_xor (bit_xor a b) (bit_xor c d) ≡ bit_xor (bit_xor a c) (bit_xor b d)
xor_cross a b c d =
    xor_assoc a b (bit_xor c d) ∙ ap (bit_xor a) (sym (xor_assoc b c d) ∙ ap (λ (n : ℕ). bit_xor n d) (xor_comm b c) ∙ xor_assoc c b d)
    ∙ sym (xor_assoc a c (bit_xor b d))

-- ---- one step, and many

-- the polynomial, where it is laid over the register
mask : ℕ → ℕ → ℕ
mask r b = pick (eqb r b) 0 0x8408

shifted_mask : (c : ℕ) (b : Bool) → shifted c b ≡ bit_xor (c / 2) (mask (c % 2) (num b))
unfolding shifted mask
shifted_mask c b = go (eqb (c % 2) (num b))
  where
    go : (t : Bool) → pick t (c / 2) (bit_xor (c / 2) 0x8408) ≡ bit_xor (c / 2) (pick t 0 0x8408)
    go true = sym (xor_zero_r (c / 2))
    go false = refl

mask_differ : (r s b d : Bool) → mask (differ (num r) (num s)) (differ (num b) (num d)) ≡ bit_xor (mask (num r) (num b)) (mask (num s) (num d))
unfolding mask
mask_differ false false false false = refl
mask_differ false false false true = refl
mask_differ false false true false = refl
mask_differ false false true true = refl
mask_differ false true false false = refl
mask_differ false true false true = refl
mask_differ false true true false = refl
mask_differ false true true true = refl
mask_differ true false false false = refl
mask_differ true false false true = refl
mask_differ true false true false = refl
mask_differ true false true true = refl
mask_differ true true false false = refl
mask_differ true true false true = refl
mask_differ true true true false = refl
mask_differ true true true true = refl

shifted_xor : (c d x y : ℕ) → shifted (bit_xor c d) (odd (bit_xor x y)) ≡ bit_xor (shifted c (odd x)) (shifted d (odd y))
shifted_xor c d x y =
    shifted_mask (bit_xor c d) (odd (bit_xor x y))
    ∙ ap₂ (λ (m n : ℕ). bit_xor m n) (xor_half c d)
    (ap₂ mask (xor_odd c d ∙ sym (ap₂ differ (num-odd c) (num-odd d))) (num-odd (bit_xor x y) ∙ xor_odd x y ∙ sym (ap₂ differ (num-odd x) (num-odd y)))
    ∙ mask_differ (odd c) (odd d) (odd x) (odd y)
    ∙ ap₂ (λ (m n : ℕ). bit_xor (mask m (num (odd x))) (mask n (num (odd y)))) (num-odd c) (num-odd d))
    ∙ xor_cross (c / 2) (d / 2) (mask (c % 2) (num (odd x))) (mask (d % 2) (num (odd y)))
    ∙ sym (ap₂ bit_xor (shifted_mask c (odd x)) (shifted_mask d (odd y)))

-- the register is linear in itself and in the bits
pub register_xor : (n c d x y : ℕ) → register (bit_xor c d) (low n (bit_xor x y)) ≡ bit_xor (register c (low n x)) (register d (low n y))
unfolding register low
register_xor zero c d x y = refl
register_xor (suc n) c d x y =
    ap₂ (λ (m k : ℕ). register m (low n k)) (shifted_xor c d x y) (xor_half x y) ∙ register_xor n (shifted c (odd x)) (shifted d (odd y)) (x / 2) (y / 2)

-- over its own bits it falls to zero
shifted_own : (x : ℕ) → shifted x (odd x) ≡ x / 2
unfolding shifted
shifted_own x = rw (num-odd x, eq-eqb (x % 2) (x % 2) refl)

register_own : (n x : ℕ) → x < 2 ^ n → register x (low n x) ≡ 0
unfolding register low
register_own zero x h = omega arith
register_own (suc n) x h = ap (λ (c : ℕ). register c (low n (x / 2))) (shifted_own x) ∙ register_own n (x / 2) (omega (arith, pow-suc 2 n))

-- zeros move its upper bits down
shifted_high : (a n : ℕ) → shifted (a * 2 ^ suc n) false ≡ a * 2 ^ n
unfolding shifted
shifted_high a n = rw (shifted_even a n) (shifted_half a n)

register_high : (n a : ℕ) → register (a * 2 ^ n) (low n 0) ≡ a
unfolding register low
register_high zero a = omega arith
register_high (suc n) a = ap (λ (c : ℕ). register c (low n 0)) (shifted_high a n) ∙ register_high n a

-- eight steps in one
pub register_byte : (c x : ℕ) → x < 256 → register c (low 8 x) ≡ bit_xor (c / 256) (after_zeros (bit_xor (c % 256) x))
unfolding after_zeros
register_byte c x h =
    let parts : bit_xor (c / 256 * 2 ^ 8) (c % 256) ≡ c = xor_shifted (c / 256) 8 (c % 256) (omega arith) ∙ div-add-mod' c 256 in
    let upper : register c (low 8 x) ≡ bit_xor (register (c / 256 * 2 ^ 8) (low 8 0)) (register (c % 256) (low 8 x)) =
    ap (λ (n : ℕ). register n (low 8 x)) (sym parts) ∙ register_xor 8 (c / 256 * 2 ^ 8) (c % 256) 0 x in
    let lower : register (bit_xor (c % 256) x) (low 8 0) ≡ register (c % 256) (low 8 x) =
    ap (λ (n : ℕ). register (bit_xor (c % 256) x) (low 8 n)) (sym (xor_self x)) ∙ register_xor 8 (c % 256) x x x
    ∙ ap (bit_xor (register (c % 256) (low 8 x))) (register_own 8 x h) ∙ xor_zero_r (register (c % 256) (low 8 x)) in
    upper ∙ ap₂ bit_xor (register_high 8 (c / 256)) (sym lower)

-- ---- bytes in pieces

pub register-append : (c : ℕ) (x y : List Bool) → register c (x ++ y) ≡ register (register c x) y
unfolding register
register-append c [] y = refl
register-append c (b ∷ bs) y = register-append (shifted c b) bs y

register_none : (c : ℕ) → c ≡ register c []
unfolding register
register_none c = refl

-- byte by byte
pub register-fold : (c : ℕ) (bytes : List ℕ) → fold (λ (r x : ℕ). register r (low 8 x)) c bytes ≡ register c (bits_of bytes)
unfolding bits_of
register-fold c [] = register_none c
register-fold c (x ∷ xs) = register-fold (register c (low 8 x)) xs ∙ sym (register-append c (low 8 x) (bits_of xs))
