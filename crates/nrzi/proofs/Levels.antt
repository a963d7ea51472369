-- Laws of NRZI: in pieces, in part, and there and back.
-- Assumes nothing.
use Prim.Native.Nat.{ℕ, zero, suc, ◌+◌, ◌-◌, ◌*◌, ◌/◌, ◌%◌, ◌^◌, ◌≤◌, ◌<◌}
use mathlib.Core.Path.{◌≡◌, ◌∙◌, refl, sym, ap, ap₂, subst}
use mathlib.Core.Bool.{Bool, true, false}
use mathlib.Core.List.{List, [], ◌∷◌, ◌++◌, append-nil, append_assoc}
use native.Mathlib.Nat.{div-one, zero-add, add-zero, suc-add, one-mul, mod-lt, div-add-mod', mul-le-mul_right}
use native.Mathlib.Numerals.{add-one, add-one-le, one-add}
use native.Mathlib.Omega.{arith}
use lib.Bits.{bit_xor, bit_or}
use mir.Val.{bool_byte}
use lib.ListN.{length, take, drop, get_or, set, length-drop}
use lib.Pow.{shr-shr, shr_lt, shl_exact, pow-add, pow_pos}
use lib.Seq.{take-suc, take_all, take-append-le, drop-append-le, drop-cons, set_at, length-take-le}
use Rattle.frame.proofs.Computed.{agree}
use Rattle.bits.specs.Bits.{odd, low, val, bits_of, bytes_of}
use Rattle.bits.proofs.BitLaws.{length-low, low_join, low-val, val-low, bits_of_append, length_bits_of, length_bytes_of}
use Rattle.nrzi.specs.Nrzi.{level, codes, after, coding, reached}

-- what the code does to a byte, eight bits at once
abbrev spread : ℕ → ℕ → ℕ
spread k z = bit_xor z (z * 2 ^ k % 256)

abbrev parities : ℕ → ℕ
parities x = spread 4 (spread 2 (spread 1 (255 - x)))

abbrev pub levels_byte : Bool → ℕ → ℕ
levels_byte true x = 255 - parities x
levels_byte false x = parities x

abbrev pub bits_byte : Bool → ℕ → ℕ
bits_byte l x = 255 - bit_xor x (bit_or (x * 2 % 256) (bool_byte l))

pub levels_byte_lem : (l : Bool) (x : ℕ) → x < 256 → levels_byte l x ≡ val (coding false l (low 8 x))
unfolding val coding low
levels_byte_lem true = agree (levels_byte true) (λ (x : ℕ). val (coding false true (low 8 x))) 256 refl
levels_byte_lem false = agree (levels_byte false) (λ (x : ℕ). val (coding false false (low 8 x))) 256 refl

pub bits_byte_lem : (l : Bool) (x : ℕ) → x < 256 → bits_byte l x ≡ val (coding true l (low 8 x))
unfolding val coding low
bits_byte_lem true = agree (bits_byte true) (λ (x : ℕ). val (coding true true (low 8 x))) 256 refl
bits_byte_lem false = agree (bits_byte false) (λ (x : ℕ). val (coding true false (low 8 x))) 256 refl

pub length-coding : (back l : Bool) (bs : List Bool) → length (coding back l bs) ≡ length bs
unfolding coding
length-coding back l [] = refl
length-coding back l (b ∷ bs) = ap suc (length-coding back (after back l b) bs)

pub coding-append : (back l : Bool) (x y : List Bool) → coding back l (x ++ y) ≡ coding back l x ++ coding back (reached back l x) y
unfolding coding reached
coding-append back l [] y = refl
coding-append back l (b ∷ bs) y = ap (λ (r : List Bool). codes back l b ∷ r) (coding-append back (after back l b) bs y)

pub reached-append : (back l : Bool) (x y : List Bool) → reached back l (x ++ y) ≡ reached back (reached back l x) y
unfolding reached
reached-append back l [] y = refl
reached-append back l (b ∷ bs) y = reached-append back (after back l b) bs y

pub coding-take : (back l : Bool) (n : ℕ) (bs : List Bool) → take n (coding back l bs) ≡ coding back l (take n bs)
unfolding coding
coding-take back l zero bs = refl
coding-take back l (suc n) [] = refl
coding-take back l (suc n) (b ∷ bs) = ap (λ (r : List Bool). codes back l b ∷ r) (coding-take back (after back l b) n bs)

-- there and back gives the bits again, and back and there the levels
pub bits_again : (l : Bool) (bs : List Bool) → coding true l (coding false l bs) ≡ bs
unfolding coding
bits_again l [] = refl
bits_again true (true ∷ bs) = ap (λ (r : List Bool). true ∷ r) (bits_again true bs)
bits_again true (false ∷ bs) = ap (λ (r : List Bool). false ∷ r) (bits_again false bs)
bits_again false (true ∷ bs) = ap (λ (r : List Bool). true ∷ r) (bits_again false bs)
bits_again false (false ∷ bs) = ap (λ (r : List Bool). false ∷ r) (bits_again true bs)

pub levels_again : (l : Bool) (ks : List Bool) → coding false l (coding true l ks) ≡ ks
unfolding coding
levels_again l [] = refl
levels_again true (true ∷ ks) = ap (λ (r : List Bool). true ∷ r) (levels_again true ks)
levels_again true (false ∷ ks) = ap (λ (r : List Bool). false ∷ r) (levels_again false ks)
levels_again false (true ∷ ks) = ap (λ (r : List Bool). true ∷ r) (levels_again true ks)
levels_again false (false ∷ ks) = ap (λ (r : List Bool). false ∷ r) (levels_again false ks)

-- bytes of bits, in pieces
pub bytes_of_append : (n m : ℕ) (c d : List Bool) → length c ≡ 8 * n → bytes_of (n + m) (c ++ d) ≡ bytes_of n c ++ bytes_of m d
unfolding bytes_of
bytes_of_append zero m [] d h = rw (zero-add m)
bytes_of_append zero m (b ∷ c) d h = absurd (omega arith)
bytes_of_append (suc n) m c d h =
    let first : take 8 (c ++ d) ≡ take 8 c = take-append-le 8 c d (omega arith) in
    let later : drop 8 (c ++ d) ≡ drop 8 c ++ d = drop-append-le 8 c d (omega arith) in
    let left : length (drop 8 c) ≡ 8 * n = omega (arith, length-drop 8 c) in
    rw (suc-add n m, first, later) (ap (λ (r : List ℕ). val (take 8 c) ∷ r) (bytes_of_append n m (drop 8 c) d left))

pub bytes_of_one : (d : List Bool) → length d ≡ 8 → bytes_of 1 d ≡ val d ∷ []
unfolding bytes_of
bytes_of_one d h = ap (λ (r : List Bool). val r ∷ []) (take_all 8 d (omega arith))

-- the level after the first n bits of a byte: their last, as levels
level-after : (l : Bool) (k x : ℕ) → reached true l (low (suc k) x) ≡ odd (x / 2 ^ k)
unfolding reached low
level-after l zero x = rw (div-one x)
level-after l (suc k) x = let half : x / 2 / 2 ^ k ≡ x / 2 ^ suc k = shr-shr x 1 k ∙ ap (λ (n : ℕ). x / 2 ^ n) (one-add k) in level-after (odd x) k (x / 2) ∙ ap odd half

same_end : (l : Bool) (bs : List Bool) → reached false l bs ≡ reached true l (coding false l bs)
unfolding reached coding
same_end l [] = refl
same_end l (b ∷ bs) = same_end (level l b) bs

low_none : (x : ℕ) → low 0 x ≡ []
unfolding low
low_none x = refl

pub take-low : (n m x : ℕ) → n ≤ m → take n (low m x) ≡ low n x
unfolding low
take-low zero m x h = refl
take-low (suc n) zero x h = absurd (omega arith)
take-low (suc n) (suc m) x h = ap (λ (r : List Bool). odd x ∷ r) (take-low n m (x / 2) (omega arith))

low_mod : (n x : ℕ) → low n (x % 2 ^ n) ≡ low n x
low_mod n x =
    let e : low (n + 0) (x / 2 ^ n * 2 ^ n + x % 2 ^ n) ≡ low n (x % 2 ^ n) ++ low 0 (x / 2 ^ n) = low_join n (x % 2 ^ n) 0 (x / 2 ^ n) (mod-lt x (pow_pos n)) in
    sym (rw (add-zero n, div-add-mod' x (2 ^ n), low_none, append-nil) at e)

drop-low : (n m x : ℕ) → drop n (low (n + m) x) ≡ low m (x / 2 ^ n)
unfolding low
drop-low zero m x = rw (zero-add m, div-one x)
drop-low (suc n) m x =
    let half : x / 2 / 2 ^ n ≡ x / 2 ^ suc n = shr-shr x 1 n ∙ ap (λ (k : ℕ). x / 2 ^ k) (one-add n) in
    rw (suc-add n m) (drop-low n m (x / 2) ∙ ap (λ (k : ℕ). low m k) half)

pub end_of_levels : (l : Bool) (n x : ℕ) → 1 ≤ n → odd (x / 2 ^ (n - 1)) ≡ reached true l (low n x)
end_of_levels l zero x h = absurd (omega arith)
end_of_levels l (suc k) x h = let e : suc k - 1 ≡ k = omega arith in rw e (sym (level-after l k x))

-- the first n bits of a coded byte
part-coded : (back l : Bool) (x n : ℕ) → n ≤ 8 → low n (val (coding back l (low 8 x))) ≡ coding back l (low n x)
part-coded back l x n g =
    let y = val (coding back l (low 8 x)) in
    let eight : length (coding back l (low 8 x)) ≡ 8 = length-coding back l (low 8 x) ∙ length-low 8 x in
    let again : low 8 y ≡ coding back l (low 8 x) = subst (λ (k : ℕ). low k y ≡ coding back l (low 8 x)) eight (low-val (coding back l (low 8 x))) in
    sym (take-low n 8 y g) ∙ ap (λ (r : List Bool). take n r) again ∙ coding-take back l n (low 8 x) ∙ ap (λ (r : List Bool). coding back l r) (take-low n 8 x g)

pub end_of_bits : (l : Bool) (n x : ℕ) → 1 ≤ n → n ≤ 8 → odd (val (coding false l (low 8 x)) / 2 ^ (n - 1)) ≡ reached false l (low n x)
end_of_bits l n x h g =
    end_of_levels l n (val (coding false l (low 8 x))) h ∙ ap (λ (r : List Bool). reached true l r) (part-coded false l x n g) ∙ sym (same_end l (low n x))

-- the level after n bits, in the byte that comes out
pub levels_end : (l : Bool) (x : ℕ) → x < 256 → (n : ℕ) → 1 ≤ n → n ≤ 8 → odd (levels_byte l x / 2 ^ (n - 1)) ≡ reached false l (low n x)
levels_end l x f n h g = ap (λ (y : ℕ). odd (y / 2 ^ (n - 1))) (levels_byte_lem l x f) ∙ end_of_bits l n x h g

-- the n low bits of one byte and the others of another
module _ (fresh old n : ℕ) (h : n < 8) where
  pub power : 1 * 2 ^ n % 256 ≡ 2 ^ n
  power = shl_exact {a = 1} 1 n 8 (omega arith) (omega arith) ∙ one-mul (2 ^ n)

  fresh_small : fresh % 2 ^ n < 2 ^ n
  fresh_small = mod-lt fresh (pow_pos n)

  -- the others alone: nothing is shifted out
  pub kept : old < 256 → old / 2 ^ n * 2 ^ n % 256 ≡ old / 2 ^ n * 2 ^ n
  kept o =
      let e : 8 - n + n ≡ 8 = omega arith in
      let top : old / 2 ^ n < 2 ^ (8 - n) = shr_lt (8 - n) n (rw e o) in
      shl_exact {a = old / 2 ^ n} (8 - n) n 8 top (omega arith)

  pub blend_fits : old < 256 → old / 2 ^ n * 2 ^ n + fresh % 2 ^ n < 256
  blend_fits o =
      let e : 8 - n + n ≡ 8 = omega arith in
      let top : old / 2 ^ n < 2 ^ (8 - n) = shr_lt (8 - n) n (rw e o) in
      let all : 2 ^ (8 - n) * 2 ^ n ≡ 256 = sym (pow-add 2 (8 - n) n) ∙ ap (λ (k : ℕ). 2 ^ k) e in
      let room : (old / 2 ^ n + 1) * 2 ^ n ≤ 256 = rw all at (mul-le-mul_right (2 ^ n) (add-one-le top)) in
      omega (arith, fresh_small)

  pub blend_bits : low 8 (old / 2 ^ n * 2 ^ n + fresh % 2 ^ n) ≡ low n fresh ++ drop n (low 8 old)
  blend_bits =
      let e : n + (8 - n) ≡ 8 = omega arith in
      subst (λ (k : ℕ). low k (old / 2 ^ n * 2 ^ n + fresh % 2 ^ n) ≡ low n fresh ++ drop n (low k old)) e
      (low_join n (fresh % 2 ^ n) (8 - n) (old / 2 ^ n) fresh_small ∙ ap₂ (λ (x y : List Bool). x ++ y) (low_mod n fresh) (sym (drop-low n (8 - n) old)))

-- a byte coded and blended: its first n bits, and the others of the old byte
pub blended : (back l : Bool) (x old n : ℕ) → n < 8 → old < 256
    → old / 2 ^ n * 2 ^ n + val (coding back l (low 8 x)) % 2 ^ n ≡ val (coding back l (low n x) ++ drop n (low 8 old))
blended back l x old n h o =
    let y = val (coding back l (low 8 x)) in
    sym (val-low 8 (old / 2 ^ n * 2 ^ n + y % 2 ^ n) (blend_fits y old n h o))
    ∙ ap val (blend_bits y old n h ∙ ap (λ (r : List Bool). r ++ drop n (low 8 old)) (part-coded back l x n (omega arith)))

-- one byte more of the input
module _ (input : List ℕ) (i : ℕ) (h : i < length input) where
  bits_more : bits_of (take (i + 1) input) ≡ bits_of (take i input) ++ low 8 (get_or input i 0)
  unfolding bits_of
  bits_more =
      rw (add-one i, take-suc input i 0 h)
      (bits_of_append (take i input) (get_or input i 0 ∷ []) ∙ ap (λ (r : List Bool). bits_of (take i input) ++ r) (append-nil (low 8 (get_or input i 0))))

  pub reached_more : (back l : Bool) → reached back (reached back l (bits_of (take i input))) (low 8 (get_or input i 0)) ≡ reached back l (bits_of (take (i + 1) input))
  reached_more back l = sym (ap (λ (r : List Bool). reached back l r) bits_more ∙ reached-append back l (bits_of (take i input)) (low 8 (get_or input i 0)))

  pub coding_more : (back l : Bool) (out : List ℕ) → i < length out
      → set (bytes_of i (coding back l (bits_of (take i input))) ++ drop i out) i (val (coding back (reached back l (bits_of (take i input))) (low 8 (get_or input i 0))))
      ≡ bytes_of (i + 1) (coding back l (bits_of (take (i + 1) input))) ++ drop (i + 1) out
  coding_more back l out g =
      let done = bits_of (take i input) in
      let c = coding back l done in
      let d = coding back (reached back l done) (low 8 (get_or input i 0)) in
      let long : length c ≡ 8 * i = length-coding back l done ∙ length_bits_of (take i input) ∙ ap (λ (n : ℕ). 8 * n) (length-take-le i input (omega arith)) in
      let eight : length d ≡ 8 = length-coding back (reached back l done) (low 8 (get_or input i 0)) ∙ length-low 8 (get_or input i 0) in
      let all : coding back l (bits_of (take (i + 1) input)) ≡ c ++ d = ap (λ (r : List Bool). coding back l r) bits_more ∙ coding-append back l done (low 8 (get_or input i 0)) in
      let bytes : bytes_of (i + 1) (coding back l (bits_of (take (i + 1) input))) ≡ bytes_of i c ++ (val d ∷ []) =
      ap (λ (r : List Bool). bytes_of (i + 1) r) all ∙ bytes_of_append i 1 c d long ∙ ap (λ (r : List ℕ). bytes_of i c ++ r) (bytes_of_one d eight) in
      ap (λ (r : List ℕ). set (bytes_of i c ++ r) i (val d)) (drop-cons out i 0 g)
      ∙ set_at (bytes_of i c) (get_or out i 0) (drop (suc i) out) (val d) i (length_bytes_of i c)
      ∙ sym (append_assoc (bytes_of i c) (val d ∷ []) (drop (suc i) out))
      ∙ ap₂ (λ (r : List ℕ) (n : ℕ). r ++ drop n out) (sym bytes) (sym (add-one i))
