-- Bits seen through a window of eight: what the last eight bits, as a byte, tell of flags and of seven ones.
-- Assumes nothing.
use Prim.Native.Nat.{ℕ, suc, ◌+◌, ◌-◌, ◌*◌, ◌/◌, ◌^◌, ◌<◌, ◌≤◌}
use mathlib.Core.Path.{◌≡◌, ◌∙◌, refl, sym, ap}
use mathlib.Core.Bool.{Bool, true, false, true≢false}
use mathlib.Core.List.{List, [], ◌∷◌, ◌++◌}
use native.Mathlib.Numerals.{add-one}
use native.Mathlib.Decide.{dec_lt}
use native.Mathlib.Omega.{arith}
use lib.ListN.{length, get_or, take, drop, replicate, length-append, length-take, length-drop, get_or-replicate, get_or-append}
use lib.Seq.{drop-drop, drop-cons, take-suc, take-take, get_or-take, get_or-drop, drop-append-add, drop-append-le, take-append-le, get_or-append-add}
use Rattle.std.proofs.lemmas.List.{drop-take}
use Rattle.bits.specs.Bits.{num, odd, low, val}
use Rattle.bits.specs.Flag.{flag}
use Rattle.bits.proofs.BitLaws.{low_join, val-low, num_small, flag_bits}
use Rattle.reader.specs.Flags.{part}
use Rattle.reader.specs.Places.{Flag}
use Rattle.reader.proofs.Placing.{same_tail}

-- ---- places

-- a part of the first bits is a part of the bits
pub take-drop-take : (n a m : ℕ) (l : List Bool) → a + n ≤ m → take n (drop a (take m l)) ≡ take n (drop a l)
take-drop-take n a m l h =
    let whole : a + (m - a) ≡ m = omega arith in
    ap (λ (k : ℕ). take n (drop a (take k l))) (sym whole) ∙ ap (λ (x : List Bool). take n x) (drop-take a (m - a) l) ∙ take-take n (m - a) (drop a l) (omega arith)

pub part_within : (s e n : ℕ) (l : List Bool) → s ≤ e → e ≤ n → part s e (take n l) ≡ part s e l
part_within s e n l h g = take-drop-take (e - s) s n l (omega arith)

-- n bits of a part stand where they stood
pub part-run : (n s e k : ℕ) (l : List Bool) → s ≤ k → k + n ≤ e → take n (drop (k - s) (part s e l)) ≡ take n (drop k l)
part-run n s e k l h g =
    let at : s + (k - s) ≡ k = omega arith in
    take-drop-take n (k - s) (e - s) (drop s l) (omega arith) ∙ ap (λ (x : List Bool). take n x) (drop-drop (k - s) s l ∙ ap (λ (m : ℕ). drop m l) at)

-- n bits stand from place k on: they are there
pub run_within : (n k : ℕ) (l x : List Bool) → take n (drop k l) ≡ x → length x ≡ n → 0 < n → k + n ≤ length l
run_within n k l x e h p = omega (arith, ap length e, length-take n (drop k l), length-drop k l)

-- what stands at a place of bits that are known
pub bit_of : (n k : ℕ) (l x : List Bool) → take n (drop k l) ≡ x → (j : ℕ) → j < n → get_or l (k + j) true ≡ get_or x j true
bit_of n k l x e j h = sym (get_or-drop k l j true) ∙ sym (get_or-take n (drop k l) j true h) ∙ ap (λ (y : List Bool). get_or y j true) e

pub flag_within : (l : List Bool) (p : ℕ) → Flag l p → p + 8 ≤ length l
flag_within l p f = run_within 8 p l _ f refl (omega arith)

-- a flag's zeros cannot stand among ones
pub flag_not_one : (l : List Bool) (p k : ℕ) → Flag l p → take 7 (drop k l) ≡ replicate 7 true → (j : ℕ) → j < 7 → p ≡ k + j → ⊥
flag_not_one l p k f s j h e =
    true≢false (sym (bit_of 7 k l _ s j h ∙ get_or-replicate 7 j true true h) ∙ ap (λ (n : ℕ). get_or l n true) (sym e) ∙ zero-first)
  where
    zero-first : get_or l p true ≡ false
    zero-first = let o : p ≡ p + 0 = omega arith in ap (λ (n : ℕ). get_or l n true) o ∙ bit_of 8 p l _ f 0 (omega arith)

pub flag_last_not_one : (l : List Bool) (p k : ℕ) → Flag l p → take 7 (drop k l) ≡ replicate 7 true → (j : ℕ) → j < 7 → p + 7 ≡ k + j → ⊥
flag_last_not_one l p k f s j h e =
    true≢false (sym (bit_of 7 k l _ s j h ∙ get_or-replicate 7 j true true h) ∙ ap (λ (n : ℕ). get_or l n true) (sym e) ∙ bit_of 8 p l _ f 7 (omega arith))

-- ---- the window: the last eight of the bits before place i, ones before the first of them

abbrev led : List Bool → List Bool
led l = replicate 8 true ++ l

abbrev pub seen : List Bool → ℕ → List Bool
seen l i = take 8 (drop i (led l))

pub seen_first : (l : List Bool) → low 8 255 ≡ seen l 0
unfolding low
seen_first l = refl

pub seen_at : (l : List Bool) (i k : ℕ) → k + 8 ≡ i → seen l i ≡ take 8 (drop k l)
seen_at l i k e = let o : i ≡ 8 + k = omega arith in ap (λ (n : ℕ). seen l n) o ∙ ap (λ (x : List Bool). take 8 x) (drop-append-add (replicate 8 true) l k)

-- later bits are not seen yet
pub seen_more : (l m : List Bool) (i : ℕ) → i ≤ length l → seen (l ++ m) i ≡ seen l i
seen_more l m i h =
    ap (λ (x : List Bool). take 8 x) (drop-append-le i (led l) m (omega (arith, length-append (replicate 8 true) l)))
    ∙ take-append-le 8 (drop i (led l)) m (omega (arith, length-drop i (led l), length-append (replicate 8 true) l))

-- the window after one bit more
pub shifted_in : (w b : ℕ) → w < 256 → b < 2 → low 8 (w / 2 + 128 * b) ≡ low 7 (w / 2) ++ low 1 b
shifted_in w b h k = let e : w / 2 + 128 * b ≡ b * 2 ^ 7 + w / 2 = omega arith in ap (λ (n : ℕ). low 8 n) e ∙ low_join 7 (w / 2) 1 b (omega arith)

low_one : (b : Bool) → low 1 (num b) ≡ b ∷ []
unfolding low
low_one true = refl
low_one false = refl

-- eight bits are one and seven
pub low_eight : (w : ℕ) → low 8 w ≡ odd w ∷ low 7 (w / 2)
unfolding low
low_eight w = refl

pub seen_next : (l : List Bool) (i w : ℕ) → i < length l → w < 256 → low 8 w ≡ seen l i → low 8 (w / 2 + 128 * num (get_or l i true)) ≡ seen l (i + 1)
seen_next l i w h s e =
    shifted_in w (num (get_or l i true)) s (omega (arith, num_small (get_or l i true)))
    ∙ ap (λ (x : List Bool). low 7 (w / 2) ++ x) (low_one (get_or l i true))
    ∙ ap (λ (x : List Bool). x ++ (get_or l i true ∷ [])) tail
    ∙ sym (take-suc (drop (suc i) (led l)) 7 true longer ∙ ap (λ (b : Bool). take 7 (drop (suc i) (led l)) ++ (b ∷ [])) last)
    ∙ ap (λ (n : ℕ). take 8 (drop n (led l))) (sym (add-one i))
  where
    long : length (led l) ≡ 8 + length l
    long = length-append (replicate 8 true) l

    tail : low 7 (w / 2) ≡ take 7 (drop (suc i) (led l))
    tail = same_tail (sym (low_eight w) ∙ e ∙ ap (λ (x : List Bool). take 8 x) (drop-cons (led l) i true (omega arith)))

    longer : 7 < length (drop (suc i) (led l))
    longer = omega (arith, length-drop (suc i) (led l))

    last : get_or (drop (suc i) (led l)) 7 true ≡ get_or l i true
    last = let o : suc i + 7 ≡ 8 + i = omega arith in get_or-drop (suc i) (led l) 7 true ∙ ap (λ (n : ℕ). get_or (led l) n true) o ∙ get_or-append-add (replicate 8 true) l i true

-- ---- what the window tells

-- the seven bits before place i
seen_tail : (l : List Bool) (i k w : ℕ) → low 8 w ≡ seen l i → k + 7 ≡ i → 8 ≤ i → low 7 (w / 2) ≡ take 7 (drop k l)
seen_tail l i k w e o h = go (drop (k - 1) l) refl
  where
    all : low 8 w ≡ take 8 (drop (k - 1) l)
    all = e ∙ seen_at l i (k - 1) (omega arith)

    next : drop 1 (drop (k - 1) l) ≡ drop k l
    next = let s : k - 1 + 1 ≡ k = omega arith in drop-drop 1 (k - 1) l ∙ ap (λ (n : ℕ). drop n l) s

    go : (x : List Bool) → drop (k - 1) l ≡ x → low 7 (w / 2) ≡ take 7 (drop k l)
    go [] q = absurd (let z : ◌≡◌ {A = ℕ} 0 1 = nothing q in omega arith)
      where
        nothing : drop (k - 1) l ≡ [] → ◌≡◌ {A = ℕ} 0 1
        nothing q = let f = sym (low_eight w) ∙ all ∙ ap (λ (x : List Bool). take 8 x) q in cc
    go (b ∷ bs) q =
        same_tail (sym (low_eight w) ∙ all ∙ ap (λ (x : List Bool). take 8 x) q)
        ∙ ap (λ (x : List Bool). take 7 (drop 1 x)) (sym q)
        ∙ ap (λ (x : List Bool). take 7 x) next

low_ones : low 7 127 ≡ replicate 7 true
unfolding low
low_ones = refl

-- the same bits are the same number
low_once : (n x y : ℕ) → x < 2 ^ n → y < 2 ^ n → low n x ≡ low n y → x ≡ y
low_once n x y p q e = sym (val-low n x p) ∙ ap val e ∙ val-low n y q

-- a flag ends at place i exactly where the window is 7E hex
pub window_flag : (l : List Bool) (i w : ℕ) → low 8 w ≡ seen l i → w ≡ 126 → (k : ℕ) × (k + 8 ≡ i) × Flag l k
window_flag l i w e q = go (dec_lt i 8)
  where
    is : flag ≡ seen l i
    is = sym flag_bits ∙ ap (λ (n : ℕ). low 8 n) (sym q) ∙ e

    go : Dec (i < 8) → (k : ℕ) × (k + 8 ≡ i) × Flag l k
    go (yes h) =
        absurd
        (true≢false
        (sym (get_or-replicate 8 i true true h)
        ∙ sym (get_or-append (replicate 8 true) l true i h)
        ∙ ap (λ (n : ℕ). get_or (led l) n true) o
        ∙ bit_of 8 i (led l) flag (sym is) 0 (omega arith)))
      where
        o : i ≡ i + 0
        o = omega arith
    go (no h) = (i - 8, omega arith, sym (is ∙ seen_at l i (i - 8) (omega arith)))

pub flag_window : (l : List Bool) (i w : ℕ) → w < 256 → low 8 w ≡ seen l i → (k : ℕ) → k + 8 ≡ i → Flag l k → w ≡ 126
flag_window l i w h e k o f = low_once 8 w 126 h (omega arith) (e ∙ seen_at l i k o ∙ f ∙ sym flag_bits)

-- seven ones end at place i exactly where the window is at least FE hex
pub window_seven : (l : List Bool) (i w : ℕ) → w < 256 → low 8 w ≡ seen l i → 254 ≤ w → (k : ℕ) → k + 7 ≡ i → 8 ≤ i → take 7 (drop k l) ≡ replicate 7 true
window_seven l i w h e b k o g =
    let half : w / 2 ≡ 127 = omega arith in
    sym (seen_tail l i k w e o g) ∙ ap (λ (n : ℕ). low 7 n) half ∙ low_ones

pub seven_window : (l : List Bool) (i w : ℕ) → w < 256 → low 8 w ≡ seen l i → (k : ℕ) → k + 7 ≡ i → 8 ≤ i → take 7 (drop k l) ≡ replicate 7 true → 254 ≤ w
seven_window l i w h e k o g s =
    let half : w / 2 ≡ 127 = low_once 7 (w / 2) 127 (omega arith) (omega arith) (seen_tail l i k w e o g ∙ s ∙ sym low_ones) in
    omega arith
