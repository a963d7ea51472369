-- Coded bits laid over a lent output: whole bytes, and a last byte in part.
-- Assumes nothing.
use Prim.Native.Nat.{ℕ, suc, ◌+◌, ◌*◌, ◌≤◌, ◌<◌}
use mathlib.Core.Path.{◌≡◌, ◌∙◌, sym, ap, ap₂, subst}
use mathlib.Core.Bool.{Bool}
use mathlib.Core.List.{List, [], ◌∷◌, ◌++◌, append_assoc}
use native.Mathlib.Omega.{arith}
use native.Mathlib.Numerals.{add-one}
use lib.Dec.{ltb}
use lib.ListN.{length, take, drop, get_or, set, length-append, length-drop, take-append-drop}
use lib.Seq.{drop-cons, drop-drop, take-append-le, take-append-add, drop-append-le, get_or_at, set_at, length-take-le}
use borrow.Author.Tests.{ltb-false}
use Rattle.frame.specs.Bytes.{Bytes}
use Rattle.frame.specs.Pick.{pick}
use Rattle.frame.proofs.Laws.{pick_second, then_zero}
use Rattle.frame.proofs.Bytes.{bytes_drop}
use Rattle.bits.specs.Bits.{low, val, bits_of, bytes_of}
use Rattle.bits.specs.Packed.{bytes_for, over}
use Rattle.bits.specs.Count.{bit_count_refusal}
use Rattle.bits.proofs.BitLaws.{length-low, length_bits_of, bits_of_append, length_bytes_of, bytes_back, take_bits, drop_bits}
use Rattle.bits.proofs.Counting.{count_passed}
use Rattle.nrzi.specs.Nrzi.{coding, reached, nrzi_refusal}
use Rattle.nrzi.proofs.Levels.{take-low, bytes_of_append, bytes_of_one, length-coding, coding-append, reached-append}

-- the bits from a byte on: its own, and the later bytes'
from : (a : List ℕ) (w : ℕ) → w < length a → bits_of (drop w a) ≡ low 8 (get_or a w 0) ++ bits_of (drop (suc w) a)
unfolding bits_of
from a w h = ap bits_of (drop-cons a w 0 h)

pub take_part : (a : List ℕ) (w r : ℕ) → w < length a → r ≤ 8 → take (8 * w + r) (bits_of a) ≡ bits_of (take w a) ++ low r (get_or a w 0)
take_part a w r h g =
    let before = bits_of (take w a) in
    let long : length before ≡ 8 * w = length_bits_of (take w a) ∙ ap (λ (n : ℕ). 8 * n) (length-take-le w a (omega arith)) in
    let all : bits_of a ≡ before ++ (low 8 (get_or a w 0) ++ bits_of (drop (suc w) a)) =
    ap bits_of (sym (take-append-drop w a)) ∙ bits_of_append (take w a) (drop w a) ∙ ap (λ (l : List Bool). before ++ l) (from a w h) in
    let first : take r (low 8 (get_or a w 0) ++ bits_of (drop (suc w) a)) ≡ low r (get_or a w 0) =
    take-append-le r (low 8 (get_or a w 0)) (bits_of (drop (suc w) a)) (omega (arith, length-low 8 (get_or a w 0))) ∙ take-low r 8 (get_or a w 0) g in
    ap₂ (λ (n : ℕ) (l : List Bool). take (n + r) l) (sym long) all
    ∙ take-append-add before (low 8 (get_or a w 0) ++ bits_of (drop (suc w) a)) r
    ∙ ap (λ (l : List Bool). before ++ l) first

module _ (out : List ℕ) (bytes : Bytes out) where
  -- whole bytes of bits
  pub whole_laid : (c : List Bool) (w : ℕ) → length c ≡ 8 * w → w ≤ length out → bytes_of (length out) (over c (bits_of out)) ≡ bytes_of w c ++ drop w out
  unfolding over
  whole_laid c w h g =
      let rest : drop (length c) (bits_of out) ≡ bits_of (drop w out) = ap (λ (n : ℕ). drop n (bits_of out)) h ∙ drop_bits w out g in
      let size : w + length (drop w out) ≡ length out = omega (arith, length-drop w out) in
      subst (λ (n : ℕ). bytes_of n (c ++ drop (length c) (bits_of out)) ≡ bytes_of w c ++ drop w out) size
      (ap (λ (l : List Bool). bytes_of (w + length (drop w out)) (c ++ l)) rest
      ∙ bytes_of_append w (length (drop w out)) c (bits_of (drop w out)) h
      ∙ ap (λ (l : List ℕ). bytes_of w c ++ l) (bytes_back (drop w out) (bytes_drop w out bytes)))

  -- and r bits of one more, whose other bits stay
  pub part-laid : (c d : List Bool) (w r : ℕ) → length c ≡ 8 * w → length d ≡ r → r ≤ 8 → w < length out
      → bytes_of (length out) (over (c ++ d) (bits_of out)) ≡ bytes_of w c ++ (val (d ++ drop r (low 8 (get_or out w 0))) ∷ drop (suc w) out)
  unfolding over
  part-laid c d w r h k g e =
      let kept = drop r (low 8 (get_or out w 0)) in
      let later = bits_of (drop (suc w) out) in
      let stays : drop (length (c ++ d)) (bits_of out) ≡ kept ++ later =
      ap (λ (n : ℕ). drop n (bits_of out)) (length-append c d ∙ ap₂ (λ (n m : ℕ). n + m) h k)
      ∙ sym (drop-drop r (8 * w) (bits_of out))
      ∙ ap (λ (l : List Bool). drop r l) (drop_bits w out (omega arith) ∙ from out w e)
      ∙ drop-append-le r (low 8 (get_or out w 0)) later (omega (arith, length-low 8 (get_or out w 0))) in
      let eight : length (d ++ kept) ≡ 8 = omega (arith, length-append d kept, length-drop r (low 8 (get_or out w 0)), length-low 8 (get_or out w 0)) in
      let more : length (c ++ (d ++ kept)) ≡ 8 * (w + 1) = omega (arith, length-append c (d ++ kept)) in
      let regroup : (c ++ d) ++ (kept ++ later) ≡ (c ++ (d ++ kept)) ++ later = simp append_assoc in
      let rest : later ≡ drop (length (c ++ (d ++ kept))) (bits_of out) =
      ap (λ (n : ℕ). bits_of (drop n out)) (sym (add-one w)) ∙ sym (drop_bits (w + 1) out (omega arith)) ∙ ap (λ (n : ℕ). drop n (bits_of out)) (sym more) in
      ap (λ (l : List Bool). bytes_of (length out) ((c ++ d) ++ l)) stays
      ∙ ap (λ (l : List Bool). bytes_of (length out) l) (regroup ∙ ap (λ (l : List Bool). (c ++ (d ++ kept)) ++ l) rest)
      ∙ whole_laid (c ++ (d ++ kept)) (w + 1) more (omega arith)
      ∙ ap₂ (λ (l : List ℕ) (n : ℕ). l ++ drop n out) (bytes_of_append w 1 c (d ++ kept) h ∙ ap (λ (l : List ℕ). bytes_of w c ++ l) (bytes_of_one (d ++ kept) eight)) (add-one w)
      ∙ append_assoc (bytes_of w c) (val (d ++ kept) ∷ []) (drop (suc w) out)

-- the whole of what is coded: the level at the end, and the output
module _ (back l : Bool) (input out : List ℕ) (bits w : ℕ) (bytes : Bytes out) where
  pub record Laid (end : Bool) (last : List ℕ) : Type 0 where
    pub level : end ≡ reached back l (take bits (bits_of input))
    pub output : last ≡ bytes_of (length out) (over (coding back l (take bits (bits_of input))) (bits_of out))

  long : w ≤ length input → length (coding back l (bits_of (take w input))) ≡ 8 * w
  long g = length-coding back l (bits_of (take w input)) ∙ length_bits_of (take w input) ∙ ap (λ (n : ℕ). 8 * n) (length-take-le w input g)

  -- whole bytes
  pub laid_whole : bits ≡ 8 * w → w ≤ length input → w ≤ length out
      → Laid (reached back l (bits_of (take w input))) (bytes_of w (coding back l (bits_of (take w input))) ++ drop w out)
  laid_whole e g h =
      let same : bits_of (take w input) ≡ take bits (bits_of input) = sym (ap (λ (n : ℕ). take n (bits_of input)) e ∙ take_bits w input g) in
      record {
        level = ap (λ (b : List Bool). reached back l b) same;
        output =
            sym (whole_laid out bytes (coding back l (bits_of (take w input))) w (long g) h)
            ∙ ap (λ (b : List Bool). bytes_of (length out) (over (coding back l b) (bits_of out))) same;
      }

  -- and r bits of one more
  pub laid-part : (r : ℕ) → bits ≡ 8 * w + r → r ≤ 8 → w < length input → w < length out
      → (mid : List ℕ) → mid ≡ bytes_of w (coding back l (bits_of (take w input))) ++ drop w out
      → let start = reached back l (bits_of (take w input)) in
      Laid (reached back start (low r (get_or input w 0))) (set mid w (val (coding back start (low r (get_or input w 0)) ++ drop r (low 8 (get_or mid w 0)))))
  laid-part r e k g h mid m =
      let done = bits_of (take w input) in
      let x = get_or input w 0 in
      let c = coding back l done in
      let d = coding back (reached back l done) (low r x) in
      let all : take bits (bits_of input) ≡ done ++ low r x = ap (λ (n : ℕ). take n (bits_of input)) e ∙ take_part input w r g k in
      let front : mid ≡ bytes_of w c ++ (get_or out w 0 ∷ drop (suc w) out) = m ∙ ap (λ (t : List ℕ). bytes_of w c ++ t) (drop-cons out w 0 h) in
      let old : get_or mid w 0 ≡ get_or out w 0 =
      ap (λ (t : List ℕ). get_or t w 0) front ∙ get_or_at (bytes_of w c) (get_or out w 0) (drop (suc w) out) 0 w (length_bytes_of w c) in
      let size : length d ≡ r = length-coding back (reached back l done) (low r x) ∙ length-low r x in
      record {
        level = sym (ap (λ (b : List Bool). reached back l b) all ∙ reached-append back l done (low r x));
        output =
            ap₂ (λ (t : List ℕ) (n : ℕ). set t w (val (d ++ drop r (low 8 n)))) front old
            ∙ set_at (bytes_of w c) (get_or out w 0) (drop (suc w) out) (val (d ++ drop r (low 8 (get_or out w 0)))) w (length_bytes_of w c)
            ∙ sym (part-laid out bytes c d w r (long (omega arith)) size k h)
            ∙ ap (λ (b : List Bool). bytes_of (length out) (over b (bits_of out))) (sym (ap (λ (b : List Bool). coding back l b) all ∙ coding-append back l done (low r x)));
      }

-- what is not refused fits
pub taken : (bits size room : ℕ) → nrzi_refusal bits size room ≡ 0 → (bits ≤ 8192) × (bits ≤ 8 * size) × (bytes_for bits ≤ room)
unfolding nrzi_refusal
taken bits size room e =
    let both = then_zero (bit_count_refusal size bits) (pick (ltb room (bytes_for bits)) 11 0) e in
    let counted = count_passed size bits both.0 in
    let full = pick_second (ltb room (bytes_for bits)) 11 0 0 both.1 (λ z. omega arith) in
    (counted.0, counted.1, ltb-false room (bytes_for bits) full.0)
