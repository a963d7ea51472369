-- What two flags enclose: a content without six ones is found behind leading bits that have no flag, and a content that is found has no six ones.
-- Assumes nothing.
use Prim.Native.Nat.{ℕ, zero, suc, ◌+◌, ◌-◌, ◌<◌, ◌≤◌}
use mathlib.Core.Path.{◌≡◌, ◌∙◌, refl, sym, ap, ap₂}
use mathlib.Core.Bool.{Bool, true, false, true≢false}
use mathlib.Core.List.{List, [], ◌∷◌, ◌++◌, append_assoc}
use native.Mathlib.Decide.{dec_lt}
use native.Mathlib.Omega.{arith}
use lib.ListN.{length, get_or, take, drop, replicate, length-append, take-append-drop, length-take, length-drop}
use lib.Seq.{take-suc, take-take, drop-cons, drop-drop, drop-append-le, take-append-le, take-append_seam, drop-append_seam, get_or-drop}
use Rattle.bits.specs.Insertion.{Never}
use Rattle.bits.specs.Flag.{flag}
use Rattle.reader.specs.Flags.{between, Heard, content, heard}
use Rattle.reader.specs.Places.{Flag, Neighbours, Counts, Found, one, none}
use Rattle.reader.proofs.Placing.{found-heard, found_once}
use Rattle.reader.proofs.Windows.{take-drop-take, part-run, bit_of, flag_within, flag_not_one, flag_last_not_one}
use Rattle.reader.proofs.Seeking.{part-seven}

-- ---- flags

flag-ones : (j : ℕ) → 0 < j → j < 7 → get_or flag j true ≡ true
flag-ones zero h g = absurd (omega arith)
flag-ones (suc zero) h g = refl
flag-ones (suc (suc zero)) h g = refl
flag-ones (suc (suc (suc zero))) h g = refl
flag-ones (suc (suc (suc (suc zero)))) h g = refl
flag-ones (suc (suc (suc (suc (suc zero))))) h g = refl
flag-ones (suc (suc (suc (suc (suc (suc zero)))))) h g = refl
flag-ones (suc (suc (suc (suc (suc (suc (suc j))))))) h g = absurd (omega arith)

-- two flags share a zero at most
flags_apart : (l : List Bool) (p k : ℕ) → Flag l p → Flag l k → p < k → p + 7 ≤ k
flags_apart l p k f g h = go (dec_lt k (p + 7))
  where
    go : Dec (k < p + 7) → p + 7 ≤ k
    go (no n) = omega arith
    go (yes n) =
        let at : p + (k - p) ≡ k = omega arith in
        let first : k ≡ k + 0 = omega arith in
        absurd
        (true≢false
        (sym (bit_of 8 p l flag f (k - p) (omega arith) ∙ flag-ones (k - p) (omega arith) (omega arith))
        ∙ ap (λ (n : ℕ). get_or l n true) (at ∙ first)
        ∙ bit_of 8 k l flag g 0 (omega arith)))

-- a flag's six ones
flag_six : (l : List Bool) (k : ℕ) → Flag l k → take 6 (drop (k + 1) l) ≡ replicate 6 true
flag_six l k f =
    ap (λ (x : List Bool). take 6 x) (sym (drop-drop 1 k l))
    ∙ sym (take-drop-take 6 1 8 (drop k l) (omega arith))
    ∙ ap (λ (x : List Bool). take 6 (drop 1 x)) f

-- ones that never stand in a row stand at no place
never_at : (n a : ℕ) (c : List Bool) → Never n c → take n (drop a c) ≡ replicate n true → ⊥
never_at n a c h e =
    h (take a c) (drop n (drop a c)) (sym (take-append-drop a c) ∙ ap (λ (x : List Bool). take a c ++ x) (sym (take-append-drop n (drop a c)) ∙ ap (λ (x : List Bool). x ++ drop n (drop a c)) e))

-- ---- what is enclosed is found

module _ (lead c rest : List Bool) (free : (p : ℕ) → Flag lead p → ⊥) (some : c ≡ [] → ⊥) (quiet : Never 6 c) where
  abbrev all : List Bool
  all = lead ++ ((flag ++ (c ++ flag)) ++ rest)

  abbrev p : ℕ
  p = length lead

  abbrev q : ℕ
  q = p + 8 + length c

  after_lead : drop p all ≡ (flag ++ (c ++ flag)) ++ rest
  after_lead = drop-append_seam lead ((flag ++ (c ++ flag)) ++ rest)

  after-flag : drop (p + 8) all ≡ (c ++ flag) ++ rest
  after-flag = sym (drop-drop 8 p all) ∙ ap (λ (x : List Bool). drop 8 x) after_lead

  after_content : drop q all ≡ flag ++ rest
  after_content =
      sym (drop-drop (length c) (p + 8) all)
      ∙ ap (λ (x : List Bool). drop (length c) x) (after-flag ∙ append_assoc c flag rest)
      ∙ drop-append_seam c (flag ++ rest)

  opens : Flag all p
  opens = ap (λ (x : List Bool). take 8 x) after_lead

  closes : Flag all q
  closes = ap (λ (x : List Bool). take 8 x) after_content

  enclosed : between all p q ≡ c
  enclosed =
      let size : q - (p + 8) ≡ length c = omega arith in
      ap (λ (n : ℕ). take n (drop (p + 8) all)) size
      ∙ ap (λ (x : List Bool). take (length c) x) (after-flag ∙ append_assoc c flag rest)
      ∙ take-append_seam c (flag ++ rest)

  -- a flag between the two would have its six ones in the content
  alone : (k : ℕ) → p < k → k < q → Flag all k → ⊥
  alone k h g f =
      let near = flags_apart all p k opens f h in
      let far = flags_apart all k q f closes g in
      never_at 6 (k + 1 - (p + 8)) c quiet
      (ap (λ (x : List Bool). take 6 (drop (k + 1 - (p + 8)) x)) (sym enclosed) ∙ part-run 6 (p + 8) q (k + 1) all (omega arith) (omega arith) ∙ flag_six all k f)

  counts : Counts (between all p q)
  counts =
      record {
        some = λ e. some (sym enclosed ∙ e);
        short = λ s.
            never_at 6 s.0 c quiet
            (sym (take-take 6 7 (drop s.0 c) (omega arith)) ∙ ap (λ (x : List Bool). take 6 (take 7 (drop s.0 x))) (sym enclosed) ∙ ap (λ (x : List Bool). take 6 x) s.1);
      }

  -- a flag that begins in the leading bits ends in the first zero of the line
  earlier : (j k : ℕ) → j < p → Neighbours all j k → Counts (between all j k) → ⊥
  earlier j k h n m = go (dec_lt p (j + 8))
    where
      go : Dec (p < j + 8) → ⊥
      go (no g) =
          free j
          (sym (take-append-le 8 (drop j lead) ((flag ++ (c ++ flag)) ++ rest) (omega (arith, length-drop j lead)))
          ∙ ap (λ (x : List Bool). take 8 x) (sym (drop-append-le j lead ((flag ++ (c ++ flag)) ++ rest) (omega arith)))
          ∙ n.earlier)
      go (yes g) = soon (dec_lt p k)
        where
          soon : Dec (p < k) → ⊥
          soon (yes o) = n.alone p h o opens
          soon (no o) =
              let near = flags_apart all j p n.earlier opens h in
              let none : k - (j + 8) ≡ 0 = omega arith in
              m.some (ap (λ (x : ℕ). take x (drop (j + 8) all)) none)

  pub enclosed_heard : heard all ≡ content (length lead + 8) c
  enclosed_heard =
      found_once all (found-heard all) (one p q (record { earlier = opens; later = closes; order = omega arith; alone = alone }) counts earlier)
      ∙ ap (λ (x : List Bool). content (p + 8) x) enclosed

-- ---- what is found has no six ones

record Enclosed (l c : List Bool) : Type 0 where
  pub before : ℕ
  pub behind : ℕ
  pub neighbours : Neighbours l before behind
  pub counts : Counts (between l before behind)
  pub bits : c ≡ between l before behind

found_enclosed : (l : List Bool) (h : Heard) (s : ℕ) (c : List Bool) → Found l h → h ≡ content s c → Enclosed l c
found_enclosed l h s c (one p q n m b) e =
    record { before = p; behind = q; neighbours = n; counts = m; bits = cc }
found_enclosed l h s c (none f) e = absurd (let z : ◌≡◌ {A = ℕ} 0 1 = cc in omega arith)

module _ (l : List Bool) (p q : ℕ) (n : Neighbours l p q) (m : Counts (between l p q)) where
  -- seven ones in a row within the reach of the two flags
  no_seven : (k : ℕ) → p + 7 ≤ k → k + 6 ≤ q → take 7 (drop k l) ≡ replicate 7 true → ⊥
  no_seven k h g s = go (dec_lt k (p + 8)) (dec_lt q (k + 7))
    where
      go : Dec (k < p + 8) → Dec (q < k + 7) → ⊥
      go (yes a) b = flag_last_not_one l p k n.earlier s 0 (omega arith) (omega arith)
      go (no a) (yes b) = flag_not_one l q k n.later s 6 (omega arith) (omega arith)
      go (no a) (no b) = m.short (part-seven l (p + 8) q k (omega arith) (omega arith) s)

  -- six ones from place k on, with a bit before and one behind them, are a flag or part of seven ones
  no_six : (k : ℕ) → p + 8 ≤ k → k + 6 ≤ q → take 6 (drop k l) ≡ replicate 6 true → ⊥
  no_six k h g s = go (get_or l (k - 1) true) (get_or l (k + 6) true) refl refl
    where
      inside : q + 8 ≤ length l
      inside = flag_within l q n.later

      before : drop (k - 1) l ≡ get_or l (k - 1) true ∷ drop k l
      before = let o : suc (k - 1) ≡ k = omega arith in drop-cons l (k - 1) true (omega (arith, inside)) ∙ ap (λ (x : ℕ). get_or l (k - 1) true ∷ drop x l) o

      behind : take 7 (drop k l) ≡ replicate 6 true ++ (get_or l (k + 6) true ∷ [])
      behind = take-suc (drop k l) 6 true (omega (arith, inside, length-drop k l)) ∙ ap₂ (λ (x : List Bool) (b : Bool). x ++ (b ∷ [])) s (get_or-drop k l 6 true)

      go : (b d : Bool) → get_or l (k - 1) true ≡ b → get_or l (k + 6) true ≡ d → ⊥
      go true d e f =
          no_seven (k - 1) (omega arith) (omega arith)
          (ap (λ (x : List Bool). take 7 x) before ∙ ap₂ (λ (x : Bool) (y : List Bool). x ∷ y) e s)
      go false true e f = no_seven k (omega arith) g (behind ∙ ap (λ (x : Bool). replicate 6 true ++ (x ∷ [])) f)
      go false false e f =
          n.alone (k - 1) (omega arith) (omega arith)
          (ap (λ (x : List Bool). take 8 x) before ∙ ap₂ (λ (x : Bool) (y : List Bool). x ∷ y) e (behind ∙ ap (λ (x : Bool). replicate 6 true ++ (x ∷ [])) f))

  between_quiet : Never 6 (between l p q)
  between_quiet x y e =
      let at : drop (length x) (between l p q) ≡ replicate 6 true ++ y = ap (λ (b : List Bool). drop (length x) b) e ∙ drop-append_seam x (replicate 6 true ++ y) in
      let long : length (between l p q) ≡ length x + (6 + length y) = omega (arith, ap length e, length-append x (replicate 6 true ++ y)) in
      let fits : length x + 6 ≤ q - (p + 8) = omega (arith, length-take (q - (p + 8)) (drop (p + 8) l)) in
      let a : p + 8 + length x - (p + 8) ≡ length x = omega arith in
      no_six (p + 8 + length x) (omega arith) (omega arith)
      (sym (part-run 6 (p + 8) q (p + 8 + length x) l (omega arith) (omega arith)) ∙ ap (λ (k : ℕ). take 6 (drop k (between l p q))) a ∙ ap (λ (b : List Bool). take 6 b) at)

pub heard_quiet : (l : List Bool) (s : ℕ) (c : List Bool) → heard l ≡ content s c → Never 6 c
heard_quiet l s c e =
    let f = found_enclosed l (heard l) s c (found-heard l) e in
    λ x y g. between_quiet l f.before f.behind f.neighbours f.counts x y (sym f.bits ∙ g)
