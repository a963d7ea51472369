-- The removal of inserted zeros, bit by bit: what has been kept, and in which bytes it stands.
-- Assumes nothing.
use Prim.Native.Nat.{ℕ, zero, suc, ◌+◌, ◌-◌, ◌*◌, ◌/◌, ◌%◌, ◌<◌, ◌≤◌}
use mathlib.Core.Path.{◌≡◌, ◌∙◌, refl, sym, ap, ap₂}
use mathlib.Core.Bool.{Bool, true, false}
use mathlib.Core.List.{List, [], ◌∷◌, ◌++◌, append_assoc, append-nil}
use native.Mathlib.Decide.{dec_lt}
use native.Mathlib.Omega.{arith}
use borrow.Author.Tests.{eq-eqb, ne_eqb}
use lib.ListN.{length, get_or, set, take, drop, length-append, length-drop}
use lib.Seq.{take-suc, drop-drop, take-suc-set, take-set-le, take-append-le, drop-append-le, get_or-append_seam, get_or-drop}
use Rattle.frame.specs.Pick.{pick}
use Rattle.bits.specs.Bits.{num, low, val, bytes_of}
use Rattle.bits.specs.Insert.{kept, next, remove, ending}
use Rattle.bits.proofs.BitLaws.{num_small, val-low}
use Rattle.reader.specs.Extract.{run_after, Removed}
use Rattle.reader.specs.Flags.{part}
use Rattle.reader.proofs.Windows.{seen, seen_first, seen_next, seen_at, seen_more}

-- ---- removal in pieces

pub remove-append : (r : ℕ) (x y : List Bool) → remove r (x ++ y) ≡ remove r x ++ remove (ending r x) y
unfolding remove ending
remove-append r [] y = refl
remove-append r (b ∷ bs) y = ap (λ (l : List Bool). kept r b ++ l) (remove-append (next r b) bs y) ∙ sym (append_assoc (kept r b) _ _)

pub ending-append : (r : ℕ) (x y : List Bool) → ending r (x ++ y) ≡ ending (ending r x) y
unfolding ending
ending-append r [] y = refl
ending-append r (b ∷ bs) y = ending-append (next r b) bs y

remove_one : (r : ℕ) (b : Bool) → remove r (b ∷ []) ≡ kept r b
unfolding remove
remove_one r b = append-nil (kept r b)

ending_one : (r : ℕ) (b : Bool) → ending r (b ∷ []) ≡ next r b
unfolding ending
ending_one r b = refl

-- ---- bytes of bits that grow

bytes_of_snoc : (m : ℕ) (bs : List Bool) → bytes_of (suc m) bs ≡ bytes_of m bs ++ (val (take 8 (drop (8 * m) bs)) ∷ [])
unfolding bytes_of
bytes_of_snoc zero bs = refl
bytes_of_snoc (suc m) bs =
    let next : 8 + 8 * m ≡ 8 * suc m = omega arith in
    ap (λ (l : List ℕ). val (take 8 bs) ∷ l)
    (bytes_of_snoc m (drop 8 bs)
    ∙ ap (λ (l : List Bool). bytes_of m (drop 8 bs) ++ (val (take 8 l) ∷ [])) (drop-drop (8 * m) 8 bs ∙ ap (λ (k : ℕ). drop k bs) next))

bytes_of_more : (m : ℕ) (bs more : List Bool) → 8 * m ≤ length bs → bytes_of m (bs ++ more) ≡ bytes_of m bs
unfolding bytes_of
bytes_of_more zero bs more h = refl
bytes_of_more (suc m) bs more h =
    ap₂ (λ (x : ℕ) (l : List ℕ). x ∷ l) (ap val (take-append-le 8 bs more (omega arith)))
    (ap (bytes_of m) (drop-append-le 8 bs more (omega arith)) ∙ bytes_of_more m (drop 8 bs) more (omega (arith, length-drop 8 bs)))

-- ---- what is known when the bits x have been looked at

pub record Keep (x : List Bool) (bytes : List ℕ) (n w run : ℕ) : Type 0 where
  pub count : n ≡ length (remove 0 x)
  pub few : n ≤ length x
  pub window : low 8 w ≡ seen (remove 0 x) n
  pub byte : w < 256
  pub last : run ≡ ending 0 x
  pub small : run ≤ 5
  pub whole : take (n / 8) bytes ≡ bytes_of (n / 8) (remove 0 x)

pub keep_first : (bytes : List ℕ) → Keep [] bytes 0 255 0
unfolding remove ending bytes_of
keep_first bytes =
    record { count = refl; few = omega arith; window = seen_first []; byte = omega arith; last = refl; small = omega arith; whole = refl }

module _ (x : List Bool) (b : Bool) (bytes : List ℕ) (n w run : ℕ) (k : Keep x bytes n w run) where
  removes : remove 0 (x ++ (b ∷ [])) ≡ remove 0 x ++ kept run b
  removes = remove-append 0 x (b ∷ []) ∙ ap (λ (r : ℕ). remove 0 x ++ remove r (b ∷ [])) (sym k.last) ∙ ap (λ (l : List Bool). remove 0 x ++ l) (remove_one run b)

  ends : ending 0 (x ++ (b ∷ [])) ≡ next run b
  ends = ending-append 0 x (b ∷ []) ∙ ap (λ (r : ℕ). ending r (b ∷ [])) (sym k.last) ∙ ending_one run b

  longer : length (x ++ (b ∷ [])) ≡ length x + 1
  longer = length-append x (b ∷ [])

  -- the inserted zero is passed over
  pub keep_skip : run ≡ 5 → Keep (x ++ (b ∷ [])) bytes n w 0
  keep_skip five =
      let same : remove 0 (x ++ (b ∷ [])) ≡ remove 0 x = removes ∙ ap (λ (t : Bool). remove 0 x ++ pick t [] (b ∷ [])) (eq-eqb run 5 five) ∙ append-nil (remove 0 x) in
      record {
        count = k.count ∙ ap length (sym same);
        few = omega (arith, k.few, longer);
        window = k.window ∙ ap (λ (l : List Bool). seen l n) (sym same);
        byte = k.byte;
        last = sym (ends ∙ ap (λ (t : Bool). pick t 0 (pick b (run + 1) 0)) (eq-eqb run 5 five));
        small = omega arith;
        whole = k.whole ∙ ap (bytes_of (n / 8)) (sym same);
      }

  -- any other bit is kept
  module _ (w' : ℕ) (other : run ≡ 5 → ⊥) (comes : w' ≡ w / 2 + 128 * num b) (room : n / 8 < length bytes) where
    more : remove 0 (x ++ (b ∷ [])) ≡ remove 0 x ++ (b ∷ [])
    more = removes ∙ ap (λ (t : Bool). remove 0 x ++ pick t [] (b ∷ [])) (ne_eqb run 5 other)

    abbrev all : List Bool
    all = remove 0 x ++ (b ∷ [])

    long : length all ≡ n + 1
    long = length-append (remove 0 x) (b ∷ []) ∙ ap (λ (m : ℕ). m + 1) (sym k.count)

    -- the kept bits so far are seen as before
    before : low 8 w ≡ seen all n
    before = k.window ∙ sym (seen_more (remove 0 x) (b ∷ []) n (omega (arith, k.count)))

    bit : get_or all n true ≡ b
    bit = ap (λ (m : ℕ). get_or all m true) k.count ∙ get_or-append_seam (remove 0 x) b [] true

    window_next : low 8 w' ≡ seen all (n + 1)
    window_next =
        ap (λ (m : ℕ). low 8 m) (comes ∙ ap (λ (c : Bool). w / 2 + 128 * num c) (sym bit)) ∙ seen_next all n w (omega (arith, long)) k.byte before

    prefix : bytes_of (n / 8) (remove 0 x) ≡ bytes_of (n / 8) all
    prefix = sym (bytes_of_more (n / 8) (remove 0 x) (b ∷ []) (omega (arith, k.count)))

    whole_next : take ((n + 1) / 8) (set bytes (n / 8) w') ≡ bytes_of ((n + 1) / 8) all
    whole_next = go (dec_lt (n % 8) 7)
      where
        go : Dec (n % 8 < 7) → take ((n + 1) / 8) (set bytes (n / 8) w') ≡ bytes_of ((n + 1) / 8) all
        go (yes h) =
            let same : (n + 1) / 8 ≡ n / 8 = omega arith in
            rw same (take-set-le (n / 8) bytes (n / 8) w' (omega arith) ∙ k.whole ∙ prefix)
        go (no h) =
            let next-byte : (n + 1) / 8 ≡ suc (n / 8) = omega arith in
            let is_byte : w' ≡ val (take 8 (drop (8 * (n / 8)) all)) =
            sym (val-low 8 w' (omega (arith, k.byte, num_small b))) ∙ ap val (window_next ∙ seen_at all (n + 1) (8 * (n / 8)) (omega arith)) in
            rw next-byte
            (take-suc-set bytes (n / 8) w' room
            ∙ ap₂ (λ (l : List ℕ) (y : ℕ). l ++ (y ∷ [])) (k.whole ∙ prefix) is_byte
            ∙ sym (bytes_of_snoc (n / 8) all))

    run-next : (c : Bool) → run_after run (num c) ≡ pick c (run + 1) 0
    run-next true = refl
    run-next false = refl

    run_small : (c : Bool) → pick c (run + 1) 0 ≤ 5
    run_small true = omega (arith, k.small)
    run_small false = omega arith

    pub keep_bit : Keep (x ++ (b ∷ [])) (set bytes (n / 8) w') (n + 1) w' (run_after run (num b))
    keep_bit =
        record {
          count = sym (ap length more ∙ long);
          few = omega (arith, k.few, longer);
          window = window_next ∙ ap (λ (l : List Bool). seen l (n + 1)) (sym more);
          byte = omega (arith, k.byte, num_small b);
          last = run-next b ∙ sym (ends ∙ ap (λ (t : Bool). pick t 0 (pick b (run + 1) 0)) (ne_eqb run 5 other));
          small = rw (run-next b) (run_small b);
          whole = whole_next ∙ ap (bytes_of ((n + 1) / 8)) (sym more);
        }

-- all bits of a content have been looked at
pub keep_all : (c : List Bool) (bytes : List ℕ) (n w run : ℕ) → Keep c bytes n w run → Removed c bytes n run
keep_all c bytes n w run k = record { count = k.count; last = k.last; whole = k.whole }

-- ---- one bit more of a part

pub part-next : (s e i : ℕ) (l : List Bool) → s ≤ i → i < e → e ≤ length l → part s (i + 1) l ≡ part s i l ++ (get_or l i true ∷ [])
part-next s e i l h g o =
    let n : i + 1 - s ≡ suc (i - s) = omega arith in
    let at : s + (i - s) ≡ i = omega arith in
    ap (λ (k : ℕ). take k (drop s l)) n
    ∙ take-suc (drop s l) (i - s) true (omega (arith, length-drop s l))
    ∙ ap (λ (b : Bool). part s i l ++ (b ∷ [])) (get_or-drop s l (i - s) true ∙ ap (λ (k : ℕ). get_or l k true) at)
