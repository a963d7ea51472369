-- Every byte string of the size is refused by 30, or is an end, and then the bytes of that end.
-- Assumes nothing.
use Prim.Native.Nat.{ℕ, zero, suc, ◌+◌, ◌-◌, ◌*◌, ◌/◌, ◌%◌, ◌≤◌}
use mathlib.Core.Path.{◌≡◌, refl, sym, ap, ◌∙◌}
use mathlib.Core.Logic.{◌⊎◌, inl, inr}
use mathlib.Core.List.{List, [], ◌∷◌, ◌++◌}
use native.Mathlib.Numerals.{add-one}
use native.Mathlib.Omega.{arith}
use lib.Dec.{eqb, ltb}
use lib.ListN.{length, get_or, take, drop, take-append-drop, length-drop, drop_of_length-le}
use lib.Seq.{take_all, take_at, take-add, drop-drop, drop-cons}
use borrow.Author.Tests.{ltb-false}
use Rattle.frame.specs.Bytes.{Bytes}
use Rattle.frame.specs.Pick.{◌then◌}
use Rattle.frame.proofs.Laws.{pick_both, pick_second, then_zero}
use Rattle.layout.specs.Layout.{number_at, bytes_of, mark_byte, above, marks_wrong, side_at, side_head, side_bytes}
use Rattle.layout.specs.SlaveLayout.{slave_mode, slave_mode_byte, slave_at, slave_bytes, slave_wrong}
use Rattle.layout.specs.MasterLayout.{master_mode, master_mode_byte, master_at, master_tail, master_bytes, master_wrong}
use Rattle.layout.specs.Promises.{Every}

abbrev Two : ℕ → Type 0
Two n = (n ≡ 0) ⊎ (n ≡ 30)

above_two : (most : ℕ) (b : List ℕ) (at : ℕ) → Two (above most b at)
above_two most b at = pick_both Two (ltb most (get_or b at 0)) 30 0 (inr refl) (inl refl)

then_two : (a b : ℕ) → Two a → Two b → Two (a then b)
then_two a b p q = pick_both Two (eqb a 0) b a q p

marks_two : (b : List ℕ) → Two (marks_wrong b)
unfolding marks_wrong
marks_two b = then_two _ _ (above_two 1 b 4) (above_two 1 b 5)

pub slave_two : (b : List ℕ) → Two (slave_wrong b)
unfolding slave_wrong
slave_two b = then_two _ _ (above_two 1 b 0) (marks_two b)

pub master_two : (b : List ℕ) → Two (master_wrong b)
unfolding master_wrong
master_two b = then_two _ _ (above_two 2 b 0) (then_two _ _ (above_two 1 b 528) (then_two _ _ (above_two 1 b 529) (marks_two b)))

-- a byte that is not refused is at most the greatest value of its place
small : (most : ℕ) (b : List ℕ) (at : ℕ) → above most b at ≡ 0 → get_or b at 0 ≤ most
small most b at e = ltb-false most (get_or b at 0) (pick_second (ltb most (get_or b at 0)) 30 0 0 e (λ z. omega arith)).0

mark_same : (n : ℕ) → n ≤ 1 → mark_byte (eqb n 1) ≡ n
mark_same zero h = refl
mark_same (suc zero) h = refl
mark_same (suc (suc n)) h = absurd (omega arith)

slave_mode_same : (n : ℕ) → n ≤ 1 → slave_mode_byte (slave_mode n) ≡ n
slave_mode_same zero h = refl
slave_mode_same (suc zero) h = refl
slave_mode_same (suc (suc n)) h = absurd (omega arith)

master_mode_same : (n : ℕ) → n ≤ 2 → master_mode_byte (master_mode n) ≡ n
master_mode_same zero h = refl
master_mode_same (suc zero) h = refl
master_mode_same (suc (suc zero)) h = refl
master_mode_same (suc (suc (suc n))) h = absurd (omega arith)

-- the k bytes from a place on, one by one
abbrev list_at : ℕ → List ℕ → ℕ → List ℕ
list_at zero b at = []
list_at (suc k) b at = get_or b at 0 ∷ list_at k b (at + 1)

bytes_back : (k : ℕ) (b : List ℕ) (at : ℕ) → Bytes b → bytes_of k (number_at k b at) ≡ list_at k b at
bytes_back zero b at h = refl
bytes_back (suc k) b at h =
    let low : (get_or b at 0 + 256 * number_at k b (at + 1)) % 256 ≡ get_or b at 0 = omega (arith, h at) in
    let high : (get_or b at 0 + 256 * number_at k b (at + 1)) / 256 ≡ number_at k b (at + 1) = omega (arith, h at) in
    rw (low, high, bytes_back k b (at + 1) h)

front : (k : ℕ) (b : List ℕ) (at : ℕ) → at + k ≤ length b → list_at k b at ++ drop (at + k) b ≡ drop at b
front zero b at h = let e : at + 0 ≡ at = omega arith in rw e
front (suc k) b at h =
    let e : at + suc k ≡ at + 1 + k = omega arith in
    let l : at + 1 + k ≤ length b = omega arith in
    let c : drop at b ≡ get_or b at 0 ∷ drop (suc at) b = drop-cons b at 0 (omega arith) in
    rw (e, front k b (at + 1) l, c, add-one)

module _ (b : List ℕ) (l : 528 ≤ length b) (bytes : Bytes b) where
  slots_same : take 253 (drop 22 b) ++ take 253 (drop 275 b) ≡ take 506 (drop 22 b)
  slots_same = rw (take-add 253 253 (drop 22 b), drop-drop 253 22 b)

  head_same : list_at 20 b 2 ≡ take 20 (drop 2 b)
  head_same = sym (take_at (list_at 20 b 2) (drop 22 b) 20 refl) ∙ ap (λ (x : List ℕ). take 20 x) (front 20 b 2 (omega arith))

  side_same : marks_wrong b ≡ 0 → side_bytes (side_at b) ≡ take 526 (drop 2 b)
  unfolding marks_wrong side_at side_bytes side_head
  side_same e =
      let p = then_zero (above 1 b 4) (above 1 b 5) e in
      let parts : side_bytes (side_at b) ≡ list_at 20 b 2 ++ take 506 (drop 22 b) =
      λ i. (
      get_or b 2 0
      ∷ get_or b 3 0
      ∷ mark_same (get_or b 4 0) (small 1 b 4 p.0) i
      ∷ mark_same (get_or b 5 0) (small 1 b 5 p.1) i
      ∷ (bytes_back 8 b 6 bytes i ++ bytes_back 8 b 14 bytes i)
      )
      ++ slots_same i in
      parts
      ∙ ap (λ (x : List ℕ). x ++ take 506 (drop 22 b)) head_same
      ∙ sym (take-add 20 506 (drop 2 b) ∙ ap (λ (x : List ℕ). take 20 (drop 2 b) ++ take 506 x) (drop-drop 20 2 b))

slave_whole : (b : List ℕ) → length b ≡ 528 → Bytes b → slave_wrong b ≡ 0 → slave_bytes (slave_at b) ≡ b
unfolding slave_wrong slave_at slave_bytes
slave_whole b l bytes e =
    let p = then_zero (above 1 b 0) (marks_wrong b) e in
    let d : length (drop 2 b) ≡ length b - 2 = length-drop 2 b in
    let side : side_bytes (side_at b) ≡ drop 2 b = side_same b (omega arith) bytes p.1 ∙ take_all 526 (drop 2 b) (omega arith) in
    let parts : slave_bytes (slave_at b) ≡ get_or b 0 0 ∷ get_or b 1 0 ∷ drop 2 b =
    λ i. slave_mode_same (get_or b 0 0) (small 1 b 0 p.0) i ∷ get_or b 1 0 ∷ side i in
    parts ∙ front 2 b 0 (omega arith)

master_whole : (b : List ℕ) → length b ≡ 538 → Bytes b → master_wrong b ≡ 0 → master_bytes (master_at b) ≡ b
unfolding master_wrong master_at master_bytes master_tail
master_whole b l bytes e =
    let p = then_zero (above 2 b 0) _ e in
    let q = then_zero (above 1 b 528) _ p.1 in
    let r = then_zero (above 1 b 529) (marks_wrong b) q.1 in
    let none : drop 538 b ≡ [] = drop_of_length-le b {i = 538} (omega arith) in
    let tail : list_at 10 b 528 ≡ drop 528 b = rw none at (front 10 b 528 (omega arith)) in
    let side = side_same b (omega arith) bytes r.1 in
    let parts : master_bytes (master_at b) ≡ get_or b 0 0 ∷ get_or b 1 0 ∷ (take 526 (drop 2 b) ++ list_at 10 b 528) =
    λ i. master_mode_same (get_or b 0 0) (small 2 b 0 p.0) i
    ∷ get_or b 1 0
    ∷ (
    side i
    ++ (
    mark_same (get_or b 528 0) (small 1 b 528 q.0) i
    ∷ mark_same (get_or b 529 0) (small 1 b 529 r.0) i
    ∷ (bytes_back 4 b 530 bytes i ++ bytes_back 4 b 534 bytes i)
    )
    ) in
    parts
    ∙ ap (λ (x : List ℕ). get_or b 0 0 ∷ get_or b 1 0 ∷ (take 526 (drop 2 b) ++ x)) (tail ∙ sym (drop-drop 526 2 b))
    ∙ ap (λ (x : List ℕ). get_or b 0 0 ∷ get_or b 1 0 ∷ x) (take-append-drop 526 (drop 2 b))
    ∙ front 2 b 0 (omega arith)

pub every : Every
every = record { slave = slave; master = master }
  where
    slave : (b : List ℕ) → length b ≡ 528 → Bytes b → (slave_wrong b ≡ 30) ⊎ ((slave_wrong b ≡ 0) × (slave_bytes (slave_at b) ≡ b))
    slave b l bytes = from (slave_two b)
      where
        from : Two (slave_wrong b) → (slave_wrong b ≡ 30) ⊎ ((slave_wrong b ≡ 0) × (slave_bytes (slave_at b) ≡ b))
        from (inl e) = inr (e, slave_whole b l bytes e)
        from (inr e) = inl e

    master : (b : List ℕ) → length b ≡ 538 → Bytes b → (master_wrong b ≡ 30) ⊎ ((master_wrong b ≡ 0) × (master_bytes (master_at b) ≡ b))
    master b l bytes = from (master_two b)
      where
        from : Two (master_wrong b) → (master_wrong b ≡ 30) ⊎ ((master_wrong b ≡ 0) × (master_bytes (master_at b) ≡ b))
        from (inl e) = inr (e, master_whole b l bytes e)
        from (inr e) = inl e
