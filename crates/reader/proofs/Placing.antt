-- The content that the definition finds is the first that counts, said of places alone; and the places settle it.
-- Assumes nothing.
use Prim.Native.Nat.{ℕ, zero, suc, ◌+◌, ◌-◌, ◌<◌, ◌≤◌}
use mathlib.Core.Path.{◌≡◌, ◌∙◌, refl, sym, ap}
use mathlib.Core.Logic.{◌⊎◌, inl, inr}
use mathlib.Core.Bool.{Bool, true, false, not, true≢false, false≢true}
use mathlib.Core.List.{List, [], ◌∷◌, ◌++◌}
use native.Mathlib.Nat.{eq-or-lt_of_le}
use native.Mathlib.Decide.{dec_lt}
use native.Mathlib.Omega.{arith}
use lib.ListN.{length, take, drop, replicate}
use lib.Seq.{drop-drop, drop-nil}
use Rattle.frame.proofs.Laws.{pick_cases}
use Rattle.bits.specs.Flag.{flag}
use Rattle.reader.specs.Flags.{starts, flags, between, seven, counts, Heard, content, first, heard}
use Rattle.reader.specs.Places.{Flag, Neighbours, Seven, Counts, Found, one, none, Placed}

-- a list's head and tail
pub same_head : {x y : Bool} {xs ys : List Bool} → x ∷ xs ≡ y ∷ ys → x ≡ y
same_head e = cc

pub same_tail : {x y : Bool} {xs ys : List Bool} → x ∷ xs ≡ y ∷ ys → xs ≡ ys
same_tail e = cc

not_nil : {x : Bool} {xs : List Bool} → [] ≡ x ∷ xs → ⊥
not_nil e = let z : ◌≡◌ {A = ℕ} 0 1 = cc in omega arith

-- to begin with bits is to have them as the first ones
pub starts-take : (xs bs : List Bool) → starts xs bs ≡ true → take (length xs) bs ≡ xs
unfolding starts
starts-take [] bs e = refl
starts-take (x ∷ xs) [] e = absurd (false≢true e)
starts-take (true ∷ xs) (true ∷ bs) e = ap (λ (l : List Bool). true ∷ l) (starts-take xs bs e)
starts-take (true ∷ xs) (false ∷ bs) e = absurd (false≢true e)
starts-take (false ∷ xs) (true ∷ bs) e = absurd (false≢true e)
starts-take (false ∷ xs) (false ∷ bs) e = ap (λ (l : List Bool). false ∷ l) (starts-take xs bs e)

pub take-starts : (xs bs : List Bool) → take (length xs) bs ≡ xs → starts xs bs ≡ true
unfolding starts
take-starts [] bs e = refl
take-starts (x ∷ xs) [] e = absurd (not_nil e)
take-starts (true ∷ xs) (true ∷ bs) e = take-starts xs bs (same_tail e)
take-starts (true ∷ xs) (false ∷ bs) e = absurd (false≢true (same_head e))
take-starts (false ∷ xs) (true ∷ bs) e = absurd (true≢false (same_head e))
take-starts (false ∷ xs) (false ∷ bs) e = take-starts xs bs (same_tail e)

-- seven ones, by the test and by their place
pub seven-placed : (c : List Bool) → seven c ≡ true → Seven c
unfolding seven
seven-placed [] e = absurd (false≢true e)
seven-placed (b ∷ bs) e =
    pick_cases (λ (t : Bool). t ≡ true → Seven (b ∷ bs)) (starts (replicate 7 true) (b ∷ bs)) true (seven bs)
    (λ t q. (0, starts-take (replicate 7 true) (b ∷ bs) t))
    (λ t q. later (seven-placed bs q))
    e
  where
    later : Seven bs → Seven (b ∷ bs)
    later s = (suc s.0, s.1)

pub placed-seven : (c : List Bool) (k : ℕ) → take 7 (drop k c) ≡ replicate 7 true → seven c ≡ true
unfolding seven
placed-seven [] k e = absurd (not_nil (sym (ap (λ (l : List Bool). take 7 l) (drop-nil k)) ∙ e))
placed-seven (b ∷ bs) zero e = rw (take-starts (replicate 7 true) (b ∷ bs) e)
placed-seven (b ∷ bs) (suc k) e =
    pick_cases (λ (t : Bool). t ≡ true) (starts (replicate 7 true) (b ∷ bs)) true (seven bs) (λ t. refl) (λ t. placed-seven bs k e)

-- a content counts, by the test and by places
pub counts-placed : (c : List Bool) → counts c ≡ true → Counts c
counts-placed [] e = absurd (false≢true e)
counts-placed (b ∷ bs) e =
    record { some = λ n. not_nil (sym n); short = λ s. false≢true (sym (ap not (placed-seven (b ∷ bs) s.0 s.1)) ∙ e) }

pub placed-counts : (c : List Bool) → counts c ≡ false → Counts c → ⊥
placed-counts [] e h = h.some refl
placed-counts (b ∷ bs) e h = h.short (seven-placed (b ∷ bs) (undo (seven (b ∷ bs)) e))
  where
    undo : (t : Bool) → not t ≡ false → t ≡ true
    undo true q = refl
    undo false q = absurd (true≢false q)

-- the places of a list are all flags from i on, in order
data All (l : List Bool) : ℕ → List ℕ → Type 0 where
  done : {i : ℕ} → ((k : ℕ) → i ≤ k → Flag l k → ⊥) → All l i []
  more : {i p : ℕ} {ps : List ℕ} → i ≤ p → Flag l p → ((k : ℕ) → i ≤ k → k < p → Flag l k → ⊥) → All l (suc p) ps → All l i (p ∷ ps)

-- where none stands at i, all from the next place on are all
all_down : (l : List Bool) (i : ℕ) (ps : List ℕ) → (Flag l i → ⊥) → All l (suc i) ps → All l i ps
all_down l i [] n (done f) = done (λ k h. from k (eq-or-lt_of_le h))
  where
    from : (k : ℕ) → (i ≡ k) ⊎ (i < k) → Flag l k → ⊥
    from k (inl e) g = n (rw e g)
    from k (inr h) g = f k h g
all_down l i (p ∷ ps) n (more h g f rest) = more {i = i} {p = p} (omega arith) g (λ k b. from k (eq-or-lt_of_le b)) rest
  where
    from : (k : ℕ) → (i ≡ k) ⊎ (i < k) → k < p → Flag l k → ⊥
    from k (inl e) b q = n (rw e q)
    from k (inr a) b q = f k a b q

all_flags : (l : List Bool) (i : ℕ) (bs : List Bool) → drop i l ≡ bs → All l i (flags i bs)
unfolding flags
all_flags l i [] e = done (λ k h g. not_nil (sym (nothing_left k h) ∙ g))
  where
    nothing_left : (k : ℕ) → i ≤ k → take 8 (drop k l) ≡ []
    nothing_left k h =
        let s : k ≡ i + (k - i) = omega arith in
        ap (λ (n : ℕ). take 8 (drop n l)) s ∙ ap (λ (x : List Bool). take 8 x) (sym (drop-drop (k - i) i l) ∙ ap (λ (x : List Bool). drop (k - i) x) e ∙ drop-nil (k - i))
all_flags l i (b ∷ bs) e =
    pick_cases (λ (ps : List ℕ). All l i (ps ++ flags (suc i) bs)) (starts flag (b ∷ bs)) (i ∷ []) []
    (λ t. more {i = i} {p = i} (omega arith) (ap (λ (x : List Bool). take 8 x) e ∙ starts-take flag (b ∷ bs) t) (λ k a c g. absurd (omega arith)) (all_flags l (suc i) bs next))
    (λ t. all_down l i (flags (suc i) bs) (λ g. true≢false (sym (take-starts flag (b ∷ bs) (ap (λ (x : List Bool). take 8 x) (sym e) ∙ g)) ∙ t)) (all_flags l (suc i) bs next))
  where
    next : drop (suc i) l ≡ bs
    next = let s : suc i ≡ i + 1 = omega arith in ap (λ (n : ℕ). drop n l) s ∙ sym (drop-drop 1 i l) ∙ ap (λ (x : List Bool). drop 1 x) e

-- a flag has one neighbour
pub same_neighbour : (l : List Bool) (p q k : ℕ) → Neighbours l p q → Neighbours l p k → q ≡ k
same_neighbour l p q k m n = go (dec_lt q k) (dec_lt k q)
  where
    go : Dec (q < k) → Dec (k < q) → q ≡ k
    go (yes a) d = absurd (n.alone q m.order a m.later)
    go (no a) (yes b) = absurd (m.alone k n.order b n.later)
    go (no a) (no b) = omega arith

-- the first of all flags' neighbours that enclose what counts, once none before i does
found_first : (l : List Bool) (i : ℕ) (ps : List ℕ) → All l i ps → ((j k : ℕ) → j < i → Neighbours l j k → Counts (between l j k) → ⊥) → Found l (first l ps)
unfolding first
found_first l i [] (done f) before = none (λ p q n. from p q n (dec_lt p i))
  where
    from : (p q : ℕ) → Neighbours l p q → Dec (p < i) → Counts (between l p q) → ⊥
    from p q n (yes h) = before p q h n
    from p q n (no h) = absurd (f p (omega arith) n.earlier)
found_first l i (p ∷ []) (more h g f (done e)) before = none (λ j k n. from j k n (dec_lt j i))
  where
    from : (j k : ℕ) → Neighbours l j k → Dec (j < i) → Counts (between l j k) → ⊥
    from j k n (yes a) = before j k a n
    from j k n (no a) = absurd (last (dec_lt j p))
      where
        last : Dec (j < p) → ⊥
        last (yes b) = f j (omega arith) b n.earlier
        last (no b) = e k (omega arith) n.later
found_first l i (p ∷ q ∷ ps) (more h g f (more a b c rest)) before =
    pick_cases (λ (x : Heard). Found l x) (counts (between l p q)) (content (p + 8) (between l p q)) (first l (q ∷ ps))
    (λ t. one p q both (counts-placed (between l p q) t) (λ j k s n. earlier j k s n (dec_lt j i)))
    (λ t. found_first l (suc p) (q ∷ ps) (more a b c rest) (λ j k s n. here t j k s n (dec_lt j p)))
  where
    both : Neighbours l p q
    both = record { earlier = g; later = b; order = omega arith; alone = λ k s e. c k (omega arith) e }

    earlier : (j k : ℕ) → j < p → Neighbours l j k → Dec (j < i) → Counts (between l j k) → ⊥
    earlier j k s n (yes d) = before j k d n
    earlier j k s n (no d) = absurd (f j (omega arith) s n.earlier)

    here : counts (between l p q) ≡ false → (j k : ℕ) → j < suc p → Neighbours l j k → Dec (j < p) → Counts (between l j k) → ⊥
    here t j k s n (yes d) = earlier j k d n (dec_lt j i)
    here t j k s n (no d) = at j (omega arith) n
      where
        at : (j : ℕ) → j ≡ p → Neighbours l j k → Counts (between l j k) → ⊥
        at j e n = let m : Neighbours l p k = rw e at n in let o = same_neighbour l p q k both m in placed-counts (between l j k) (rw (e, ← o) t)

pub found-heard : (l : List Bool) → Found l (heard l)
unfolding heard
found-heard l = found_first l 0 (flags 0 l) (all_flags l 0 l refl) (λ j k s. absurd (omega arith))

-- two that are so placed are one
pub found_once : (l : List Bool) {h g : Heard} → Found l h → Found l g → h ≡ g
found_once l (none e) (none f) = refl
found_once l (none e) (one p q n c b) = absurd (e p q n c)
found_once l (one p q n c b) (none e) = absurd (e p q n c)
found_once l (one p q n c b) (one j k m d a) = go (dec_lt p j) (dec_lt j p)
  where
    go : Dec (p < j) → Dec (j < p) → content (p + 8) (between l p q) ≡ content (j + 8) (between l j k)
    go (yes s) t = absurd (a p q s n c)
    go (no s) (yes t) = absurd (b j k t m d)
    go (no s) (no t) = let e : p ≡ j = omega arith in let m' : Neighbours l p k = rw (← e) at m in let o = same_neighbour l p q k n m' in rw (e, o)

pub placed : Placed
placed = record { found = found-heard; once = λ l h f. found_once l (found-heard l) f }
