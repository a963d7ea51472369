-- The search for the content, bit by bit: what is known after each bit, and that it ends at what the definition finds.
-- Assumes nothing.
use Prim.Native.Nat.{ℕ, ◌+◌, ◌-◌, ◌*◌, ◌/◌, ◌<◌, ◌≤◌}
use Rattle.std.proofs.Common.{Option, Some, None, IfSome}
use Rattle.std.specs.declared.ops.Range.{Range}
use mathlib.Core.Path.{◌≡◌, ◌∙◌, refl, sym, ap}
use mathlib.Core.Bool.{Bool, true, false}
use mathlib.Core.List.{List}
use lib.Dec.{eqb, ltb}
use borrow.Author.Tests.{eqb-true, eqb-false, ltb-true, ltb-false}
use native.Mathlib.Decide.{dec_lt}
use native.Mathlib.Omega.{arith}
use lib.ListN.{length, get_or, take, drop, replicate, length-take, length-drop}
use lib.Seq.{drop-drop}
use Rattle.frame.specs.Pick.{pick}
use Rattle.bits.specs.Bits.{num, low}
use Rattle.bits.proofs.BitLaws.{num_small}
use Rattle.reader.specs.Flags.{part, between, nothing, content, heard}
use Rattle.reader.specs.Search.{closed_at, opened_at, located_in, LocatedWithin}
use Rattle.reader.specs.Places.{Flag, Neighbours, Seven, Counts, one, none}
use Rattle.reader.proofs.Placing.{same_neighbour, found-heard, found_once}
use Rattle.reader.proofs.Windows.{seen, seen_first, seen_next, take-drop-take, part-run, run_within, flag_within, flag_not_one, flag_last_not_one, window_flag, flag_window, window_seven, seven_window}

-- seven ones stand from place k on
abbrev SevenAt : List Bool → ℕ → Type 0
SevenAt l k = take 7 (drop k l) ≡ replicate 7 true

-- what is known before place i, by the place after the flag that is open
pub data Open (l : List Bool) (i : ℕ) : Option ℕ → Type 0 where
  hunts : ((p q : ℕ) → p + 8 ≤ i → Neighbours l p q → Counts (between l p q) → ⊥) → Open l i None
  frames : (p s : ℕ) → p + 8 ≡ s → s ≤ i → Flag l p
      → ((k : ℕ) → p < k → k + 8 ≤ i → Flag l k → ⊥)
      → ((k : ℕ) → s ≤ k → k + 7 ≤ i → SevenAt l k → ⊥)
      → ((j k : ℕ) → j < p → Neighbours l j k → Counts (between l j k) → ⊥)
      → Open l i (Some s)

-- the loop's invariant: the window holds the last eight bits
pub record Seek (l : List Bool) (i w : ℕ) (s : Option ℕ) : Type 0 where
  pub within : i ≤ length l
  pub window : low 8 w ≡ seen l i
  pub byte : w < 256
  pub known : Open l i s

pub seek_first : (l : List Bool) → Seek l 0 255 None
seek_first l = record { within = omega arith; window = seen_first l; byte = omega arith; known = hunts (λ p q h. absurd (omega arith)) }

-- a part has the seven ones that stand in its place, and no other
pub part-seven : (l : List Bool) (s e k : ℕ) → s ≤ k → k + 7 ≤ e → SevenAt l k → Seven (part s e l)
part-seven l s e k h g f = (k - s, part-run 7 s e k l h g ∙ f)

seven-part : (l : List Bool) (s e : ℕ) → Seven (part s e l) → (k : ℕ) × (s ≤ k) × (k + 7 ≤ e) × SevenAt l k
seven-part l s e (k, f) =
    let inside = run_within 7 k (part s e l) _ f refl (omega arith) in
    let short : k + 7 ≤ e - s = omega (arith, length-take (e - s) (drop s l)) in
    (s + k, omega arith, omega arith, ap (λ (x : List Bool). take 7 x) (sym (drop-drop k s l)) ∙ sym (take-drop-take 7 k (e - s) (drop s l) short) ∙ f)

part_length : (l : List Bool) (s e : ℕ) → e ≤ length l → length (part s e l) ≡ e - s
part_length l s e h = omega (arith, length-take (e - s) (drop s l), length-drop s l)

-- no flag and no seven ones end at place j
module _ (l : List Bool) (i j : ℕ) (next : j ≡ i + 1) (flagless : (k : ℕ) → k + 8 ≡ j → Flag l k → ⊥) where
  earlier_flag : (k : ℕ) → k + 8 ≤ j → Flag l k → k + 8 ≤ i
  earlier_flag k h f = go (dec_lt i (k + 8))
    where
      go : Dec (i < k + 8) → k + 8 ≤ i
      go (yes g) = absurd (flagless k (omega arith) f)
      go (no g) = omega arith

  -- nothing happens
  open_stays : {s : Option ℕ} → (8 ≤ i → (k : ℕ) → k + 7 ≡ j → SevenAt l k → ⊥) → Open l i s → Open l j s
  open_stays few (hunts b) = hunts (λ p q h n. b p q (earlier_flag p h n.earlier) n)
  open_stays few (frames p s e h f a n b) = frames p s e (omega arith) f (λ k o g q. a k o (earlier_flag k g q) q) more b
    where
      more : (k : ℕ) → s ≤ k → k + 7 ≤ j → SevenAt l k → ⊥
      more k o g q = go (dec_lt i (k + 7))
        where
          go : Dec (i < k + 7) → ⊥
          go (yes d) = few (omega arith) k (omega arith) q
          go (no d) = n k o (omega arith) q

  -- seven ones drop what was gathered
  open_drops : {s : Option ℕ} → (8 ≤ i → (k : ℕ) → k + 7 ≡ j → SevenAt l k) → Open l i s → Open l j None
  open_drops many (hunts b) = hunts (λ p q h n. b p q (earlier_flag p h n.earlier) n)
  open_drops many (frames p s e h f a n b) = hunts (λ p' q g m. from p' q g m (dec_lt p' p) (dec_lt p p'))
    where
      ones : SevenAt l (j - 7)
      ones = many (omega arith) (j - 7) (omega arith)

      starts : s ≤ j - 7
      starts = go (dec_lt (j - 7) s)
        where
          go : Dec (j - 7 < s) → s ≤ j - 7
          go (yes d) = absurd (flag_last_not_one l p (j - 7) f ones (p + 7 - (j - 7)) (omega arith) (omega arith))
          go (no d) = omega arith

      ends : (q : ℕ) → Neighbours l p q → j ≤ q
      ends q m = go (dec_lt q j)
        where
          go : Dec (q < j) → j ≤ q
          go (no d) = omega arith
          go (yes d) = absurd (inside (dec_lt j (q + 8)))
            where
              inside : Dec (j < q + 8) → ⊥
              inside (no c) = a q m.order (earlier_flag q (omega arith) m.later) m.later
              inside (yes c) = flag_not_one l q (j - 7) m.later ones (q - (j - 7)) (omega arith) (omega arith)

      from : (p' q : ℕ) → p' + 8 ≤ j → Neighbours l p' q → Dec (p' < p) → Dec (p < p') → Counts (between l p' q) → ⊥
      from p' q g m (yes d) t c = b p' q d m c
      from p' q g m (no d) (yes t) c = a p' t (earlier_flag p' g m.earlier) m.earlier
      from p' q g m (no d) (no t) c = same p' (omega arith) m c
        where
          same : (p' : ℕ) → p' ≡ p → Neighbours l p' q → Counts (between l p' q) → ⊥
          same p' o m c =
              let m' : Neighbours l p q = rw o at m in
              let c' : Counts (part (p + 8) q l) = rw o at c in
              c'.short (part-seven l (p + 8) q (j - 7) (omega (arith, starts)) (omega (arith, ends q m')) ones)

-- a flag ends at place j
module _ (l : List Bool) (i j f : ℕ) (next : j ≡ i + 1) (ends : f + 8 ≡ j) (here : Flag l f) where
  neighbours : (p : ℕ) → p + 8 ≤ i → Flag l p → ((k : ℕ) → p < k → k + 8 ≤ i → Flag l k → ⊥) → Neighbours l p f
  neighbours p h g a = record { earlier = g; later = here; order = omega arith; alone = λ k o b. a k o (omega arith) }

  -- it closes a content that is not empty
  open_closes : {s : ℕ} → Open l i (Some s) → s < f → j ≤ length l → heard l ≡ content s (part s f l)
  open_closes (frames p s e d g a n b) o h =
      found_once l (found-heard l) (one p f (neighbours p (omega arith) g a) counts b) ∙ ap (λ (x : ℕ). content x (part x f l)) e
    where
      counts : Counts (between l p f)
      counts = record {
        some = λ q. let z = part_length l (p + 8) f (omega arith) in let y = ap length q in omega arith;
        short = λ q. let k = seven-part l (p + 8) f q in n k.0 (omega arith) (omega arith) k.3;
      }

  -- or the content before it is empty, and it opens
  open_opens : {s : Option ℕ} → Open l i s → IfSome s (λ n. f ≤ n) → Open l j (Some j)
  open_opens (hunts b) z = frames f j ends (omega arith) here (λ k o h. absurd (omega arith)) (λ k o h. absurd (omega arith)) (λ p k o. b p k (omega arith))
  open_opens (frames p s e d g a n b) soon =
      frames f j ends (omega arith) here (λ k o h. absurd (omega arith)) (λ k o h. absurd (omega arith)) (λ p' k o m. from p' k o m (dec_lt p' p) (dec_lt p p'))
    where
      from : (p' q : ℕ) → p' < f → Neighbours l p' q → Dec (p' < p) → Dec (p < p') → Counts (between l p' q) → ⊥
      from p' q o m (yes t) u c = b p' q t m c
      from p' q o m (no t) (yes u) c = a p' u (omega arith) m.earlier
      from p' q o m (no t) (no u) c = same p' (omega arith) m c
        where
          same : (p' : ℕ) → p' ≡ p → Neighbours l p' q → Counts (between l p' q) → ⊥
          same p' x m c =
              let m' : Neighbours l p q = rw x at m in
              let q' = same_neighbour l p q f m' (neighbours p (omega arith) g a) in
              let no_bits : q - (p' + 8) ≡ 0 = omega arith in
              c.some (ap (λ (n : ℕ). take n (drop (p' + 8) l)) no_bits)

-- at the end nothing is found
pub open_ends : (l : List Bool) {s : Option ℕ} → Open l (length l) s → heard l ≡ nothing
open_ends l (hunts b) = found_once l (found-heard l) (none (λ p q m. b p q (flag_within l p m.earlier) m))
open_ends l (frames p s e d g a n b) = found_once l (found-heard l) (none (λ p' q m. from p' q m (dec_lt p' p)))
  where
    from : (p' q : ℕ) → Neighbours l p' q → Dec (p' < p) → Counts (between l p' q) → ⊥
    from p' q m (yes t) c = b p' q t m c
    from p' q m (no t) c = a q (omega (arith, m.order)) (flag_within l q m.later) m.later

-- ---- one bit more

-- a flag that closes nothing comes before the end of a content
closed_none : (w' : ℕ) (s : Option ℕ) (i f : ℕ) → eqb w' 126 ≡ true → f + 8 ≡ i → closed_at w' s i ≡ None → IfSome s (λ n. f ≤ n)
closed_none w' None i f t o e = tt
closed_none w' (Some s) i f t o e = at (ltb 8 (i - s)) refl (rw t at e)
  where
    at : (u : Bool) → ltb 8 (i - s) ≡ u → pick {A = Option (Range ℕ)} u (Some (record { start = s; end = i - 8 })) None ≡ None → f ≤ s
    at true x y = cc
    at false x y = let g = ltb-false 8 (i - s) x in omega arith

module _ (l : List Bool) (i w : ℕ) (s : Option ℕ) (w' : ℕ) (k : Seek l i w s) (h : i < length l) (comes : w' ≡ w / 2 + 128 * num (get_or l i true)) where
  byte_next : w' < 256
  byte_next = omega (arith, k.byte, num_small (get_or l i true))

  window_next : low 8 w' ≡ seen l (i + 1)
  window_next = ap (λ (n : ℕ). low 8 n) comes ∙ seen_next l i w h k.byte k.window

  -- it does not end a content that counts
  pub seek_turn : closed_at w' s (i + 1) ≡ None → Seek l (i + 1) w' (opened_at w' s (i + 1))
  seek_turn e = record { within = omega arith; window = window_next; byte = byte_next; known = go (eqb w' 126) refl }
    where
      flagless : eqb w' 126 ≡ false → (p : ℕ) → p + 8 ≡ i + 1 → Flag l p → ⊥
      flagless t p o f = eqb-false w' 126 t (flag_window l (i + 1) w' byte_next window_next p o f)

      go : (t : Bool) → eqb w' 126 ≡ t → Open l (i + 1) (pick t (Some (i + 1)) (pick (ltb w' 254) s None))
      go true t =
          let f = window_flag l (i + 1) w' window_next (eqb-true w' 126 t) in
          open_opens l i (i + 1) f.0 refl f.1 f.2 k.known (closed_none w' s (i + 1) f.0 t f.1 e)
      go false t = at (ltb w' 254) refl
        where
          at : (u : Bool) → ltb w' 254 ≡ u → Open l (i + 1) (pick u s None)
          at true x =
              let few = ltb-true w' 254 x in
              open_stays l i (i + 1) refl (flagless t)
              (λ g p o f. let many = seven_window l (i + 1) w' byte_next window_next p o (omega arith) f in omega arith)
              k.known
          at false x =
              open_drops l i (i + 1) refl (flagless t)
              (λ g p o. window_seven l (i + 1) w' byte_next window_next (ltb-false w' 254 x) p o (omega arith))
              k.known

-- or it ends one
module _ (l : List Bool) (i w s w' : ℕ) (k : Seek l i w (Some s)) (h : i < length l) (comes : w' ≡ w / 2 + 128 * num (get_or l i true)) where
  found_closed : (r : Range ℕ) → closed_at w' (Some s) (i + 1) ≡ Some r
      → (located_in l (Some r) ≡ heard l) × (LocatedWithin (length l) (Some r))
  found_closed r e = go (eqb w' 126) refl e
    where
      go : (t : Bool) → eqb w' 126 ≡ t → pick {A = Option (Range ℕ)} t (pick (ltb 8 (i + 1 - s)) (Some (record { start = s; end = i + 1 - 8 })) None) None ≡ Some r
          → (located_in l (Some r) ≡ heard l) × (LocatedWithin (length l) (Some r))
      go false t q = cc
      go true t q = long (ltb 8 (i + 1 - s)) refl q
        where
          long : (v : Bool) → ltb 8 (i + 1 - s) ≡ v → pick {A = Option (Range ℕ)} v (Some (record { start = s; end = i + 1 - 8 })) None ≡ Some r
              → (located_in l (Some r) ≡ heard l) × (LocatedWithin (length l) (Some r))
          long false a b = cc
          long true a b =
              let same : r ≡ record { start = s; end = i + 1 - 8 } = cc in
              let f = window_flag l (i + 1) w' (window_next l i w (Some s) w' k h comes) (eqb-true w' 126 t) in
              let g = ltb-true 8 (i + 1 - s) a in
              let o : f.0 ≡ i + 1 - 8 = omega arith in
              rw same
              (sym (open_closes l i (i + 1) f.0 refl f.1 f.2 k.known (omega arith) (omega arith) ∙ ap (λ (n : ℕ). content s (part s n l)) o), (omega arith, omega arith))

pub seek_found : (l : List Bool) (i w : ℕ) (s : Option ℕ) (w' : ℕ) → Seek l i w s → i < length l → w' ≡ w / 2 + 128 * num (get_or l i true)
    → (r : Range ℕ) → closed_at w' s (i + 1) ≡ Some r → (located_in l (Some r) ≡ heard l) × (LocatedWithin (length l) (Some r))
seek_found l i w None w' k h comes r e = cc
seek_found l i w (Some s) w' k h comes r e = found_closed l i w s w' k h comes r e
