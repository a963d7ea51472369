-- The content's bytes one after the other, counted or laid: what one piece did, the next goes on with.
-- Assumes nothing.
use Prim.Native.Nat.{ℕ, suc, ◌+◌, ◌*◌, ◌≤◌, ◌<◌}
use mathlib.Core.Path.{◌≡◌, ◌∙◌, refl, sym, ap, subst}
use mathlib.Core.Bool.{Bool}
use mathlib.Core.List.{List, [], ◌∷◌, ◌++◌, append_assoc, append-nil}
use native.Mathlib.Omega.{arith}
use native.Mathlib.Numerals.{add-one}
use lib.ListN.{length, take, drop, get_or, length-append}
use lib.Seq.{split_at, take-suc}
use Rattle.bits.specs.Bits.{low, bits_of}
use Rattle.bits.specs.Insert.{insert, trail}
use Rattle.bits.proofs.BitLaws.{bits_of_append, length_bits_of}
use Rattle.bits.proofs.Insertion.{insert-append, trail-append, length-insert, zeros_few}
use Rattle.writer.specs.Sink.{sofar, Added}
use Rattle.writer.specs.Stuff.{Inserted, Tallied, Ready, Laying}
use Rattle.writer.specs.declared.packed.Sink.{Sink}
use Rattle.writer.specs.declared.stuff.Stuffed.{Stuffed}
use Rattle.writer.specs.declared.pieces.Counted.{Counted}
use Rattle.writer.specs.declared.pieces.Laid.{Laid}
use Rattle.writer.proofs.Filling.{one_byte, added_on}
use Rattle.writer.proofs.Stuffing.{stuffed_low}

-- ---- the byte at a place among the bytes

module _ (bytes : List ℕ) (i : ℕ) (h : i < length bytes) where
  pub bits_next : bits_of (take (i + 1) bytes) ≡ bits_of (take i bytes) ++ low 8 (get_or bytes i 0)
  bits_next =
      ap (λ (n : ℕ). bits_of (take n bytes)) (add-one i) ∙ ap bits_of (take-suc bytes i 0 h) ∙ bits_of_append (take i bytes) (get_or bytes i 0 ∷ [])
      ∙ ap (λ (l : List Bool). bits_of (take i bytes) ++ l) (one_byte (get_or bytes i 0))

  pub bits_split : bits_of bytes ≡ bits_of (take i bytes) ++ (low 8 (get_or bytes i 0) ++ bits_of (drop (suc i) bytes))
  unfolding bits_of
  bits_split = ap bits_of (split_at bytes i 0 h) ∙ bits_of_append (take i bytes) (get_or bytes i 0 ∷ drop (suc i) bytes)

-- ---- what goes out for a part is part of what goes out

pub length-insert-append : (r : ℕ) (x y : List Bool) → length (insert r (x ++ y)) ≡ length (insert r x) + length (insert (trail r x) y)
length-insert-append r x y = ap length (insert-append r x y) ∙ length-append (insert r x) (insert (trail r x) y)

-- what goes out for bytes is at most 48 bits for each five, and four fifths of a bit
pub piece_few : (r : ℕ) → r < 5 → (a : List ℕ) → 5 * length (insert r (bits_of a)) ≤ 48 * length a + 4
piece_few r h a = omega (arith, length-insert r (bits_of a), zeros_few r h (bits_of a), length_bits_of a)

pub bits_three : (a b c : List ℕ) → bits_of (a ++ (b ++ c)) ≡ bits_of a ++ (bits_of b ++ bits_of c)
bits_three a b c = bits_of_append a (b ++ c) ∙ ap (λ (l : List Bool). bits_of a ++ l) (bits_of_append b c)

pub length_three : (a b c : List ℕ) → length (a ++ (b ++ c)) ≡ length a + length b + length c
length_three a b c = omega (arith, length-append a (b ++ c), length-append b c)

-- ---- counting

pub tallied_none : (t : Counted) → Tallied t [] t
unfolding insert trail
tallied_none t = record { bits = omega arith; run = refl }

pub tallied_on : {t u v : Counted} {x y : List Bool} → Tallied t x u → Tallied u y v → Tallied t (x ++ y) v
tallied_on {t} {u} {v} {x} {y} f g =
    record {
      bits =
          let a = f.bits in let b = g.bits in let c = length-insert-append t.run.ones x y in
          let d : length (insert u.run.ones y) ≡ length (insert (trail t.run.ones x) y) = ap (λ (r : ℕ). length (insert r y)) f.run in
          omega arith;
      run = g.run ∙ ap (λ (r : ℕ). trail r y) f.run ∙ sym (trail-append t.run.ones x y);
    }

pub tallied_next : {t u v : Counted} (bytes : List ℕ) (i : ℕ) → i < length bytes
    → Tallied t (bits_of (take i bytes)) u → Tallied u (low 8 (get_or bytes i 0)) v → Tallied t (bits_of (take (i + 1) bytes)) v
tallied_next {t} {u} {v} bytes i h f g = subst (λ (x : List Bool). Tallied t x v) (sym (bits_next bytes i h)) (tallied_on f g)

pub tallied_three : {t u v w : Counted} (a b c : List ℕ)
    → Tallied t (bits_of a) u → Tallied u (bits_of b) v → Tallied v (bits_of c) w → Tallied t (bits_of (a ++ (b ++ c))) w
tallied_three {t} {u} {v} {w} a b c f g h = subst (λ (x : List Bool). Tallied t x w) (sym (bits_three a b c)) (tallied_on f (tallied_on g h))

pub tallied_byte : {t : Counted} {x : List Bool} {s : Stuffed} → Inserted t.run.ones x s → Tallied t x (record { bits = t.bits + s.count; run = s.run })
tallied_byte {t} f = record { bits = ap (λ (n : ℕ). t.bits + n) f.count; run = f.run }

-- ---- laying

module _ {out : List ℕ} {l : Laid} where
  pub laying_none : Laying out l [] out l
  unfolding insert trail
  laying_none =
      record {
        added = record { bits = sym (append-nil (sofar out l.sink)); rest = refl; long = refl; place = omega arith };
        run = refl;
      }

  pub laying_on : {out' out'' : List ℕ} {m n : Laid} {x y : List Bool}
      → Laying out l x out' m → Laying out' m y out'' n → Laying out l (x ++ y) out'' n
  laying_on {out'} {out''} {m} {n} {x} {y} f g =
      record {
        added =
            subst (λ (z : List Bool). Added out l.sink z out'' n.sink) (sym (insert-append l.run.ones x y))
            (added_on f.added (subst (λ (r : ℕ). Added out' m.sink (insert r y) out'' n.sink) f.run g.added));
        run = g.run ∙ ap (λ (r : ℕ). trail r y) f.run ∙ sym (trail-append l.run.ones x y);
      }

  pub laying_next : {out' out'' : List ℕ} {m n : Laid} (bytes : List ℕ) (i : ℕ) → i < length bytes
      → Laying out l (bits_of (take i bytes)) out' m → Laying out' m (low 8 (get_or bytes i 0)) out'' n → Laying out l (bits_of (take (i + 1) bytes)) out'' n
  laying_next {out'' = out''} {n = n} bytes i h f g = subst (λ (x : List Bool). Laying out l x out'' n) (sym (bits_next bytes i h)) (laying_on f g)

  pub laying_three : {o1 o2 o3 : List ℕ} {m n k : Laid} (a b c : List ℕ)
      → Laying out l (bits_of a) o1 m → Laying o1 m (bits_of b) o2 n → Laying o2 n (bits_of c) o3 k → Laying out l (bits_of (a ++ (b ++ c))) o3 k
  laying_three {o3 = o3} {k = k} a b c f g h =
      subst (λ (x : List Bool). Laying out l x o3 k) (append_assoc (bits_of a) (bits_of b) (bits_of c) ∙ sym (bits_three a b c)) (laying_on (laying_on f g) h)

  pub ready_three : (a b c : List ℕ) → Ready out l (bits_of (a ++ (b ++ c))) → Ready out l (bits_of a ++ (bits_of b ++ bits_of c))
  ready_three a b c r = subst (λ (x : List Bool). Ready out l x) (bits_three a b c) r

  pub laying_byte : {out' : List ℕ} {k : Sink} {x : List Bool} {s : Stuffed} → Inserted l.run.ones x s
      → Added out l.sink (low s.count s.bits) out' k → Laying out l x out' (record { sink = k; run = s.run })
  laying_byte {out'} {k} {x} {s} f a =
      record { added = subst (λ (z : List Bool). Added out l.sink z out' k) (stuffed_low f) a; run = f.run }

  -- room for the whole is room for its first part, and for the second behind it
  pub ready_first : {x : List Bool} (y : List Bool) → Ready out l (x ++ y) → Ready out l x
  ready_first {x} y r = record { room = let e = length-insert-append l.run.ones x y in let f = r.room in omega arith }

  pub ready_second : {out' : List ℕ} {m : Laid} (x y : List Bool) → Ready out l (x ++ y) → Laying out l x out' m → Ready out' m y
  ready_second {out'} {m} x y r f =
      record {
        room =
            let a = f.added.place in let b = f.added.long in let c = length-insert-append l.run.ones x y in let e = r.room in
            let d : length (insert m.run.ones y) ≡ length (insert (trail l.run.ones x) y) = ap (λ (n : ℕ). length (insert n y)) f.run in
            omega arith;
      }
