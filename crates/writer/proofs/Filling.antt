-- Bits laid into a buffer: storing a whole byte keeps them, and what one piece added, the next adds to.
-- Assumes nothing.
use Prim.Native.Nat.{ℕ, ◌+◌, ◌-◌, ◌*◌, ◌/◌, ◌%◌, ◌^◌, ◌≤◌, ◌<◌}
use mathlib.Core.Path.{◌≡◌, ◌∙◌, refl, sym, ap, ap₂, subst}
use mathlib.Core.Bool.{Bool}
use mathlib.Core.List.{List, [], ◌∷◌, ◌++◌, append_assoc, append-nil}
use native.Mathlib.Omega.{arith}
use native.Mathlib.Nat.{add_comm, div-add-mod'}
use native.Mathlib.Numerals.{add-one}
use lib.Arith.{digits_lt}
use lib.ListN.{length, take, drop, set, length-append, length-set}
use lib.Pow.{pow-add, shr_lt}
use lib.Seq.{take-suc-set, drop-set-lt, drop-drop}
use Rattle.bits.specs.Bits.{low, bits_of}
use Rattle.bits.proofs.BitLaws.{low_join, bits_of_append}
use Rattle.writer.specs.Sink.{sofar, placed, Added}
use Rattle.writer.specs.declared.packed.Sink.{Sink}

-- what is the same from a place on is the same from a later one on
pub drop_further : (m n : ℕ) (x y : List ℕ) → m ≤ n → drop m x ≡ drop m y → drop n x ≡ drop n y
drop_further m n x y h e =
    let s : m + (n - m) ≡ n = omega arith in
    subst (λ (k : ℕ). drop k x ≡ drop k y) s (sym (drop-drop (n - m) m x) ∙ ap (λ (l : List ℕ). drop (n - m) l) e ∙ drop-drop (n - m) m y)

-- while whole bytes are stored: all the bits stand in the bytes stored and in the number that is left
pub record Filling (old : List ℕ) (all : List Bool) (total : ℕ) (out : List ℕ) (rest left place : ℕ) : Type 0 where
  pub bits : bits_of (take place out) ++ low left rest ≡ all
  pub same : drop place out ≡ drop place old
  pub long : length out ≡ length old
  pub count : 8 * place + left ≡ total
  pub small : rest < 2 ^ left

module _ (old : List ℕ) (s : Sink) (bits count : ℕ) (fits : bits < 2 ^ count) where
  pub filling : (above : ℕ) → above ≡ bits * 2 ^ s.waits
      → Filling old (sofar old s ++ low count bits) (placed s + count) old (s.acc + above) (s.waits + count) s.at
  unfolding sofar
  filling above e =
      record {
        bits =
            ap (λ (n : ℕ). bits_of (take s.at old) ++ low (s.waits + count) n) (add_comm s.acc above ∙ ap (λ (n : ℕ). n + s.acc) e)
            ∙ ap (λ (l : List Bool). bits_of (take s.at old) ++ l) (low_join s.waits s.acc count bits s.small)
            ∙ sym (append_assoc (bits_of (take s.at old)) (low s.waits s.acc) (low count bits));
        same = refl;
        long = refl;
        count = omega arith;
        small = subst (λ (n : ℕ). s.acc + above < n) (sym (pow-add 2 count s.waits) ∙ ap (λ (n : ℕ). 2 ^ n) (add_comm count s.waits))
            (let d : bits * 2 ^ s.waits + s.acc < 2 ^ count * 2 ^ s.waits = digits_lt fits s.small in omega arith);
      }

pub one_byte : (x : ℕ) → bits_of (x ∷ []) ≡ low 8 x
unfolding bits_of
one_byte x = append-nil (low 8 x)

-- a byte is stored
pub turn : {old : List ℕ} {all : List Bool} {total : ℕ} {out : List ℕ} {rest left place : ℕ}
    → Filling old all total out rest left place → 8 ≤ left → place < length out
    → Filling old all total (set out place (rest % 256)) (rest / 256) (left - 8) (place + 1)
turn {old} {all} {total} {out} {rest} {left} {place} f h r =
    let eight : 8 + (left - 8) ≡ left = omega arith in
    let whole : rest / 256 * 2 ^ 8 + rest % 256 ≡ rest = div-add-mod' rest 256 in
    let low-split : low left rest ≡ low 8 (rest % 256) ++ low (left - 8) (rest / 256) = ap₂ low (sym eight) (sym whole) ∙ low_join 8 (rest % 256) (left - 8) (rest / 256) (omega arith) in
    let stored : bits_of (take (place + 1) (set out place (rest % 256))) ≡ bits_of (take place out) ++ low 8 (rest % 256) =
    ap (λ (n : ℕ). bits_of (take n (set out place (rest % 256)))) (add-one place) ∙ ap bits_of (take-suc-set out place (rest % 256) r)
    ∙ bits_of_append (take place out) (rest % 256 ∷ []) ∙ ap (λ (l : List Bool). bits_of (take place out) ++ l) (one_byte (rest % 256)) in
    record {
      bits =
          ap (λ (l : List Bool). l ++ low (left - 8) (rest / 256)) stored
          ∙ append_assoc (bits_of (take place out)) (low 8 (rest % 256)) (low (left - 8) (rest / 256))
          ∙ ap (λ (l : List Bool). bits_of (take place out) ++ l) (sym low-split) ∙ f.bits;
      same = drop-set-lt (place + 1) out place (rest % 256) (omega arith) ∙ drop_further place (place + 1) out old (omega arith) f.same;
      long = length-set out place (rest % 256) ∙ f.long;
      count = let e = f.count in omega arith;
      small = shr_lt (left - 8) 8 (subst (λ (n : ℕ). rest < 2 ^ n) (let g : left ≡ left - 8 + 8 = omega arith in g) f.small);
    }

-- no whole byte is left
pub filled : {old : List ℕ} {s s' : Sink} {more : List Bool} {out : List ℕ}
    → Filling old (sofar old s ++ more) (placed s + length more) out s'.acc s'.waits s'.at → Added old s more out s'
unfolding sofar
filled f = record { bits = f.bits; rest = f.same; long = f.long; place = f.count }

-- what one piece added, the next adds to
pub added_on : {out out' out'' : List ℕ} {s s' s'' : Sink} {x y : List Bool}
    → Added out s x out' s' → Added out' s' y out'' s'' → Added out s (x ++ y) out'' s''
added_on {out} {out'} {out''} {s} {s'} {s''} {x} {y} a b =
    let p = a.place in let q = b.place in let few = s''.few in let few' = s'.few in
    record {
      bits = b.bits ∙ ap (λ (l : List Bool). l ++ y) a.bits ∙ append_assoc (sofar out s) x y;
      rest = b.rest ∙ drop_further s'.at s''.at out' out (omega arith) a.rest;
      long = b.long ∙ a.long;
      place = omega (arith, length-append x y);
    }
