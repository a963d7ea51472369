-- Known bytes over several reads or writes.
-- Assumes nothing.
use Rattle.std.proofs.Common.{◌≡◌, ℕ, ◌+◌, ◌-◌, ◌≤◌, List, ◌++◌, length, take, drop, Option, ◌∙◌, ap, arith}
use Rattle.std.proofs.lemmas.Grind.{common_steps}
use Rattle.std.proofs.Math.Seq.{take-add, drop-drop, take_all}
use Rattle.std.proofs.Math.ListN.{length-drop}
use Rattle.std.proofs.KnownBytes.{Appends-trans}
use Rattle.std.specs.Io.KnownBytes.{Appends}
use borrow.Rule.Slice.PartMut.{put_mid}

-- the first bytes after a read of n more
pub read_more : (a k : ℕ) (xs ys : List ℕ) (n : ℕ) → a ≤ length xs → n ≤ length ys → take (a + n) (put_mid a k xs ys) ≡ take a xs ++ take n ys
read_more a k xs ys n h l = grind (arith, common_steps, take-add)

-- what stands between the first bytes of a text, which were written, and what is left of it
pub record Written (text left : List ℕ) (old new : Option (List ℕ)) : Type 0 where
  pub inside : length left ≤ length text
  pub rest : left ≡ drop (length text - length left) text
  pub known : Appends old new (take (length text - length left) text)

-- after a write of n more
pub written_more : (text left : List ℕ) {old mid new : Option (List ℕ)} (n : ℕ) → Written text left old mid → n ≤ length left → Appends mid new (take n left)
    → Written text (take (length left - n) (drop n left)) old new
written_more text left {old} {mid} {new} n w h a = rw rest_all record {
  inside = omega (arith, length-drop n left, w.inside);
  rest = rw place (ap (λ (l : List ℕ). drop n l) w.rest ∙ drop-drop n (length text - length left) text);
  known = rw (place, take-add (length text - length left) n text, ← w.rest) (Appends-trans old mid new _ _ w.known a);
}
  where
    rest_all : take (length left - n) (drop n left) ≡ drop n left
    rest_all = take_all (length left - n) (drop n left) (omega (arith, length-drop n left))

    place : length text - length (drop n left) ≡ length text - length left + n
    place = omega (arith, length-drop n left, w.inside)
