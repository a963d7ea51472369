-- `reader::content` meets its contract.
use Prim.Native.Nat.{ℕ, ◌/◌, ◌≤◌}
use mathlib.Core.Path.{◌≡◌, sym}
use mathlib.Core.List.{List}
use native.Mathlib.Omega.{arith}
use lib.ListN.{length}
use lib.Seq.{length-take-le}
use borrow.Author.Rules.{rules}
use Rattle.reader.specs.Read.{removal_refusal}
use Rattle.reader.proofs.Judging.{removal_passed}
use Rattle.reader.proofs.content.Goals as goal

-- a content that passed 3 to 6 has 4 to 257 bytes, which are there
passed : (bits run : ℕ) (bytes : List ℕ) → removal_refusal bits run ≡ 0 → length bytes ≡ 1024 → (4 ≤ bits / 8) × (bits / 8 ≤ length bytes)
passed bits run bytes z l = let p = removal_passed bits run z in (p.2, omega arith)

pub slice_bounds-whole-end : goal.slice_bounds-whole-end
slice_bounds-whole-end c =
    let bytes = c.extract-kept.new.bytes in
    sym (length-take-le _ bytes (passed _ _ bytes (sym c.in_ok-removal_refusal.ensures) (search rules)).1)

pub whole-requires : goal.whole-requires
whole-requires c =
    let bytes = c.extract-kept.new.bytes in
    let p = passed _ _ bytes (sym c.in_ok-removal_refusal.ensures) (search rules) in
    omega (arith, p, length-take-le _ bytes p.1)
