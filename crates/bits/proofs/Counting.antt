-- What number 2 tells of a stated bit count: its number, and a count that it lets pass.
-- Assumes nothing.
use Prim.Native.Nat.{ℕ, ◌*◌, ◌≤◌}
use mathlib.Core.Path.{◌≡◌, refl}
use mathlib.Core.List.Memᴰ.{head as here}
use mathlib.Core.List.Memᴰ.{tail as there}
use mathlib.Core.List.{List, ◌∷◌}
use native.Mathlib.Omega.{arith}
use lib.Dec.{ltb}
use borrow.Author.Tests.{ltb-false}
use Rattle.frame.specs.Answer.{Among}
use Rattle.frame.proofs.Laws.{pick_second, pick_among}
use Rattle.bits.specs.Count.{bit_count_refusal}

pub count_numbers : (ks : List ℕ) (size bits : ℕ) → Among (bit_count_refusal size bits) (0 ∷ 2 ∷ ks)
unfolding bit_count_refusal
count_numbers ks size bits = pick_among (ltb 8192 bits) (there (here refl)) (pick_among (ltb (8 * size) bits) (there (here refl)) (here refl))

pub count_passed : (size bits : ℕ) → bit_count_refusal size bits ≡ 0 → (bits ≤ 8192) × (bits ≤ 8 * size)
unfolding bit_count_refusal
count_passed size bits e =
    let a = pick_second (ltb 8192 bits) 2 _ 0 e (λ z. omega arith) in
    let b = pick_second (ltb (8 * size) bits) 2 0 0 a.1 (λ z. omega arith) in
    (ltb-false 8192 bits a.0, ltb-false (8 * size) bits b.0)
