-- The promises of NRZI, kept.
-- Assumes nothing.
use Prim.Native.Nat.{ℕ, ◌*◌}
use mathlib.Core.Path.{◌≡◌, ◌∙◌, refl, ap}
use mathlib.Core.Bool.{Bool}
use mathlib.Core.List.Memᴰ.{head as here}
use mathlib.Core.List.Memᴰ.{tail as there}
use mathlib.Core.List.{List, [], ◌∷◌}
use native.Mathlib.Omega.{arith}
use lib.Dec.{ltb}
use lib.ListN.{length, take, drop, length-append, length-drop}
use lib.Seq.{take_at, drop_at, length-take-le}
use borrow.Author.Tests.{eq-eqb}
use Rattle.frame.proofs.LosesNothing.{answer_one}
use Rattle.frame.proofs.Laws.{pick_among, then_among, unless_lists}
use Rattle.bits.specs.Bits.{bits_of, bytes_of}
use Rattle.bits.specs.Packed.{bytes_for, over}
use Rattle.bits.proofs.Counting.{count_numbers}
use Rattle.bits.proofs.BitLaws.{length_bits_of, bits_back}
use Rattle.nrzi.specs.Nrzi.{coding, reached, nrzi_refusal, code_of, code_bytes}
use Rattle.nrzi.specs.Promises.{ThereAndBack, OutputBits, Numbers, LosesNothing}
use Rattle.nrzi.proofs.Levels.{bits_again, levels_again, length-coding}
use Rattle.nrzi.proofs.Laid.{taken}

pub there_and_back : ThereAndBack
there_and_back l bs = (bits_again l bs, levels_again l bs)

pub output_bits : OutputBits
unfolding code_bytes over
output_bits back l input bits out e =
    let c = coding back l (take bits (bits_of input)) in
    let fits = taken bits (length input) (length out) e in
    let size : length c ≡ bits =
    length-coding back l (take bits (bits_of input)) ∙ length-take-le bits (bits_of input) (omega (arith, length_bits_of input)) in
    let whole : length (over c (bits_of out)) ≡ 8 * length out =
    omega (arith, length-append c (drop (length c) (bits_of out)), length-drop (length c) (bits_of out), length_bits_of out) in
    let all : bits_of (bytes_of (length out) (over c (bits_of out))) ≡ over c (bits_of out) = bits_back (length out) (over c (bits_of out)) whole in
    rw (eq-eqb _ _ e) (
      ap (λ (b : List Bool). take bits b) all ∙ take_at c (drop (length c) (bits_of out)) bits size,
      ap (λ (b : List Bool). drop bits b) all ∙ drop_at c (drop (length c) (bits_of out)) bits size ∙ ap (λ (n : ℕ). drop n (bits_of out)) size,
    )

pub numbers : Numbers
unfolding code_of nrzi_refusal
numbers back l input bits room =
    unless_lists (reached back l (take bits (bits_of input)))
    (then_among (2 ∷ []) (11 ∷ [])
    (count_numbers [] (length input) bits)
    (pick_among (ltb room (bytes_for bits)) (there (here refl)) (here refl)))

pub loses_nothing : LosesNothing
loses_nothing a b e = answer_one a b e
