-- `nrzi::code_whole` meets its contract: the bytes passed are coded.
use Prim.Native.Nat.{ℕ, ◌<◌}
use mathlib.Core.Path.{◌∙◌, refl, ap, ap₂}
use mathlib.Core.Bool.{Bool}
use mathlib.Core.List.{List}
use native.Mathlib.Omega.{arith}
use lib.ListN.{length, get_or, set}
use Rattle.bits.specs.Bits.{low, val, bits_of, bytes_of}
use Rattle.nrzi.specs.Nrzi.{coding, reached}
use Rattle.nrzi.proofs.Levels.{reached_more, coding_more}
use Rattle.nrzi.proofs.code_whole.Goals as goal

pub loop-i-init : goal.loop-i-init
unfolding bits_of coding reached bytes_of
loop-i-init g c = record { level = refl; bytes = refl }

pub loop-i-preserved : goal.loop-i-preserved
loop-i-preserved g c =
    let l = c.loop-i in
    let a = c.args in
    let back = g.W.Way.back in
    let piece = c.code-piece.ensures in
    let in-input : l.i < length a.input.now = omega arith in
    let in-out : l.i < length a.out.now = omega arith in
    let x = get_or a.input.now l.i 0 in
    record {
      level =
          c.level_after-at.ensures ∙ piece.levels 8 (omega arith) (omega arith) ∙ ap (λ (b : Bool). reached back b (low 8 x)) l.invariant.level
          ∙ reached_more a.input.now l.i in-input back a.level;
      bytes =
          ap₂ (λ (o : List ℕ) (y : ℕ). set o l.i y) l.invariant.bytes (piece.byte ∙ ap (λ (b : Bool). val (coding back b (low 8 x))) l.invariant.level)
          ∙ coding_more a.input.now l.i in-input back a.level a.out.now in-out;
    }
