-- `nrzi::lay` meets its contract.
use Prim.Native.Nat.{ℕ, ◌+◌, ◌*◌, ◌/◌, ◌%◌}
use mathlib.Core.Path.{◌≡◌, ◌∙◌, ap}
use mathlib.Core.Bool.{Bool}
use mathlib.Core.List.{◌++◌}
use native.Mathlib.Omega.{arith}
use borrow.Author.Rules.{rules}
use lib.ListN.{get_or, set, drop}
use Rattle.bits.specs.Bits.{low, val}
use Rattle.nrzi.specs.Nrzi.{coding, reached}
use Rattle.nrzi.proofs.Laid.{laid_whole, laid-part}
use Rattle.nrzi.proofs.lay.Goals as goal

pub returns-then-rest-eq0 : goal.returns-then-rest-eq0
returns-then-rest-eq0 g c =
    let a = c.args in
    let e : a.bits ≡ 8 * (a.bits / 8) = omega arith in
    let whole = c.code_whole-start.ensures in
    let laid = laid_whole g.W.Way.back a.level a.input.now a.out.now a.bits (a.bits / 8) (λ i. search rules) e (omega arith) (omega arith) in
    record { answer = whole.answer ∙ laid.level; bytes = whole.bytes ∙ laid.output }

pub returns : goal.returns
returns g c =
    let a = c.args in
    let back = g.W.Way.back in
    let whole = c.code_whole-start.ensures in
    let last = c.code_last.ensures in
    let mid = c.code_whole-start.new.out in
    let w = a.bits / 8 in
    let r = a.bits % 8 in
    let x = get_or a.input.now w 0 in
    let e : a.bits ≡ 8 * (a.bits / 8) + a.bits % 8 = omega arith in
    let laid = laid-part back a.level a.input.now a.out.now a.bits w (λ i. search rules) r e (omega arith) (omega arith) (omega arith) mid whole.bytes in
    record {
      answer = last.answer ∙ ap (λ (l : Bool). reached back l (low r x)) whole.answer ∙ laid.level;
      bytes =
          ap (λ (y : ℕ). set mid w y) (last.bytes ∙ ap (λ (l : Bool). val (coding back l (low r x) ++ drop r (low 8 (get_or mid w 0)))) whole.answer)
          ∙ laid.output;
    }
