-- `bits::check::check_word_of` meets its contract.
use Prim.Native.Nat.{ℕ, ◌-◌}
use mathlib.Core.Path.{◌∙◌, ap, sym}
use Rattle.bits.specs.Bits.{bits_of}
use Rattle.bits.specs.Check.{register, check_word}
use Rattle.bits.proofs.BitLaws.{bits_of_append}
use Rattle.bits.proofs.Checking.{register-append}
use Rattle.bits.proofs.check.check_word_of.Goals as goal

pub returns : goal.returns
unfolding check_word
returns c =
    let a = c.args in
    let first = a.first.now in
    let second = a.second.now in
    ap (λ (r : ℕ). 0xffff - r)
    (c.over-2.ensures ∙ ap (λ (r : ℕ). register r (bits_of second)) c.over.ensures
    ∙ sym (register-append 0xffff (bits_of first) (bits_of second)) ∙ ap (register 0xffff) (sym (bits_of_append first second)))
