-- `writer::write` meets its contract: what is left beside the tests is what was laid.
use mathlib.Core.Path.{◌∙◌, ap, refl, sym}
use native.Mathlib.Omega.{arith}
use Rattle.frame.specs.Answer.{gives}
use Rattle.frame.proofs.Messages.{information_few}
use Rattle.writer.proofs.Answering.{enough, reported, written}
use Rattle.writer.proofs.write.Goals as goal

pub new-content-requires : goal.new-content-requires
new-content-requires c = information_few c.args.meaning c.args.information.now (sym c.in_ok-information_refusal.ensures)

pub overflow_mul-plain : goal.overflow_mul-plain
overflow_mul-plain c = omega (arith, information_few c.args.meaning c.args.information.now (sym c.in_ok-information_refusal.ensures))

pub overflow_sub-zeros : goal.overflow_sub-zeros
overflow_sub-zeros c = enough c.args.address c.in_ok-control.control c.args.information.now c.new-content.ensures c.lay-bits.ensures.bits

pub returns-clause-answer : goal.returns-clause-answer
returns-clause-answer c =
    let a = c.args in
    ap gives (reported a.address c.in_ok-control.control a.information.now c.new-content.ensures c.lay-bits.ensures.bits _ refl)
    ∙ sym (written a.address c.in_ok-control.control a.information.now a.meaning _ (sym c.in_ok-address_refusal.ensures) (sym c.in_ok-control.ensures) (sym c.in_ok-information_refusal.ensures)
    (rw c.new-content.ensures at (sym c.in_ok-room_refusal.ensures)))
