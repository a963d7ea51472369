-- `writer::content::Content::line_bits` meets its contract.
use native.Mathlib.Omega.{arith}
use Rattle.writer.proofs.Laying.{piece_few, length_three, tallied_three}
use Rattle.writer.proofs.Lining.{length-line, line_few}
use Rattle.writer.specs.Content.{whole}
use Rattle.writer.proofs.content.Content.line_bits.Goals as goal

pub add-requires : goal.add-requires
add-requires c =
    let a = c.args.self.now in
    omega (arith, piece_few 0 (omega arith) a.head, length_three a.head a.information.now a.check, a.few)

pub add-requires-2 : goal.add-requires-2
add-requires-2 c =
    let a = c.args.self.now in
    let first = c.add.ensures in
    let head = piece_few 0 (omega arith) a.head in
    let information = piece_few _ c.add.new.self.run.few a.information.now in
    omega (arith, first.bits, head, information, length_three a.head a.information.now a.check, a.few)

pub add-requires-3 : goal.add-requires-3
add-requires-3 c =
    let a = c.args.self.now in
    let first = c.add.ensures in
    let second = c.add-2.ensures in
    let head = piece_few 0 (omega arith) a.head in
    let information = piece_few _ c.add.new.self.run.few a.information.now in
    let check = piece_few _ c.add-2.new.self.run.few a.check in
    omega (arith, first.bits, second.bits, head, information, check, length_three a.head a.information.now a.check, a.few)

pub overflow_add-result : goal.overflow_add-result
overflow_add-result c =
    let a = c.args.self.now in
    let e = (tallied_three a.head a.information.now a.check c.add.ensures c.add-2.ensures c.add-3.ensures).bits in
    omega (arith, e, length-line (whole a), line_few (whole a) a.few)

pub returns : goal.returns
returns c =
    let a = c.args.self.now in
    let e = (tallied_three a.head a.information.now a.check c.add.ensures c.add-2.ensures c.add-3.ensures).bits in
    omega (arith, e, length-line (whole a))
