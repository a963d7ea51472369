-- `writer::content::Content::lay` meets its contract.
use mathlib.Core.Path.{refl}
use native.Mathlib.Omega.{arith}
use Rattle.bits.proofs.BitLaws.{length-low}
use Rattle.writer.specs.Content.{whole}
use Rattle.writer.specs.Write.{line}
use Rattle.writer.proofs.Filling.{added_on}
use Rattle.writer.proofs.Lining.{length-line, line_few, lined, laid_bytes}
use Rattle.writer.proofs.content.Content.lay.Goals as goal

pub append-requires : goal.append-requires
append-requires c =
    (omega arith, omega arith, omega (arith, c.requires, length-line (whole c.args.self.now)))

pub lay_inside-requires : goal.lay_inside-requires
lay_inside-requires c =
    let one = c.append.ensures in
    record { room = omega (arith, c.requires, length-line (whole c.args.self.now), one.place, one.long, length-low 8 c.from.result) }

pub append-requires-2 : goal.append-requires-2
append-requires-2 c =
    let one = c.append.ensures in
    let two = c.lay_inside.ensures.added in
    (omega arith, omega arith, omega (arith, c.requires, length-line (whole c.args.self.now), one.place, one.long, two.place, two.long, length-low 8 c.from.result))

pub placed-bits-requires : goal.placed-bits-requires
placed-bits-requires c =
    let w = whole c.args.self.now in
    let one = c.append.ensures in
    let two = c.lay_inside.ensures.added in
    let three = c.append-2.ensures in
    grind (arith, length-low, one.place, two.place, three.place, length-line w, line_few w c.args.self.now.few)

pub append-requires-3 : goal.append-requires-3
append-requires-3 c =
    let w = whole c.args.self.now in
    let one = c.append.ensures in
    let two = c.lay_inside.ensures.added in
    let three = c.append-2.ensures in
    (omega arith, omega arith, grind (arith, length-low, c.requires, length-line w, one.place, one.long, two.place, two.long, three.place, three.long))

pub returns-clause-bits : goal.returns-clause-bits
returns-clause-bits c =
    let w = whole c.args.self.now in
    let e = lined w c.from.ensures c.append.ensures c.lay_inside.ensures.added c.from-2.ensures c.append-2.ensures in
    omega (arith, e.place, c.placed-bits.ensures)

pub returns-clause-bytes : goal.returns-clause-bytes
returns-clause-bytes c =
    let w = whole c.args.self.now in
    let e = lined w c.from.ensures c.append.ensures c.lay_inside.ensures.added c.from-2.ensures c.append-2.ensures in
    laid_bytes (line w) (refl, (refl, refl)) (added_on e c.append-3.ensures) (λ i. (c.type_inv.out i).fits) c.requires
