-- `writer::content::Content::lay_inside` meets its contract.
use mathlib.Core.List.{◌++◌}
use Rattle.bits.specs.Bits.{bits_of}
use Rattle.writer.proofs.Laying.{laying_three, ready_three, ready_first, ready_second}
use Rattle.writer.proofs.content.Content.lay_inside.Goals as goal

pub add-requires : goal.add-requires
add-requires c =
    let a = c.args.self.now in
    ready_first (bits_of a.information.now ++ bits_of a.check) (ready_three a.head a.information.now a.check c.requires)

pub add-requires-2 : goal.add-requires-2
add-requires-2 c =
    let a = c.args.self.now in
    ready_first (bits_of a.check)
    (ready_second (bits_of a.head) (bits_of a.information.now ++ bits_of a.check) (ready_three a.head a.information.now a.check c.requires) c.add.ensures)

pub add-requires-3 : goal.add-requires-3
add-requires-3 c =
    let a = c.args.self.now in
    ready_second (bits_of a.information.now) (bits_of a.check)
    (ready_second (bits_of a.head) (bits_of a.information.now ++ bits_of a.check) (ready_three a.head a.information.now a.check c.requires) c.add.ensures)
    c.add-2.ensures

pub returns : goal.returns
returns c =
    let a = c.args.self.now in
    laying_three a.head a.information.now a.check c.add.ensures c.add-2.ensures c.add-3.ensures
