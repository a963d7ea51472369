-- `writer::stuff::Stuffed::push` meets its contract.
use Rattle.writer.proofs.Stuffing.{weight, stepped_zero, stepped_fifth, stepped_one}
use Rattle.writer.proofs.stuff.Stuffed.push.Goals as goal

pub returns-then-not-bit : goal.returns-then-not-bit
returns-then-not-bit c = rw c.if-not-bit.true (stepped_zero c.args.self.now)

pub returns-then-self-eq4 : goal.returns-then-self-eq4
returns-then-self-eq4 c = rw (c.if-not-bit.false, weight _ c.requires.0) (stepped_fifth c.args.self.now c.if-self-eq4.true)

pub returns-else-self-eq4 : goal.returns-else-self-eq4
returns-else-self-eq4 c = rw (c.if-not-bit.false, weight _ c.requires.0) (stepped_one c.args.self.now c.if-self-eq4.false)
