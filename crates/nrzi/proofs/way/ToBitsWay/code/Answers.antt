-- `nrzi::way::ToBitsWay::code` meets its contract.
use Rattle.nrzi.proofs.Levels.{bits_byte_lem, end_of_levels}
use Rattle.nrzi.proofs.way.ToBitsWay.code.Goals as goal

pub returns-clause-byte : goal.returns-clause-byte
returns-clause-byte c = rw c.from.ensures (bits_byte_lem c.args.level c.args.x c.ranges.x.fits)

pub returns-clause-levels : goal.returns-clause-levels
returns-clause-levels c = λ n h g. end_of_levels c.args.level n c.args.x h
