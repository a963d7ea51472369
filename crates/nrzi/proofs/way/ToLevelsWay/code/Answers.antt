-- `nrzi::way::ToLevelsWay::code` meets its contract.
use mathlib.Core.Bool.{true, false}
use Rattle.nrzi.proofs.Levels.{levels_byte_lem, levels_end}
use Rattle.nrzi.proofs.way.ToLevelsWay.code.Goals as goal

pub returns-then-level : goal.returns-then-level
returns-then-level c = let x = c.ranges.x.fits in rw c.if-level.true (record { byte = levels_byte_lem true _ x; levels = levels_end true _ x })

pub returns-else-level : goal.returns-else-level
returns-else-level c = let x = c.ranges.x.fits in rw c.if-level.false (record { byte = levels_byte_lem false _ x; levels = levels_end false _ x })
