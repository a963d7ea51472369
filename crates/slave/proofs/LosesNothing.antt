-- The definition that says what a making gives loses nothing.
-- Assumes nothing.
use Rattle.side.proofs.LosesNothing.{loses_nothing as sides}
use Rattle.slave.specs.Slave.{blank}
use Rattle.slave.specs.Promises.{LosesNothing}

pub loses_nothing : LosesNothing
loses_nothing = sides.making _ blank
