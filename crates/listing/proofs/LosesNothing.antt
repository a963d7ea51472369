-- The definition that lists an answer's number and values loses nothing.
-- Assumes nothing.
use Rattle.frame.proofs.LosesNothing.{answer_one}
use Rattle.listing.specs.Promises.{LosesNothing}

pub loses_nothing : LosesNothing
loses_nothing = answer_one
