-- `frame::control::decode` meets its contract.
use Rattle.frame.proofs.Tests.{tests}
use Rattle.frame.proofs.Decoding.{by_low_lem}
use Rattle.frame.proofs.control.decode.Goals as goal

pub returns-in_default : goal.returns-in_default
returns-in_default c = search (tests, by_low_lem _ c.ranges.byte.fits)
