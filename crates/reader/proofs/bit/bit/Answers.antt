-- `reader::bit::bit` meets its contract.
use mathlib.Core.Path.{◌∙◌, sym, ap}
use mathlib.Core.Bool.{true}
use Rattle.bits.specs.Bits.{num}
use Rattle.bits.proofs.BitLaws.{num-odd}
use Rattle.reader.proofs.BitAt.{bit_at}
use Rattle.reader.proofs.bit.bit.Goals as goal

pub returns : goal.returns
returns c = let a = c.args in sym (ap num (bit_at a.buffer.now a.place true c.requires) ∙ num-odd _)
