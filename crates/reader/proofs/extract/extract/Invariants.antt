-- `reader::extract::extract` meets its contract. The invariant: the kept bits of the part before the place stand in the bytes and in the window.
use Rattle.bits.specs.Bits.{bits_of}
use Rattle.reader.specs.Flags.{part}
use Rattle.reader.proofs.Keeping.{Keep}
use Rattle.reader.proofs.extract.extract.Given as goal

abbrev pub invariant-loop-place : goal.invariant-loop-place
invariant-loop-place l = Keep (part l.fn.content.start l.place (bits_of l.buffer)) l.bytes l.bits l.window l.run
