-- `reader::seek::find` meets its contract. The invariant: the window holds the last eight bits, and what is known of flags before the place.
use lib.ListN.{take}
use Rattle.bits.specs.Bits.{bits_of}
use Rattle.reader.proofs.Seeking.{Seek}
use Rattle.reader.proofs.seek.find.Given as goal

abbrev pub invariant-loop-place : goal.invariant-loop-place
invariant-loop-place l = Seek (take l.bits (bits_of l.buffer)) l.place l.window l.start
