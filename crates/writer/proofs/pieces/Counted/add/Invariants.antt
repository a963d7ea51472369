-- `writer::pieces::Counted::add` meets its contract. The loop's invariant: the bytes passed are counted.
use lib.ListN.{take}
use Rattle.bits.specs.Bits.{bits_of}
use Rattle.writer.specs.Stuff.{Tallied}
use Rattle.writer.proofs.pieces.Counted.add.Given as goal

abbrev pub invariant-loop-byte : goal.invariant-loop-byte
invariant-loop-byte l = Tallied l.fn.self (bits_of (take l.byte-index l.bytes)) l.self
