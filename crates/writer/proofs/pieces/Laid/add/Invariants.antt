-- `writer::pieces::Laid::add` meets its contract. The loop's invariant: the bytes passed are laid.
use lib.ListN.{take}
use Rattle.bits.specs.Bits.{bits_of}
use Rattle.writer.specs.Stuff.{Laying}
use Rattle.writer.proofs.pieces.Laid.add.Given as goal

abbrev pub invariant-loop-byte : goal.invariant-loop-byte
invariant-loop-byte l = Laying l.fn.out l.fn.self (bits_of (take l.byte-index l.bytes)) l.out l.self
