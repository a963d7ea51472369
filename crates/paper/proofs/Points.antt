-- P1 to P12 hold, by computation.
-- Assumes nothing.
use mathlib.Core.Path.{refl}
use Rattle.frame.specs.Control.{known, byte_of, counts_refusal, encode_of, decode_of}
use Rattle.bits.specs.Bits.{low, bits_of}
use Rattle.bits.specs.Insert.{insert}
use Rattle.nrzi.specs.Nrzi.{coding}
use Rattle.side.specs.Rule.{ack, seen}
use Rattle.paper.specs.Points.{Points}

pub points : Points
unfolding low bits_of insert encode_of counts_refusal byte_of decode_of known seen ack coding
points =
    record {
      p1 = refl;
      p2 = refl;
      p3 = refl;
      p4 = refl;
      p5 = refl;
      p6 = refl;
      p7 = refl;
      p8 = (refl, refl, refl);
      p9 = λ s e. (rw e, rw e, rw e, rw e, rw e, rw e, rw e, rw e);
      p10 = λ s e. (rw e, rw e, rw e, rw e, rw e, rw e, rw e, rw e);
      p11 = refl;
      p12 = refl;
    }
