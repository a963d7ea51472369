-- `nrzi::code_whole` meets its contract: the bytes passed are coded.
use mathlib.Core.Path.{◌≡◌}
use mathlib.Core.List.{◌++◌}
use lib.ListN.{take, drop}
use Rattle.bits.specs.Bits.{bits_of, bytes_of}
use Rattle.nrzi.specs.Nrzi.{coding, reached}
use Rattle.nrzi.proofs.code_whole.Given as goal

abbrev pub invariant-loop-i : goal.invariant-loop-i
invariant-loop-i g l =
    let bits = bits_of (take l.i l.input) in
    record {
      level : l.at ≡ reached g.W.Way.back l.level bits;
      bytes : l.out ≡ bytes_of l.i (coding g.W.Way.back l.level bits) ++ drop l.i l.fn.out;
    }
