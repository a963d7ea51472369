-- `bits::check::check_word` meets its contract.
use Prim.Native.Nat.{ℕ, ◌-◌}
use mathlib.Core.Path.{ap}
use Rattle.bits.specs.Check.{check_word}
use Rattle.bits.proofs.check.check_word.Goals as goal

pub returns : goal.returns
unfolding check_word
returns c = ap (λ (r : ℕ). 0xffff - r) c.over.ensures
