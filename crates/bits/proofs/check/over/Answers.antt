-- `bits::check::over` meets its contract.
use Prim.Native.Nat.{ℕ}
use mathlib.Core.Path.{◌∙◌}
use borrow.Author.Rules.{rules}
use Rattle.std.proofs.lemmas.Iterator.Consumers.{fold_from_yields_List}
use Rattle.std.proofs.lemmas.Iterator.{YieldsList-from_slice}
use Rattle.bits.specs.Bits.{low}
use Rattle.bits.specs.Check.{register}
use Rattle.bits.proofs.Checking.{register-fold}
use Rattle.bits.proofs.check.over.Goals as goal

pub returns : goal.returns
returns c =
    fold_from_yields_List _ (λ (r x : ℕ). register r (low 8 x)) c.args.start _ c.fold.ensures.ran (YieldsList-from_slice c.args.bytes.now cc) (λ a x b q k. search rules)
    ∙ register-fold c.args.start c.args.bytes.now
