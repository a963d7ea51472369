-- `nrzi::code_last` meets its contract.
use Prim.Native.Nat.{ℕ, ◌/◌, ◌%◌, ◌^◌, ◌*◌, ◌+◌}
use mathlib.Core.Path.{◌∙◌, ap}
use borrow.Author.Rules.{rules}
use Rattle.nrzi.proofs.Levels.{blended}
use Rattle.nrzi.proofs.code_last.Goals as goal

pub returns-clause-bytes : goal.returns-clause-bytes
returns-clause-bytes g c =
    let a = c.args in
    let p = c.requires in
    c.blend.ensures ∙ ap (λ (y : ℕ). a.last.now / 2 ^ a.rest * 2 ^ a.rest + y % 2 ^ a.rest) c.code-piece.ensures.byte
    ∙ blended g.W.Way.back a.level a.x a.last.now a.rest p.1 (search rules)
