-- `writer::pieces::Laid::add_byte` meets its contract.
use Prim.Native.Nat.{ℕ, ◌≤◌}
use mathlib.Core.Path.{sym, subst}
use native.Mathlib.Omega.{arith}
use Rattle.writer.proofs.Laying.{laying_byte}
use Rattle.writer.proofs.Stuffing.{byte_few, stuffed_small}
use Rattle.writer.proofs.pieces.Laid.add_byte.Goals as goal

pub append-requires : goal.append-requires
append-requires c =
    let s = c.new-stuffed in
    let few = byte_few c.args.self.now.run c.args.byte in
    (subst (λ (n : ℕ). n ≤ 10) (sym s.ensures.count) few, stuffed_small s.ensures, let r = c.requires.room in let e = s.ensures.count in omega arith)

pub returns : goal.returns
returns c = laying_byte c.new-stuffed.ensures c.append.ensures
