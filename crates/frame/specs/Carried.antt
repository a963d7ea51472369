-- What a frame carries (01, "Bits between flags"): "address, control, information", the control byte by its meaning.
use Rattle.std.specs.Prelude.{ℕ, List}
use Rattle.frame.specs.declared.Meaning.{Meaning}

pub record Carried : Type 0 where
  pub address : ℕ
  pub meaning : Meaning
  pub information : List ℕ
