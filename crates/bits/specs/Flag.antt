-- The flag (01, "Bits between flags"), which the writer sends and the reader seeks.
use Rattle.std.specs.Prelude.{Bool, true, false, List, [], ◌∷◌}

-- "A flag is 0, six ones, 0."
abbrev pub flag : List Bool
flag = false ∷ true ∷ true ∷ true ∷ true ∷ true ∷ true ∷ false ∷ []
