-- Texts as bytes.
use Rattle.std.specs.Prelude.{ℕ, List, [], ◌∷◌}
use Prim.Native.Char.{code}
use Prim.Native.String.{String, [] as none, ◌∷◌ as ◌and◌}

-- the characters' numbers, which for ASCII are its bytes
abbrev pub ascii : String → List ℕ
ascii none = []
ascii (c and s) = code c ∷ ascii s
