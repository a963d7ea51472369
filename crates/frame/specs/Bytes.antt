-- Numbers that are bytes: of a slice of bytes the code's type says so, of a list of numbers this does.
use Rattle.std.specs.Prelude.{ℕ, ◌<◌, List, get_or}

-- each element is a byte
abbrev pub Bytes : List ℕ → Type 0
Bytes x = (i : ℕ) → get_or x i 0 < 256
