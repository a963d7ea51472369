-- Writing bits into a lent buffer: what the private functions of the packed sink and of the line promise each other.
use Rattle.std.specs.Prelude.{ℕ, ◌+◌, ◌*◌, ◌/◌, ◌≤◌, ◌≡◌, Bool, List, ◌++◌, length, take, drop}
use Rattle.bits.specs.Bits.{low, bits_of}
use Rattle.writer.specs.declared.packed.Sink.{Sink}

-- the bits written so far: those of the whole bytes stored, and those that still wait for a whole byte
unfoldable pub sofar : List ℕ → Sink → List Bool
sofar out s = bits_of (take s.at out) ++ low s.waits s.acc

-- how many they are
abbrev pub placed : Sink → ℕ
placed s = 8 * s.at + s.waits

-- whole bytes of n more bits have room
abbrev pub Room : List ℕ → Sink → ℕ → Type 0
Room out s n = (placed s + n) / 8 ≤ length out

-- more bits stand behind those so far, and no byte after them was touched
pub record Added (out : List ℕ) (s : Sink) (more : List Bool) (out' : List ℕ) (s' : Sink) : Type 0 where
  pub bits : sofar out' s' ≡ sofar out s ++ more
  pub rest : drop s'.at out' ≡ drop s'.at out
  pub long : length out' ≡ length out
  pub place : placed s' ≡ placed s + length more
