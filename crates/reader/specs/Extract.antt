-- What the removal of inserted zeros leaves in a byte buffer; the contract is private to the reader.
use Rattle.std.specs.Prelude.{ℕ, ◌+◌, ◌/◌, ◌≡◌, Bool, List, eqb, length, take}
use Rattle.frame.specs.Pick.{pick}
use Rattle.bits.specs.Bits.{bytes_of}
use Rattle.bits.specs.Insert.{remove, ending}

-- the run of ones after a bit that is kept
abbrev pub run_after : ℕ → ℕ → ℕ
run_after run b = pick (eqb b 1) (run + 1) 0

-- how many bits were kept, the run of ones at the end, and the whole bytes that the kept bits fill
pub record Removed (c : List Bool) (bytes : List ℕ) (bits run : ℕ) : Type 0 where
  pub count : bits ≡ length (remove 0 c)
  pub last : run ≡ ending 0 c
  pub whole : take (bits / 8) bytes ≡ bytes_of (bits / 8) (remove 0 c)
