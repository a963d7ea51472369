-- What is promised of the writer beside its contract. The proofs stand in proofs/Writing and proofs/Lining.
use Rattle.std.specs.Prelude.{ℕ, ◌+◌, ◌*◌, ◌/◌, ◌≤◌, ◌≡◌, Bool, Result, List, [], ◌∷◌, length, take}
use Rattle.frame.specs.Answer.{answer, gives, Lists}
use Rattle.frame.specs.declared.number.Refusal.{Refusal}
use Rattle.frame.specs.declared.Meaning.{Meaning}
use Rattle.bits.specs.Bits.{bits_of}
use Rattle.bits.specs.Packed.{bytes_for, padded, over}
use Rattle.writer.specs.Write.{Report, laid, write_of, write_bytes}

-- "at most the content's bits divided by 5, rounded down. Content has at most 257 bytes, 2,056 bits; so 411 zeros, 2,483 line bits, 311 buffer bytes."
pub record Within (info : List ℕ) (r : Report) : Type 0 where
  pub fifth : r.zeros ≤ 8 * (length info + 4) / 5
  pub bytes : length info + 4 ≤ 257
  pub zeros : r.zeros ≤ 411
  pub bits : r.bits ≤ 2483
  pub buffer : bytes_for r.bits ≤ 311

abbrev pub WriteWithin : Type 0
WriteWithin = (address : ℕ) (m : Meaning) (info : List ℕ) (room : ℕ) (r : Report) → write_of address m info room ≡ gives r → Within info r

-- the bits of a lent buffer that has room are then those laid, ones up to a whole byte, and its own behind them
abbrev pub LaidBits : Type 0
LaidBits =
    (bits : List Bool) (old : List ℕ) → bytes_for (length bits) ≤ length old
    → (bits_of (laid bits old) ≡ over (padded bits) (bits_of old)) × (take (length bits) (bits_of (laid bits old)) ≡ bits)

-- "A number outside a call's list is not given by that call."
abbrev pub WriteNumbers : Type 0
WriteNumbers = (address : ℕ) (m : Meaning) (info : List ℕ) (room : ℕ) → Lists (8 ∷ 9 ∷ 10 ∷ 12 ∷ 11 ∷ []) (write_of address m info room)

-- the definition that lists the number and the values of each answer loses nothing
abbrev pub WriteLosesNothing : Type 0
WriteLosesNothing = (a b : Result Report Refusal) → answer a ≡ answer b → a ≡ b

-- an outcome that the writer's contract allows: the answer, and the lent buffer afterwards
pub record WriteAllowed (address : ℕ) (m : Meaning) (info old : List ℕ) (a : Result Report Refusal) (after : List ℕ) : Type 0 where
  pub answer : answer a ≡ write_of address m info (length old)
  pub bytes : after ≡ write_bytes address m info old
