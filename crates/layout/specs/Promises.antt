-- What is promised of this room beside each function's contract. The proofs stand in proofs/ReadBack, Every and Crossing.
use Rattle.std.specs.Prelude.{ℕ, ◌<◌, ◌^◌, ◌≡◌, ◌⊎◌, List, length}
use Rattle.frame.specs.Bytes.{Bytes}
use Rattle.side.specs.Side.{Arrays}
use Rattle.frame.specs.Answer.{gives, refuses}
use Rattle.frame.specs.Control.{decode_of}
use Rattle.frame.specs.Refusal.{frame_refusal}
use Rattle.frame.specs.declared.Meaning.{Meaning}
use Rattle.side.specs.declared.Side.{Side}
use Rattle.slave.specs.declared.Slave.{Slave}
use Rattle.master.specs.declared.Master.{Master}
use Rattle.layout.specs.Control.{meaning_of, control_of}
use Rattle.layout.specs.SlaveLayout.{slave_at, slave_bytes, slave_wrong}
use Rattle.layout.specs.MasterLayout.{master_at, master_bytes, master_wrong}

-- what the code's types say of a side: arrays of 253 bytes, and sizes of eight bytes
pub record Typed (s : Side) : Type 0 where
  pub arrays : Arrays s
  pub holds : s.holds < 2 ^ 64
  pub waits : s.waits < 2 ^ 64

-- reading back what was written gives the same end, for every end, right or not
pub record ReadBack : Type 0 where
  pub slave : (s : Slave) → Typed s.side → (slave_wrong (slave_bytes s) ≡ 0) × (slave_at (slave_bytes s) ≡ s)
  pub master : (m : Master) → Typed m.side → m.tick < 2 ^ 32 → m.limit < 2 ^ 32 → (master_wrong (master_bytes m) ≡ 0) × (master_at (master_bytes m) ≡ m)

-- every byte string of the size is refused by 30, or is an end, and then the bytes of that end
pub record Every : Type 0 where
  pub slave : (b : List ℕ) → length b ≡ 528 → Bytes b → (slave_wrong b ≡ 30) ⊎ ((slave_wrong b ≡ 0) × (slave_bytes (slave_at b) ≡ b))
  pub master : (b : List ℕ) → length b ≡ 538 → Bytes b → (master_wrong b ≡ 30) ⊎ ((master_wrong b ≡ 0) × (master_bytes (master_at b) ≡ b))

-- a byte of the table stands for its meaning, and that meaning for the byte; any other is refused by 9 at 9's place
pub record Crossing : Type 0 where
  pub known : (b : ℕ) (m : Meaning) → decode_of b ≡ gives m → (meaning_of b ≡ m) × (control_of m ≡ b)
  pub unknown : (b : ℕ) (information : List ℕ) → decode_of b ≡ refuses 9 → frame_refusal (meaning_of b) information ≡ 9
