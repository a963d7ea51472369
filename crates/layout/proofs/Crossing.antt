-- A byte of the table stands for its meaning; any other is refused by 9 at 9's place.
-- Assumes nothing.
use Prim.Native.Nat.{ℕ}
use mathlib.Core.Path.{◌≡◌}
use mathlib.Core.List.{List}
use Rattle.frame.specs.Answer.{gives, refuses}
use Rattle.frame.specs.Control.{decode_of, counts_refusal}
use Rattle.frame.specs.Refusal.{frame_refusal}
use Rattle.frame.specs.declared.Meaning.{Meaning}
use Rattle.frame.proofs.ControlBytes.{round_trip}
use Rattle.layout.specs.Control.{meaning_of, control_of}
use Rattle.layout.specs.Promises.{Crossing}

known : (b : ℕ) (m : Meaning) → decode_of b ≡ gives m → (meaning_of b ≡ m) × (control_of m ≡ b)
unfolding meaning_of control_of
known b m e = (rw e, rw (round_trip.1 b m e))

unknown : (b : ℕ) (information : List ℕ) → decode_of b ≡ refuses 9 → frame_refusal (meaning_of b) information ≡ 9
unfolding meaning_of frame_refusal counts_refusal
unknown b information e = rw e

pub crossing : Crossing
crossing = record { known = known; unknown = unknown }
