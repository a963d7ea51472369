-- The table read backwards is what the low bits decide, at each of the 256 bytes.
-- Assumes nothing.
use Prim.Native.Nat.{ℕ, ◌<◌, ◌/◌, ◌%◌}
use mathlib.Core.Path.{◌≡◌, refl}
use lib.Dec.{eqb, ltb}
use Rattle.frame.specs.Pick.{pick}
use Rattle.frame.specs.Answer.{Answer, gives, refuses}
use Rattle.frame.specs.Control.{known, byte_of, decode_of}
use Rattle.frame.specs.declared.ReceiveCount.{ReceiveCount}
use Rattle.frame.specs.declared.Meaning.{Meaning}
use Rattle.frame.specs.declared.Meaning.TheVariants.{I, Rr, Rnr, Snrm, Disc, Ua, Frmr}
use Rattle.frame.proofs.Computed.{values, agree}

abbrev high : ℕ → ReceiveCount
high b = record { 0 = b / 32 }

-- what the code decides, function by function
abbrev pub by_whole : ℕ → Answer Meaning
by_whole b =
    pick (eqb b 0x93) (gives Snrm)
    (pick (eqb b 0x53) (gives Disc)
    (pick (eqb b 0x73) (gives Ua)
    (pick (eqb b 0x97) (gives Frmr)
    (refuses 9))))

abbrev pub by_odd : ℕ → Answer Meaning
by_odd b = pick (eqb (b % 32) 17) (gives (Rr (high b))) (pick (eqb (b % 32) 21) (gives (Rnr (high b))) (by_whole b))

abbrev pub by_low : ℕ → Answer Meaning
by_low b =
    pick (eqb (b % 2) 1) (by_odd b)
    (pick (ltb (b % 32) 16) (refuses 9)
    (gives (I (record { 0 = b % 32 / 2 % 8 }) (high b))))

same : values decode_of 256 ≡ values by_low 256
unfolding decode_of known byte_of
same = refl

pub by_low_lem : (b : ℕ) → b < 256 → decode_of b ≡ by_low b
by_low_lem = agree decode_of by_low 256 same
