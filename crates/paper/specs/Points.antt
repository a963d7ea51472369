-- P1 to P12 (01, "On both sides of the line") as one table: each point is computed from the definitions that the contracts cite.
use Rattle.std.specs.Prelude.{ℕ, ◌≡◌, Bool, true, false, List, [], ◌∷◌, map, eqb, length}
use Rattle.frame.specs.Answer.{gives, refuses}
use Rattle.frame.specs.Control.{encode_of, decode_of}
use Rattle.frame.specs.declared.SendCount.{SendCount}
use Rattle.frame.specs.declared.ReceiveCount.{ReceiveCount}
use Rattle.frame.specs.declared.Meaning.TheVariants.{I, Rr, Rnr}
use Rattle.bits.specs.Bits.{bits_of}
use Rattle.bits.specs.Insert.{insert}
use Rattle.bits.specs.Flag.{flag}
use Rattle.nrzi.specs.Nrzi.{coding}
use Rattle.side.specs.Rule.{ack, seen}
use Rattle.side.specs.declared.Side.{Side}
use Rattle.side.specs.declared.rule.Ack.TheVariants.{ConfirmsNothing, Confirms, Astray}
use Rattle.side.specs.declared.rule.Seen.TheVariants.{New, Duplicate, Strange}
use Rattle.master.specs.Response.{age_of}

-- bits written as digits
abbrev pub digits : List ℕ → List Bool
digits ds = map (λ (d : ℕ). eqb d 1) ds

-- what goes out between the flags for bytes
abbrev pub becomes : List ℕ → List Bool
becomes bytes = insert 0 (bits_of bytes)

-- the counts that are these numbers
abbrev pub ns : ℕ → SendCount
ns n = record { 0 = n }

abbrev pub nr : ℕ → ReceiveCount
nr n = record { 0 = n }

pub record Points : Type 0 where
  -- P1: "byte FF becomes 111110111"
  pub p1 : becomes (0xFF ∷ []) ≡ digits (1 ∷ 1 ∷ 1 ∷ 1 ∷ 1 ∷ 0 ∷ 1 ∷ 1 ∷ 1 ∷ [])
  -- P2: "FF FF becomes 19 bits"
  pub p2 : length (becomes (0xFF ∷ 0xFF ∷ [])) ≡ 19
  -- P3: "F8 becomes 000111110"
  pub p3 : becomes (0xF8 ∷ []) ≡ digits (0 ∷ 0 ∷ 0 ∷ 1 ∷ 1 ∷ 1 ∷ 1 ∷ 1 ∷ 0 ∷ [])
  -- P4: "7E becomes 011111010"
  pub p4 : becomes (0x7E ∷ []) ≡ digits (0 ∷ 1 ∷ 1 ∷ 1 ∷ 1 ∷ 1 ∷ 0 ∷ 1 ∷ 0 ∷ [])
  -- P5: "I, Ns 3, Nr 5 is B6 hex"
  pub p5 : encode_of (I (ns 3) (nr 5)) ≡ gives 0xB6
  -- P6: "RR 7 is F1"
  pub p6 : encode_of (Rr (nr 7)) ≡ gives 0xF1
  -- P7: "RNR 2 is 55"
  pub p7 : encode_of (Rnr (nr 2)) ≡ gives 0x55
  -- P8: "83, 19 and 33 hex are refused 9"
  pub p8 : (decode_of 0x83 ≡ refuses 9) × (decode_of 0x19 ≡ refuses 9) × (decode_of 0x33 ≡ refuses 9)
  -- P9: "own Nr 0: Ns 0 is new, 7 a duplicate, 1 to 6 irrecoverable"
  pub p9 :
      (s : Side) → s.nr.0 ≡ 0
      → (seen s (ns 0) ≡ New)
      × (seen s (ns 7) ≡ Duplicate)
      × (seen s (ns 1) ≡ Strange) × (seen s (ns 2) ≡ Strange) × (seen s (ns 3) ≡ Strange)
      × (seen s (ns 4) ≡ Strange) × (seen s (ns 5) ≡ Strange) × (seen s (ns 6) ≡ Strange)
  -- P10: "own Ns 7: Nr 7 confirms nothing, 0 confirms, 1 to 6 irrecoverable"
  pub p10 :
      (s : Side) → s.ns.0 ≡ 7
      → (ack s (nr 7) ≡ ConfirmsNothing)
      × (ack s (nr 0) ≡ Confirms)
      × (ack s (nr 1) ≡ Astray) × (ack s (nr 2) ≡ Astray) × (ack s (nr 3) ≡ Astray)
      × (ack s (nr 4) ≡ Astray) × (ack s (nr 5) ≡ Astray) × (ack s (nr 6) ≡ Astray)
  -- P11: "tick now 3, order at 4,294,967,290: age 9"
  pub p11 : age_of 3 4294967290 ≡ 9
  -- P12: "NRZI from level 1, a flag gives 0 seven times, then 1"
  pub p12 : coding false true flag ≡ digits (0 ∷ 0 ∷ 0 ∷ 0 ∷ 0 ∷ 0 ∷ 0 ∷ 1 ∷ [])
