-- What the search for the content does at one bit, by the byte of the last eight bits; its contracts are private to the reader.
use Rattle.std.specs.Prelude.{ℕ, ◌-◌, ◌≤◌, List, Bool, Option, Some, None, eqb, ltb}
use Rattle.std.specs.declared.ops.Range.{Range}
use Rattle.frame.specs.Pick.{pick}
use Rattle.reader.specs.Flags.{part, Heard, nothing, content}

-- the content that ends, where a flag ends at place i and closes bits after the flag that ended at s
abbrev pub closed_at : ℕ → Option ℕ → ℕ → Option (Range ℕ)
closed_at window None i = None
closed_at window (Some s) i = pick (eqb window 0x7E) (pick (ltb 8 (i - s)) (Some (record { start = s; end = i - 8 })) None) None

-- the place after the flag that is open: a flag opens, seven ones drop it
abbrev pub opened_at : ℕ → Option ℕ → ℕ → Option ℕ
opened_at window s i = pick (eqb window 0x7E) (Some i) (pick (ltb window 0xFE) s None)

-- what was located in the bits
abbrev pub located_in : List Bool → Option (Range ℕ) → Heard
located_in l None = nothing
located_in l (Some r) = content r.start (part r.start r.end l)

-- it stands within n bits
abbrev pub LocatedWithin : ℕ → Option (Range ℕ) → Type 0
LocatedWithin n None = Unit {0}
LocatedWithin n (Some r) = (r.start ≤ r.end) × (r.end ≤ n)
