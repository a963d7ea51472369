-- The same said of places alone, with no machine: what it is to be the first content that counts.
use Rattle.std.specs.Prelude.{ℕ, ◌+◌, ◌<◌, ◌≡◌, Bool, true, List, [], take, drop, replicate}
use Rattle.bits.specs.Flag.{flag}
use Rattle.reader.specs.Flags.{between, Heard, nothing, content, heard}

-- a flag stands at place p: the eight bits from there on are a flag's
abbrev pub Flag : List Bool → ℕ → Type 0
Flag l p = take 8 (drop p l) ≡ flag

-- flags stand at p and at q, and at no place between the two
pub record Neighbours (l : List Bool) (p q : ℕ) : Type 0 where
  pub earlier : Flag l p
  pub later : Flag l q
  pub order : p < q
  pub alone : (k : ℕ) → p < k → k < q → Flag l k → ⊥

-- seven ones stand in a row somewhere in the content
abbrev pub Seven : List Bool → Type 0
Seven c = (k : ℕ) × (take 7 (drop k c) ≡ replicate 7 true)

-- the content is not empty and has no seven ones in a row
pub record Counts (c : List Bool) : Type 0 where
  pub some : c ≡ [] → ⊥
  pub short : Seven c → ⊥

-- A content is found at place p + 8: flags stand at p and q and nowhere between, what they enclose counts, and what an earlier flag and its neighbour enclose does not.
-- Nothing is found: no two neighbouring flags enclose a content that counts.
pub data Found (l : List Bool) : Heard → Type 0 where
  one : (p q : ℕ) → Neighbours l p q → Counts (between l p q)
      → ((j k : ℕ) → j < p → Neighbours l j k → Counts (between l j k) → ⊥)
      → Found l (content (p + 8) (between l p q))
  none : ((p q : ℕ) → Neighbours l p q → Counts (between l p q) → ⊥) → Found l nothing

-- What the definition finds is so placed, and nothing else is.
pub record Placed : Type 0 where
  pub found : (l : List Bool) → Found l (heard l)
  pub once : (l : List Bool) (h : Heard) → Found l h → heard l ≡ h
