-- Which content is read (01, "Bits between flags", "Reading"): defined by the places in the bits where flags stand.
use Rattle.std.specs.Prelude.{ℕ, suc, ◌+◌, ◌-◌, Bool, true, false, not, ◌&&◌, List, [], ◌∷◌, ◌++◌, take, drop, replicate}
use Rattle.std.specs.Bool.{beq}
use Rattle.frame.specs.Pick.{pick}
use Rattle.bits.specs.Flag.{flag}

-- the bits begin with these
unfoldable pub starts : List Bool → List Bool → Bool
starts [] bs = true
starts (x ∷ xs) [] = false
starts (x ∷ xs) (b ∷ bs) = beq x b && starts xs bs

-- every place where a flag stands, in order; the first of the bits is at place i
unfoldable pub flags : ℕ → List Bool → List ℕ
flags i [] = []
flags i (b ∷ bs) = pick (starts flag (b ∷ bs)) (i ∷ []) [] ++ flags (suc i) bs

-- the bits from place s up to place e
abbrev pub part : ℕ → ℕ → List Bool → List Bool
part s e l = take (e - s) (drop s l)

-- the content between the flag at p and the flag at q: none where they "follow each other" or "share their zero"
abbrev pub between : List Bool → ℕ → ℕ → List Bool
between l p q = part (p + 8) q l

-- "seven ones in a row"
unfoldable pub seven : List Bool → Bool
seven [] = false
seven (b ∷ bs) = pick (starts (replicate 7 true) (b ∷ bs)) true (seven bs)

-- "empty content between them is skipped", and "content with seven ones in a row never counts"
abbrev pub counts : List Bool → Bool
counts [] = false
counts (b ∷ bs) = not (seven (b ∷ bs))

-- what is found: nothing, or a content and the place of its first bit
pub data Heard : Type 0 where
  nothing : Heard
  content : ℕ → List Bool → Heard

-- "The first non-empty content alone is judged": the first that counts, between neighbours among the flags
unfoldable pub first : List Bool → List ℕ → Heard
first l [] = nothing
first l (p ∷ []) = nothing
first l (p ∷ q ∷ ps) = pick (counts (between l p q)) (content (p + 8) (between l p q)) (first l (q ∷ ps))

-- what is found in the bits
unfoldable pub heard : List Bool → Heard
heard l = first l (flags 0 l)
