-- Zero insertion and removal (01, "Bits between flags"): "After each five ones in a row in the content a zero is inserted, also after the last five."
use Rattle.std.specs.Prelude.{ℕ, ◌+◌, Bool, true, false, List, [], ◌∷◌, ◌++◌, eqb}
use Rattle.frame.specs.Pick.{pick}
use Rattle.bits.specs.Bits.{num}

-- the bit is the fifth one in a row, after a run of r ones (0 to 4)
abbrev pub fifth : ℕ → Bool → Bool
fifth r false = false
fifth r true = eqb r 4

-- what goes out for a bit after a run of r ones
abbrev pub sent : ℕ → Bool → List Bool
sent r b = b ∷ pick (fifth r b) (false ∷ []) []

-- the run of ones after the bit
abbrev pub after : ℕ → Bool → ℕ
after r false = 0
after r true = pick (eqb r 4) 0 (r + 1)

-- the bits with their inserted zeros, after a run of r ones
unfoldable pub insert : ℕ → List Bool → List Bool
insert r [] = []
insert r (b ∷ bs) = sent r b ++ insert (after r b) bs

-- how many zeros are inserted
unfoldable pub zeros : ℕ → List Bool → ℕ
zeros r [] = 0
zeros r (b ∷ bs) = num (fifth r b) + zeros (after r b) bs

-- the run of ones after the bits
unfoldable pub trail : ℕ → List Bool → ℕ
trail r [] = r
trail r (b ∷ bs) = trail (after r b) bs

-- what is kept of a bit that follows a run of r ones (0 to 5): a bit after five ones is the inserted zero
abbrev pub kept : ℕ → Bool → List Bool
kept r b = pick (eqb r 5) [] (b ∷ [])

-- the run of ones after the bit, when zeros are removed
abbrev pub next : ℕ → Bool → ℕ
next r b = pick (eqb r 5) 0 (pick b (r + 1) 0)

-- the bits without their inserted zeros
unfoldable pub remove : ℕ → List Bool → List Bool
remove r [] = []
remove r (b ∷ bs) = kept r b ++ remove (next r b) bs

-- the run of ones at the end, when zeros are removed
unfoldable pub ending : ℕ → List Bool → ℕ
ending r [] = r
ending r (b ∷ bs) = ending (next r b) bs
