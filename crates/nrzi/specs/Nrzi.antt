-- NRZI (01, "Bits between flags"): "a zero changes the level, a one keeps it, from a given starting level. Both ways, as many bits out as in; the other bits of the lent output stay."
use Rattle.std.specs.Prelude.{ℕ, Bool, true, false, not, List, [], ◌∷◌, eqb, ltb, length, take}
use Rattle.frame.specs.Pick.{pick, ◌then◌}
use Rattle.frame.specs.Answer.{Answer, unless}
use Rattle.bits.specs.Bits.{bits_of, bytes_of}
use Rattle.bits.specs.Packed.{bytes_for, over}
use Rattle.bits.specs.Count.{bit_count_refusal}

-- "a zero changes the level, a one keeps it"
abbrev pub level : Bool → Bool → Bool
level l true = l
level l false = not l

-- and back: a one where the level stayed
abbrev pub stayed : Bool → Bool → Bool
stayed true k = k
stayed false k = not k

-- what comes out for what goes in at level l: a level for a bit, or back, a bit for a level
abbrev pub codes : Bool → Bool → Bool → Bool
codes false l b = level l b
codes true l k = stayed l k

-- the level after it
abbrev pub after : Bool → Bool → Bool → Bool
after false l b = level l b
after true l k = k

-- either way, "as many bits out as in"
unfoldable pub coding : Bool → Bool → List Bool → List Bool
coding back l [] = []
coding back l (b ∷ bs) = codes back l b ∷ coding back (after back l b) bs

-- the level at the end
unfoldable pub reached : Bool → Bool → List Bool → Bool
reached back l [] = l
reached back l (b ∷ bs) = reached back (after back l b) bs

-- "NRZI: 2, 11"; the buffer of 2 is the input
unfoldable pub nrzi_refusal : ℕ → ℕ → ℕ → ℕ
nrzi_refusal bits size room = bit_count_refusal size bits then pick (ltb room (bytes_for bits)) 11 0

-- the level at the end
unfoldable pub code_of : Bool → Bool → List ℕ → ℕ → ℕ → Answer Bool
code_of back l input bits room = unless (nrzi_refusal bits (length input) room) (reached back l (take bits (bits_of input)))

-- the lent output: the coded bits laid over its first bits
unfoldable pub code_bytes : Bool → Bool → List ℕ → ℕ → List ℕ → List ℕ
code_bytes back l input bits out =
    pick (eqb (nrzi_refusal bits (length input) (length out)) 0)
    (bytes_of (length out) (over (coding back l (take bits (bits_of input))) (bits_of out)))
    out
