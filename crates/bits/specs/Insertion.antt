-- What is promised of zero insertion and removal (01, "Bits between flags"; the proofs stand in proofs/Insertion.antt).
use Rattle.std.specs.Prelude.{ℕ, ◌+◌, ◌/◌, ◌≤◌, ◌≡◌, Bool, true, List, ◌++◌, length, replicate}
use Rattle.bits.specs.Insert.{insert, remove, zeros}

-- nowhere in the bits do n ones stand in a row
abbrev pub Never : ℕ → List Bool → Type 0
Never n x = (p q : List Bool) → x ≡ p ++ (replicate n true ++ q) → ⊥

-- the bits do not end in n ones
abbrev pub NotAtEnd : ℕ → List Bool → Type 0
NotAtEnd n x = (p : List Bool) → x ≡ p ++ replicate n true → ⊥

-- what was inserted is removed
abbrev pub RemoveAfterInsert : Type 0
RemoveAfterInsert = (x : List Bool) → remove 0 (insert 0 x) ≡ x

-- what was removed is inserted again, in bits that a flag can stand beside: without six ones in a row, and without five ones at their very end
abbrev pub InsertAfterRemove : Type 0
InsertAfterRemove = (x : List Bool) → Never 6 x → NotAtEnd 5 x → insert 0 (remove 0 x) ≡ x

-- no flag can stand inside: six ones in a row never go out, nor five ones at the very end
abbrev pub NoSixOnes : Type 0
NoSixOnes = (x : List Bool) → Never 6 (insert 0 x) × NotAtEnd 5 (insert 0 x)

-- the zeros counted are the zeros inserted, "at most the content's bits divided by 5, rounded down"
abbrev pub ZerosCounted : Type 0
ZerosCounted = (x : List Bool) → (length (insert 0 x) ≡ length x + zeros 0 x) × (zeros 0 x ≤ length x / 5)
