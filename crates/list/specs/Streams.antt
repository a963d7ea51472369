-- What is read and written, where a reader's or a writer's bytes are known.
use Rattle.std.specs.Prelude.{ℕ, ◌≡◌, ◌⊎◌, List, take, Result, Ok, Err, MatchResult, Option}
use Rattle.std.specs.Borrow.{Bor}
use Rattle.std.specs.Io.KnownBytes.{Appends, Keeps}
use Rattle.listing.specs.Listing.{listing}
use Rattle.listing.specs.Text.{ascii}

-- the bytes that were read are the first of the input, as many as there is room for
abbrev pub Reads : {E : Type 0} → ℕ → Result (Bor (List ℕ)) E → List ℕ → Type 0
Reads room (Ok capture) input = capture.now ≡ take room input
Reads room (Err e) input = Unit {0}

-- known bytes grew by a first part of the text, none or all of it included
abbrev pub GrowsByPart : Option (List ℕ) → Option (List ℕ) → List ℕ → Type 0
GrowsByPart old new text = (n : ℕ) × Appends old new (take n text)

-- known bytes grew by the text, or by a first part of it where a write failed
abbrev pub Writes : {T E : Type 0} → Result T E → Option (List ℕ) → Option (List ℕ) → List ℕ → Type 0
Writes r old new text = MatchResult r (λ _. Appends old new text) (λ _. GrowsByPart old new text)

-- what is told where the input cannot be read
abbrev pub unread : List ℕ
unread = ascii "list: standard input cannot be read\n"

-- what is told where the output cannot be written
abbrev pub unwritten : List ℕ
unwritten = ascii "list: standard output cannot be written\n"

-- the capture's listing stands on the output and nothing is told; or a write failed, a first part stands there, and that is told or the telling fails
abbrev pub ListsOn : {T E : Type 0} → Result T E → List ℕ → Option (List ℕ) → Option (List ℕ) → Option (List ℕ) → Option (List ℕ) → Type 0
ListsOn told capture to to' errors errors' =
    (Appends to to' (listing capture) × Keeps errors errors')
    ⊎ (GrowsByPart to to' (listing capture) × Writes told errors errors' unwritten)

-- the input cannot be read: the output stays as it was, and that is told or the telling fails
abbrev pub Unread : {T E : Type 0} → Result T E → Option (List ℕ) → Option (List ℕ) → Option (List ℕ) → Option (List ℕ) → Type 0
Unread told to to' errors errors' = Keeps to to' × Writes told errors errors' unread

-- what the program does with what was read
abbrev pub Answers : {T E E' : Type 0} → Result T E → Result (Bor (List ℕ)) E' → Option (List ℕ) → Option (List ℕ) → Option (List ℕ) → Option (List ℕ) → Type 0
Answers told (Ok capture) to to' errors errors' = ListsOn told capture.now to to' errors errors'
Answers told (Err e) to to' errors errors' = Unread told to to' errors errors'

-- the whole program, at a known input
abbrev pub Runs : {T E : Type 0} → Result T E → Option (List ℕ) → Option (List ℕ) → Option (List ℕ) → Option (List ℕ) → List ℕ → Type 0
Runs told to to' errors errors' input = ListsOn told input to to' errors errors' ⊎ Unread told to to' errors errors'
