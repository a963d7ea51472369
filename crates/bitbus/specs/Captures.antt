-- The calls from C on captures: what each gives is what the definition of `capture` gives.
use Rattle.std.specs.Prelude.{ℕ, List, [], ◌∷◌, Option, None, Some}
use Rattle.capture.specs.Record.{order, response, silence, Step, entry, end, told}
use Rattle.capture.specs.declared.records.Frame.{Frame}
use Rattle.capture.specs.declared.records.Record.{Record}
use Rattle.layout.specs.Control.{control_of}

-- a record of a frame: its way (1 order, 2 response), address, control byte, information size, and the place where the next record begins
abbrev pub frame_values : ℕ → Frame → ℕ → List ℕ
frame_values way f next = way ∷ f.address ∷ control_of f.meaning ∷ f.size ∷ next ∷ []

-- a silence has the way 3, and the capture's end the way 0
abbrev pub record_values : Step → List ℕ
record_values (entry (order f) next) = frame_values 1 f next
record_values (entry (response f) next) = frame_values 2 f next
record_values (entry silence next) = 3 ∷ 0 ∷ 0 ∷ 0 ∷ next ∷ []
record_values end = 0 ∷ 0 ∷ 0 ∷ 0 ∷ 0 ∷ []

-- the same of what the reading gives: none where the capture ends
abbrev pub found_values : Option Record → List ℕ
found_values (Some r) = record_values (entry (told r.entry) r.next)
found_values None = record_values end

-- the value of the listing: its size
abbrev pub list_values : ℕ → List ℕ
list_values size = size ∷ []
