-- The calls from C on the wire: what each gives is what the definition of `line` gives, with the control byte for the meaning.
use Rattle.std.specs.Prelude.{ℕ, Bool, List, [], ◌∷◌}
use Rattle.frame.specs.declared.Line.{Line}
use Rattle.writer.specs.declared.Report.{Report}
use Rattle.layout.specs.Layout.{mark_byte}
use Rattle.layout.specs.Control.{control_of}

-- the values of writing: line bits, inserted zeros
abbrev pub write_values : Report → List ℕ
write_values r = r.bits ∷ r.zeros ∷ []

-- the values of reading: address, control byte, information size
abbrev pub read_values : Line → List ℕ
read_values r = r.address ∷ control_of r.meaning ∷ r.size ∷ []

-- the value of NRZI: the level at the end
abbrev pub level_values : Bool → List ℕ
level_values l = mark_byte l ∷ []
