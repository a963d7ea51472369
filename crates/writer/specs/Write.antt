-- Writing a frame (01, "Bits between flags" and "Numbers given back").
use Rattle.std.specs.Prelude.{ℕ, Bool, List, ◌∷◌, ◌++◌, eqb, ltb, length, drop}
use Rattle.frame.specs.Pick.{pick, ◌then◌}
use Rattle.frame.specs.Answer.{Answer, unless}
use Rattle.frame.specs.Control.{byte_of}
use Rattle.frame.specs.Refusal.{address_refusal, frame_refusal}
use Rattle.frame.specs.declared.Meaning.{Meaning}
use Rattle.bits.specs.Bits.{bits_of, bytes_of}
use Rattle.bits.specs.Insert.{insert, zeros}
use Rattle.bits.specs.Check.{check_bytes}
use Rattle.bits.specs.Packed.{bytes_for, padded}
use Rattle.bits.specs.Flag.{flag}
pub use Rattle.writer.specs.declared.Report.{Report}

-- "Content is address, control, information, check word", the check word "over address, control and information in line order"
unfoldable pub content_bytes : ℕ → ℕ → List ℕ → List ℕ
content_bytes address control info = (address ∷ control ∷ info) ++ check_bytes (address ∷ control ∷ info)

-- "A frame is flag, content, flag. After each five ones in a row in the content a zero is inserted, also after the last five."
unfoldable pub line : List ℕ → List Bool
line content = flag ++ (insert 0 (bits_of content) ++ flag)

-- "Unused bits of the last byte are ones; later bytes stay."
unfoldable pub laid : List Bool → List ℕ → List ℕ
laid bits old = bytes_of (bytes_for (length bits)) (padded bits) ++ drop (bytes_for (length bits)) old

-- "The writer reports the total of line bits, and reports how many zeros it inserted"
abbrev pub report : List ℕ → Report
report content = record { bits = length (line content); zeros = zeros 0 (bits_of content) }

-- 11: "exactly if the bytes needed exceed the buffer"
abbrev pub room_refusal : List ℕ → ℕ → ℕ
room_refusal content room = pick (ltb room (bytes_for (length (line content)))) 11 0

-- the answer and the buffer, by the number found on the way (0: none)
abbrev pub answered : ℕ → List ℕ → Answer Report
answered refusal content = unless refusal (report content)

abbrev pub left : ℕ → List ℕ → List ℕ → List ℕ
left refusal content old = pick (eqb refusal 0) (laid (line content) old) old

-- the content of a frame
abbrev pub content_of : ℕ → Meaning → List ℕ → List ℕ
content_of address m info = content_bytes address (byte_of m) info

-- "Writing: 8, 9, 10, 12, 11."
unfoldable pub write_refusal : ℕ → Meaning → List ℕ → ℕ → ℕ
write_refusal address m info room = address_refusal address then frame_refusal m info then room_refusal (content_of address m info) room

-- what the writer answers, and what stands in the lent buffer then: "lent buffers are unchanged" by a refusal
unfoldable pub write_of : ℕ → Meaning → List ℕ → ℕ → Answer Report
write_of address m info room = answered (write_refusal address m info room) (content_of address m info)

unfoldable pub write_bytes : ℕ → Meaning → List ℕ → List ℕ → List ℕ
write_bytes address m info old = left (write_refusal address m info (length old)) (content_of address m info) old
