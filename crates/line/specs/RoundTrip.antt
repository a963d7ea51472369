-- The round trip: what is written is read, and what is read is written. The proofs stand in proofs/Round.
use Rattle.std.specs.Prelude.{ℕ, ◌≤◌, ◌≡◌, Bool, List, ◌++◌, length, take, drop, Result, Ok}
use Rattle.frame.specs.Bytes.{Bytes}
use Rattle.frame.specs.Answer.{gives}
use Rattle.frame.specs.Carried.{Carried}
use Rattle.frame.specs.Refusal.{address_refusal, frame_refusal}
use Rattle.frame.specs.declared.Meaning.{Meaning}
use Rattle.bits.specs.Bits.{bits_of}
use Rattle.bits.specs.Insert.{insert, remove, ending}
use Rattle.bits.specs.Count.{bit_count_refusal}
use Rattle.writer.specs.Write.{line, content_of, write_of, write_bytes}
use Rattle.writer.specs.declared.Report.{Report}
use Rattle.writer.specs.Promises.{WriteAllowed}
use Rattle.reader.specs.Flags.{content, heard}
use Rattle.reader.specs.Places.{Flag}
use Rattle.reader.specs.Read.{removal_refusal, bytes_in, fitting, read_of}
use Rattle.reader.specs.Promises.{ReadAllowed}
use Rattle.frame.specs.declared.Line.{Line}
use Rattle.frame.specs.declared.number.Refusal.{Refusal}

-- First half. Take a frame that the writer takes: its address passes 8, its meaning and information pass 9, 10 and 12.
-- Take any buffer and bit count that 2 lets pass and whose bits are: leading bits in which no flag stands, the frame's line, and whatever follows.
-- Whoever reads it into an output with room for the information gets this address, this meaning and this size, and the information at the output's start; the rest of the output stays.
abbrev pub WrittenIsRead : Type 0
WrittenIsRead =
    (address : ℕ) (m : Meaning) (info : List ℕ) → address_refusal address ≡ 0 → frame_refusal m info ≡ 0 → Bytes info
    → (lead rest : List Bool) → ((p : ℕ) → Flag lead p → ⊥)
    → (buffer : List ℕ) (bits : ℕ) → bit_count_refusal (length buffer) bits ≡ 0 → take bits (bits_of buffer) ≡ lead ++ (line (content_of address m info) ++ rest)
    → (out : List ℕ) (r : Result Line Refusal) (after : List ℕ) → length info ≤ length out → ReadAllowed buffer bits out r after
    → (r ≡ Ok (record { address = address; meaning = m; size = length info })) × (after ≡ info ++ drop (length info) out)

-- The same from call to call: what a writing that was not refused left in a buffer, read with the bits that the writing reported.
abbrev pub CallsFit : Type 0
CallsFit =
    (address : ℕ) (m : Meaning) (info old buffer : List ℕ) (bits zeros : ℕ) → Bytes info → WriteAllowed address m info old (Ok (record { bits = bits; zeros = zeros })) buffer
    → (out : List ℕ) (r : Result Line Refusal) (after : List ℕ) → length info ≤ length out → ReadAllowed buffer bits out r after
    → (r ≡ Ok (record { address = address; meaning = m; size = length info })) × (after ≡ info ++ drop (length info) out)

-- The same in the reader's definition: for an output of any room, the frame that was written, or 11.
abbrev pub CallsGive : Type 0
CallsGive =
    (address : ℕ) (m : Meaning) (info old : List ℕ) (r : Report) → Bytes info → write_of address m info (length old) ≡ gives r → (room : ℕ)
    → read_of (write_bytes address m info old) r.bits room ≡ fitting room (gives (record { address = address; meaning = m; information = info }))

-- Second half. Whatever is read, the writer takes: it passes 8, and 9, 10, 12.
-- And the content that the writer makes of it, with its inserted zeros, is bit for bit the content that was found between the flags.
pub record Again (buffer : List ℕ) (bits : ℕ) (f : Carried) : Type 0 where
  pub address : address_refusal f.address ≡ 0
  pub frame : frame_refusal f.meaning f.information ≡ 0
  pub place : ℕ
  pub same : heard (take bits (bits_of buffer)) ≡ content place (insert 0 (bits_of (content_of f.address f.meaning f.information)))

abbrev pub ReadIsWritten : Type 0
ReadIsWritten = (buffer : List ℕ) (bits room : ℕ) (f : Carried) → read_of buffer bits room ≡ gives f → Again buffer bits f

-- The same of any content that is found and passes 3 to 6, whatever its bytes say.
abbrev pub ContentIsWritten : Type 0
ContentIsWritten =
    (l : List Bool) (s : ℕ) (c : List Bool) → heard l ≡ content s c → removal_refusal (length (remove 0 c)) (ending 0 c) ≡ 0
    → insert 0 (bits_of (bytes_in c)) ≡ c
