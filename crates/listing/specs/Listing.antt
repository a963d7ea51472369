-- The listing of a capture, byte by byte (01, "Captures": the program "list").
use Rattle.std.specs.Prelude.{ℕ, zero, suc, ◌+◌, List, [], ◌∷◌, ◌++◌, eqb, ltb, length, drop}
use Prim.Native.Char.{code}
use Rattle.frame.specs.Pick.{pick}
use Rattle.frame.specs.Answer.{Answer, gives, refuses, unless}
use Rattle.frame.specs.declared.Meaning.{Meaning}
use Rattle.frame.specs.declared.Meaning.TheVariants.{I, Rr, Rnr, Snrm, Disc, Ua, Frmr}
use Rattle.capture.specs.declared.records.Frame.{Frame}
use Rattle.capture.specs.Record.{Entry, order, response, silence, Step, entry, end, record_at}
use Rattle.listing.specs.Text.{ascii}
use Rattle.listing.specs.Decimal.{decimal}

-- "one space between fields, a newline after each line"
abbrev pub row : List ℕ → List (List ℕ) → List ℕ
row field [] = field ++ ascii "\n"
row field (next ∷ fields) = field ++ (ascii " " ++ row next fields)

-- "`-` where a field has no meaning"
abbrev pub dash : List ℕ
dash = ascii "-"

-- the frame's name
abbrev pub name : Meaning → List ℕ
name (I ns nr) = ascii "I"
name (Rr nr) = ascii "RR"
name (Rnr nr) = ascii "RNR"
name Snrm = ascii "SNRM"
name Disc = ascii "DISC"
name Ua = ascii "UA"
name Frmr = ascii "FRMR"

-- "I carries both counts, RR and RNR carry one, the rest none."
abbrev pub ns_field : Meaning → List ℕ
ns_field (I ns nr) = decimal ns.0
ns_field (Rr nr) = dash
ns_field (Rnr nr) = dash
ns_field Snrm = dash
ns_field Disc = dash
ns_field Ua = dash
ns_field Frmr = dash

abbrev pub nr_field : Meaning → List ℕ
nr_field (I ns nr) = decimal nr.0
nr_field (Rr nr) = decimal nr.0
nr_field (Rnr nr) = decimal nr.0
nr_field Snrm = dash
nr_field Disc = dash
nr_field Ua = dash
nr_field Frmr = dash

-- "number from 1, `>` order or `<` response or `.` silence, node, kind, Ns, Nr, information size"
abbrev pub frame_line : ℕ → ℕ → Frame → List ℕ
frame_line n way f =
    row (decimal n)
    ((way ∷ [])
    ∷ decimal f.address
    ∷ name f.meaning
    ∷ ns_field f.meaning
    ∷ nr_field f.meaning
    ∷ decimal f.size
    ∷ [])

abbrev pub entry_line : ℕ → Entry → List ℕ
entry_line n (order f) = frame_line n (code ">") f
entry_line n (response f) = frame_line n (code "<") f
entry_line n silence = row (decimal n) (ascii "." ∷ dash ∷ dash ∷ dash ∷ dash ∷ dash ∷ [])

-- "At a refused record it prints the number, `refused`, the refusal"
abbrev pub refused_line : ℕ → ℕ → List ℕ
refused_line n refusal = row (decimal n) (ascii "refused" ∷ decimal refusal ∷ [])

-- the line of what stands at a place; the capture's end has none
abbrev pub line_of : ℕ → Answer Step → List ℕ
line_of n (gives (entry e next)) = entry_line n e
line_of n (gives end) = []
line_of n (refuses refusal) = refused_line n refusal

-- what follows a record, if it is not refused ("and stops") and not the end
abbrev pub follow : Answer Step → (ℕ → List ℕ) → List ℕ
follow (gives (entry e next)) rest = rest next
follow (gives end) rest = []
follow (refuses refusal) rest = []

-- "a line per record": the lines from the record with number n at a place on, of which there are at most b
unfoldable pub lines_from : ℕ → List ℕ → ℕ → ℕ → List ℕ
lines_from zero capture n at = []
lines_from (suc b) capture n at =
    line_of n (record_at capture at) ++ follow (record_at capture at) (λ (next : ℕ). lines_from b capture (n + 1) next)

-- a capture has no more records than bytes
unfoldable pub lines_of : List ℕ → List ℕ
lines_of capture = lines_from (length capture) capture 1 0

-- the first line
abbrev pub header : List ℕ
header = ascii "no way node kind ns nr info\n"

-- "the single line `too long`"
abbrev pub too_long : List ℕ
too_long = ascii "too long\n"

-- "a capture of at most 65,536 bytes .. (a longer one: the single line `too long`). It prints the header, then a line per record"
unfoldable pub listing : List ℕ → List ℕ
listing capture = pick (ltb 65536 (length capture)) too_long (header ++ lines_of capture)

-- 11: "lent output too small"
unfoldable pub output_refusal : List ℕ → ℕ → ℕ
output_refusal text room = pick (ltb room (length text)) 11 0

-- the text's size, or 11
unfoldable pub list_of : List ℕ → ℕ → Answer ℕ
list_of capture room = unless (output_refusal (listing capture) room) (length (listing capture))

-- the text at the front of the lent bytes, the rest as they were; where it is refused all of them
unfoldable pub list_bytes : List ℕ → List ℕ → List ℕ
list_bytes capture out =
    pick (eqb (output_refusal (listing capture) (length out)) 0)
    (listing capture ++ drop (length (listing capture)) out)
    out
