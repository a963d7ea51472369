-- One record of a capture (01, "Captures").
use Rattle.std.specs.Prelude.{ℕ, ◌≡◌, ◌+◌, ◌*◌, ◌-◌, List, Option, Some, None, Result, Ok, Err, eqb, ltb, length, get_or, take, drop}
use Rattle.frame.specs.Pick.{pick}
use Rattle.frame.specs.Answer.{Answer, gives, refuses, unless, number_of}
use Rattle.frame.specs.Control.{decode_of}
use Rattle.frame.specs.Refusal.{address_refusal, information_refusal}
use Rattle.frame.specs.declared.Meaning.{Meaning}
use Rattle.frame.specs.declared.number.Refusal.{Refusal}
use Rattle.frame.specs.declared.number.Refusal.TheVariants.{Record as IsRecord}
use Rattle.capture.specs.declared.records.Frame.{Frame}
use Rattle.capture.specs.declared.records.Kind.{Kind}
use Rattle.capture.specs.declared.records.Kind.TheVariants.{Order as IsOrder, Response as IsResponse, Silence as IsSilence}
use Rattle.capture.specs.declared.records.Entry.{Entry as Told}
use Rattle.capture.specs.declared.records.Entry.TheVariants.{Order, Response, Silence}
use Rattle.capture.specs.declared.records.Record.{Record}

-- a number in "two bytes, little-endian", from a place on
unfoldable pub pair_at : List ℕ → ℕ → ℕ
pair_at bytes at = get_or bytes at 0 + 256 * get_or bytes (at + 1) 0

-- "A record: length (two bytes, little-endian, the whole record), kind (two bytes, little-endian ..), body." It stands at the front of what is left.
abbrev pub length_of : List ℕ → ℕ
length_of left = pair_at left 0

abbrev pub kind_of : List ℕ → ℕ
kind_of left = pair_at left 2

abbrev pub body_of : List ℕ → List ℕ
body_of left = take (length_of left - 4) (drop 4 left)

-- 18: "another kind, a body of the wrong size"; kind 3 has no body, kinds 1 and 2 hold 2 to 255 bytes
unfoldable pub kind_refusal : ℕ → ℕ → ℕ
kind_refusal kind size =
    pick (eqb kind 3) (pick (eqb size 0) 0 18)
    (pick (ltb kind 1) 18
    (pick (ltb 2 kind) 18
    (pick (ltb size 2) 18
    (pick (ltb 255 size) 18
    0))))

-- 18: "One to 3 bytes left", "length under 4 or past the end", then kind and body
unfoldable pub form_refusal : List ℕ → ℕ
form_refusal left =
    pick (ltb (length left) 4) 18
    (pick (ltb (length_of left) 4) 18
    (pick (ltb (length left) (length_of left)) 18
    (kind_refusal (kind_of left) (length_of left - 4))))

-- "then 8, 9, 10, 12 for bodies": address, control, information
unfoldable pub with_information : ℕ → Meaning → List ℕ → Answer Frame
with_information address meaning information =
    unless (information_refusal meaning information) (record { address = address; meaning = meaning; size = length information })

abbrev pub with_control : ℕ → Answer Meaning → List ℕ → Answer Frame
with_control address (gives meaning) information = with_information address meaning information
with_control address (refuses n) information = refuses n

unfoldable pub frame_in : List ℕ → Answer Frame
frame_in body =
    pick (eqb (address_refusal (get_or body 0 0)) 0)
    (with_control (get_or body 0 0) (decode_of (get_or body 1 0)) (drop 2 body))
    (refuses (address_refusal (get_or body 0 0)))

-- "1 order, 2 response, 3 silence"
pub data Entry : Type 0 where
  order : Frame → Entry
  response : Frame → Entry
  silence : Entry

-- what stands at a place: a record, with the place where the next begins, or the capture's end
pub data Step : Type 0 where
  entry : Entry → ℕ → Step
  end : Step

abbrev pub way_of : ℕ → Frame → Entry
way_of kind frame = pick (eqb kind 1) (order frame) (response frame)

abbrev pub framed : ℕ → ℕ → Answer Frame → Answer Step
framed kind next (gives frame) = gives (entry (way_of kind frame) next)
framed kind next (refuses n) = refuses n

-- a record that is not refused 18
abbrev pub formed : ℕ → List ℕ → Answer Step
formed at left =
    pick (eqb (kind_of left) 3)
    (gives (entry silence (at + length_of left)))
    (framed (kind_of left) (at + length_of left) (frame_in (body_of left)))

-- the record at the front of what is left from a place on: 18 complete before 8, 9, 10, 12
unfoldable pub record_of : ℕ → List ℕ → Answer Step
record_of at left = pick (eqb (length left) 0) (gives end) (pick (eqb (form_refusal left) 0) (formed at left) (refuses (form_refusal left)))

-- the record at a place of a capture; at its end and past it nothing is left
unfoldable pub record_at : List ℕ → ℕ → Answer Step
record_at capture at = record_of at (drop at capture)

-- what a record tells of
abbrev pub told : Told → Entry
told (Order frame) = order frame
told (Response frame) = response frame
told Silence = silence

-- the number and the values of each answer
abbrev pub found : Result (Option Record) Refusal → Answer Step
found (Ok (Some r)) = gives (entry (told r.entry) r.next)
found (Ok None) = gives end
found (Err r) = refuses (number_of r)

-- the number of a kind
abbrev pub kind_number : Kind → ℕ
kind_number IsOrder = 1
kind_number IsResponse = 2
kind_number IsSilence = 3

-- a number's kind, or 18 whatever the body is
abbrev pub Names : ℕ → Result Kind Refusal → Type 0
Names n (Ok kind) = kind_number kind ≡ n
Names n (Err r) = (r ≡ IsRecord) × ((size : ℕ) → kind_refusal n size ≡ 18)
