-- Reading a frame (01, "Numbers given back"): "Reading: 2, 1, 3, 4, 5, 6, 7, 8, 9, 10, 12, 11."
use Rattle.std.specs.Prelude.{ℕ, ◌+◌, ◌-◌, ◌*◌, ◌/◌, ◌%◌, Bool, List, ◌++◌, eqb, ltb, length, get_or, take, drop}
use Rattle.frame.specs.Pick.{pick, ◌then◌}
use Rattle.frame.specs.Answer.{Answer, gives, refuses, unless}
use Rattle.frame.specs.Control.{decode_of}
use Rattle.frame.specs.Message.{information_in}
use Rattle.frame.specs.Refusal.{address_refusal, information_refusal}
use Rattle.frame.specs.Carried.{Carried}
use Rattle.frame.specs.declared.Meaning.{Meaning}
use Rattle.bits.specs.Bits.{bits_of, bytes_of}
use Rattle.bits.specs.Insert.{remove, ending}
use Rattle.bits.specs.Check.{check_word}
use Rattle.bits.specs.Count.{bit_count_refusal}
use Rattle.reader.specs.Flags.{Heard, nothing, content, heard}
use Rattle.frame.specs.declared.Line.{Line}

infixr 20 ◌before◌
-- "Order of tests": a number that was found comes before the answer of the later tests (0: none was)
abbrev pub ◌before◌ : {A : Type 0} → ℕ → Answer A → Answer A
n before x = pick (eqb n 0) x (refuses n)

-- 3: five ones at the very end and no inserted zero after them; 4: not whole bytes; 5: "fewer than 4 bytes"; 6: "more than 257 bytes"
unfoldable pub removal_refusal : ℕ → ℕ → ℕ
removal_refusal bits run =
    pick (eqb run 5) 3 0
    then pick (eqb (bits % 8) 0) 0 4
    then pick (ltb (bits / 8) 4) 5 0
    then pick (ltb 257 (bits / 8)) 6 0

-- 7: the last two bytes, low byte first, are not the check word of the bytes before them
unfoldable pub check_refusal : List ℕ → ℕ
check_refusal frame =
    pick (eqb (check_word (take (length frame - 2) frame)) (get_or frame (length frame - 2) 0 + 256 * get_or frame (length frame - 1) 0)) 0 7

-- the bytes of a content: "Content is address, control, information, check word."
unfoldable pub bytes_in : List Bool → List ℕ
bytes_in c = bytes_of (length (remove 0 c) / 8) (remove 0 c)

-- 10 and 12 of the information, once the control byte is known
abbrev pub meant : Answer Meaning → ℕ → List ℕ → Answer Carried
meant (gives m) a info = unless (information_refusal m info) (record { address = a; meaning = m; information = info })
meant (refuses n) a info = refuses n

-- 7, then 8, 9, 10, 12 of a frame's bytes
unfoldable pub frame_answer : List ℕ → Answer Carried
frame_answer frame =
    check_refusal frame
    before address_refusal (get_or frame 0 0)
    before meant (decode_of (get_or frame 1 0)) (get_or frame 0 0) (information_in frame)

-- 3 to 6, then 7 to 12, of a content
unfoldable pub content_answer : List Bool → Answer Carried
content_answer c = removal_refusal (length (remove 0 c)) (ending 0 c) before frame_answer (bytes_in c)

-- 1: nothing was found; else that content alone is judged
abbrev pub judged : Heard → Answer Carried
judged nothing = refuses 1
judged (content p c) = content_answer c

-- 11: the lent output is smaller than the information
abbrev pub fitting : ℕ → Answer Carried → Answer Carried
fitting room (gives f) = unless (pick (ltb room (length f.information)) 11 0) f
fitting room (refuses n) = refuses n

-- what is read of a buffer with its stated bit count, for a lent output of that room: bits past the count are not there
unfoldable pub read_of : List ℕ → ℕ → ℕ → Answer Carried
read_of buffer bits room = bit_count_refusal (length buffer) bits before fitting room (judged (heard (take bits (bits_of buffer))))

-- what the caller is told: address, meaning and the information's size
abbrev pub told : Answer Carried → Answer Line
told (gives f) = gives (record { address = f.address; meaning = f.meaning; size = length f.information })
told (refuses n) = refuses n

-- "On success the bytes past the information stay, all of them where there is none"; a refusal writes nothing
abbrev pub out_after : Answer Carried → List ℕ → List ℕ
out_after (gives f) out = f.information ++ drop (length f.information) out
out_after (refuses n) out = out
