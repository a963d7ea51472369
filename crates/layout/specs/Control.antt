-- What crosses to C as a number: a meaning as its control byte, and what became of the link.
use Rattle.std.specs.Prelude.{ℕ}
use Rattle.frame.specs.Answer.{Answer, gives, refuses}
use Rattle.frame.specs.Control.{decode_of, encode_of}
use Rattle.frame.specs.declared.Meaning.{Meaning}
use Rattle.frame.specs.declared.Meaning.TheVariants.{Rr}
use Rattle.side.specs.declared.answer.Change.{Change}
use Rattle.side.specs.declared.answer.Change.TheVariants.{Same, Gained, Lost}

abbrev pub meant : Answer Meaning → Meaning
meant (gives m) = m
meant (refuses n) = Rr (record { 0 = 255 })

-- the meaning of a byte; a byte that is not in the table becomes a meaning whose count is above 7, which the call that it is handed to refuses by 9 at 9's place
unfoldable pub meaning_of : ℕ → Meaning
meaning_of control = meant (decode_of control)

abbrev pub byte_given : Answer ℕ → ℕ
byte_given (gives b) = b
byte_given (refuses n) = 0

-- the byte of a meaning; 0, which is not in the table, for a meaning with a count above 7, which no end gives
unfoldable pub control_of : Meaning → ℕ
control_of m = byte_given (encode_of m)

-- what became of the link
abbrev pub link_number : Change → ℕ
link_number Same = 0
link_number Gained = 1
link_number Lost = 2
