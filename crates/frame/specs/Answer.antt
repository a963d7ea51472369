-- What a call gives back (01, "Numbers given back"): its values, or one of the paper's numbers and nothing else.
use Rattle.std.specs.Prelude.{ℕ, ◌++◌, codes, eqb, Result, Ok, Err}
use Rattle.std.specs.Fmt.{decimal}
use mathlib.Core.List.{List, Memᴰ}
use Rattle.frame.specs.Pick.{pick}
use Rattle.frame.specs.declared.number.Refusal.{Refusal}
use Rattle.frame.specs.declared.number.Refusal.TheVariants.{NoContent, BitCount, FiveOnesAtEnd, NotWholeBytes, TooFewBytes, TooManyBytes, CheckWord, Address, Control, Information, Output, LengthByte, StillHeld, SlotEmpty, Limit, NoOrderWaits, OrderWaits, Record, OtherAddress, End}

-- the promises speak of what the code gives through this type: the numbers and the values of each case
pub data Answer (A : Type 0) : Type 0 where
  gives : A → Answer A
  refuses : ℕ → Answer A

-- the numbers of the table
abbrev pub number_of : Refusal → ℕ
number_of NoContent = 1
number_of BitCount = 2
number_of FiveOnesAtEnd = 3
number_of NotWholeBytes = 4
number_of TooFewBytes = 5
number_of TooManyBytes = 6
number_of CheckWord = 7
number_of Address = 8
number_of Control = 9
number_of Information = 10
number_of Output = 11
number_of LengthByte = 12
number_of StillHeld = 13
number_of SlotEmpty = 14
number_of Limit = 15
number_of NoOrderWaits = 16
number_of OrderWaits = 17
number_of Record = 18
number_of OtherAddress = 19
number_of End = 30

-- a refusal as a listing says it: the word and the number
abbrev pub words_of : Refusal → List ℕ
words_of r = codes "refused " ++ decimal (number_of r)

-- the values of an accepted call, or the number of a refused one
abbrev pub answer : {A : Type 0} → Result A Refusal → Answer A
answer (Ok v) = gives v
answer (Err r) = refuses (number_of r)

-- the number of a refusal, or 0 where nothing is refused
abbrev pub refusal_in : {A : Type 0} → Result A Refusal → ℕ
refusal_in (Ok v) = 0
refusal_in (Err r) = number_of r

-- the values, unless a number was found on the way (0: none was)
abbrev pub unless : {A : Type 0} → ℕ → A → Answer A
unless n v = pick (eqb n 0) (gives v) (refuses n)

-- n is one of the numbers
abbrev pub Among : ℕ → List ℕ → Type 0
Among n ks = Memᴰ n ks

-- "A number outside a call's list is not given by that call."
abbrev pub Lists : {A : Type 0} → List ℕ → Answer A → Type 0
Lists ns (gives v) = Unit {0}
Lists ns (refuses n) = Among n ns
