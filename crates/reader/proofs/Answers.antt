-- The reader's answers: their numbers, and that the definition of their values loses nothing.
-- Assumes nothing.
use Prim.Native.Nat.{ℕ, ◌+◌, ◌-◌, ◌*◌, ◌/◌, ◌%◌}
use mathlib.Core.Path.{◌≡◌, refl}
use mathlib.Core.List.Memᴰ
use mathlib.Core.List.Memᴰ.{head as here}
use mathlib.Core.List.Memᴰ.{tail as there}
use mathlib.Core.List.{List, [], ◌∷◌}
use native.Mathlib.Omega.{arith}
use lib.Dec.{eqb, ltb}
use borrow.Author.Tests.{eqb-false}
use lib.ListN.{length, get_or, take}
use Rattle.frame.specs.Pick.{pick}
use Rattle.frame.specs.Answer.{Answer, gives, refuses, Among, Lists}
use Rattle.frame.specs.Carried.{Carried}
use Rattle.frame.specs.Control.{decode_of}
use Rattle.frame.specs.Message.{information_in}
use Rattle.frame.specs.Refusal.{address_refusal, information_refusal}
use Rattle.frame.specs.declared.Meaning.{Meaning}
use Rattle.frame.proofs.Laws.{pick_cases, pick_among, unless_lists}
use Rattle.frame.proofs.Numbers.{numbers}
use Rattle.bits.specs.Bits.{bits_of}
use Rattle.bits.specs.Check.{check_word}
use Rattle.bits.specs.Insert.{remove, ending}
use Rattle.bits.specs.Count.{bit_count_refusal}
use Rattle.bits.proofs.Counting.{count_numbers}
use Rattle.reader.specs.Flags.{Heard, nothing, content, heard}
use Rattle.reader.specs.Read.{◌before◌, meant, fitting, told, removal_refusal, check_refusal, bytes_in, frame_answer, content_answer, judged, read_of}
use Rattle.reader.specs.Promises.{ReadNumbers, ReadLosesNothing}
use Rattle.frame.proofs.LosesNothing.{answer_one}

-- ---- numbers

abbrev reading : List ℕ
reading = 2 ∷ 1 ∷ 3 ∷ 4 ∷ 5 ∷ 6 ∷ 7 ∷ 8 ∷ 9 ∷ 10 ∷ 12 ∷ 11 ∷ []

-- n is none of the numbers that are refused, or one of the list
abbrev Found : ℕ → Type 0
Found n = Among n (0 ∷ reading)

-- each number of a list is
abbrev Each : List ℕ → Type 0
Each [] = Unit {0}
Each (k ∷ ks) = Found k × Each ks

each_found : (n : ℕ) (ks : List ℕ) → Each ks → Among n ks → Found n
each_found n [] h m = absurd (Memᴰ.not-nil m)
each_found n (k ∷ ks) h (here e) = rw e h.0
each_found n (k ∷ ks) h (there m) = each_found n ks h.1 m

n0 : Found 0
n0 = here refl

n3 : Found 3
n3 = there (there (there (here refl)))

n4 : Found 4
n4 = there (there (there (there (here refl))))

n5 : Found 5
n5 = there (there (there (there (there (here refl)))))

n6 : Found 6
n6 = there (there (there (there (there (there (here refl))))))

n7 : Found 7
n7 = there (there (there (there (there (there (there (here refl)))))))

n8 : Found 8
n8 = there (there (there (there (there (there (there (there (here refl))))))))

n9 : Found 9
n9 = there (there (there (there (there (there (there (there (there (here refl)))))))))

n10 : Found 10
n10 = there (there (there (there (there (there (there (there (there (there (here refl))))))))))

n12 : Found 12
n12 = there (there (there (there (there (there (there (there (there (there (there (here refl)))))))))))

n11 : Found 11
n11 = there (there (there (there (there (there (there (there (there (there (there (there (here refl))))))))))))

found_among : (n : ℕ) → (n ≡ 0 → ⊥) → Found n → Among n reading
found_among n z (here e) = absurd (z e)
found_among n z (there m) = m

-- a number found before an answer
before_lists : {A : Type 0} (n : ℕ) (x : Answer A) → Found n → Lists reading x → Lists reading (n before x)
before_lists {A} n x p q = pick_cases (λ (y : Answer A). Lists reading y) (eqb n 0) x (refuses n) (λ t. q) (λ t. found_among n (eqb-false n 0 t) p)

removal_found : (n run : ℕ) → Found (removal_refusal n run)
unfolding removal_refusal
removal_found n run =
    pick_among (eqb (pick (eqb run 5) 3 0) 0)
    (pick_among (eqb (pick (eqb (n % 8) 0) 0 4) 0)
    (pick_among (eqb (pick (ltb (n / 8) 4) 5 0) 0) (pick_among (ltb 257 (n / 8)) n6 n0) (pick_among (ltb (n / 8) 4) n5 n0))
    (pick_among (eqb (n % 8) 0) n0 n4))
    (pick_among (eqb run 5) n3 n0)

check_found : (f : List ℕ) → Found (check_refusal f)
unfolding check_refusal
check_found f = pick_among (eqb (check_word (take (length f - 2) f)) (get_or f (length f - 2) 0 + 256 * get_or f (length f - 1) 0)) n0 n7

meant_lists : (x : Answer Meaning) (a : ℕ) (info : List ℕ) → Lists (9 ∷ []) x → Lists reading (meant x a info)
meant_lists (gives m) a info h = unless_lists (record { address = a; meaning = m; information = info }) (each_found (information_refusal m info) (0 ∷ 10 ∷ 12 ∷ []) (n0, (n10, (n12, tt))) (numbers.information m info))
meant_lists (refuses n) a info (here e) = rw e (found_among 9 (λ z. omega arith) n9)
meant_lists (refuses n) a info (there x5) = elim x5 [ ]

frame_lists : (f : List ℕ) → Lists reading (frame_answer f)
unfolding frame_answer
frame_lists f =
    before_lists (check_refusal f) _ (check_found f)
    (before_lists (address_refusal (get_or f 0 0)) _ (each_found (address_refusal (get_or f 0 0)) (0 ∷ 8 ∷ []) (n0, (n8, tt)) (numbers.address (get_or f 0 0)))
    (meant_lists (decode_of (get_or f 1 0)) (get_or f 0 0) (information_in f) (numbers.decode (get_or f 1 0))))

judged_lists : (h : Heard) → Lists reading (judged h)
unfolding content_answer
judged_lists nothing = there (here refl)
judged_lists (content p c) = before_lists (removal_refusal (length (remove 0 c)) (ending 0 c)) _ (removal_found (length (remove 0 c)) (ending 0 c)) (frame_lists (bytes_in c))

fitting_lists : (room : ℕ) (x : Answer Carried) → Lists reading x → Lists reading (fitting room x)
fitting_lists room (gives f) h = unless_lists f (pick_among (ltb room (length f.information)) n11 n0)
fitting_lists room (refuses n) h = h

told_lists : (x : Answer Carried) → Lists reading x → Lists reading (told x)
told_lists (gives f) h = tt
told_lists (refuses n) h = h

pub read_numbers : ReadNumbers
unfolding read_of
read_numbers buffer bits room =
    told_lists (read_of buffer bits room)
    (before_lists (bit_count_refusal (length buffer) bits) _ (count_numbers _ (length buffer) bits)
    (fitting_lists room (judged (heard (take bits (bits_of buffer)))) (judged_lists (heard (take bits (bits_of buffer))))))

-- ---- values

pub read_loses_nothing : ReadLosesNothing
read_loses_nothing r s e = answer_one r s e
