-- No smaller size of a lent output suffices for every capture: one capture's listing has exactly the greatest size.
-- Assumes nothing.
use Prim.Native.Nat.{ℕ, zero, suc, ◌+◌, ◌*◌, ◌-◌, ◌/◌, ◌%◌, ◌≤◌, ◌<◌}
use mathlib.Core.Path.{◌≡◌, refl, ap}
use mathlib.Core.Bool.{false}
use mathlib.Core.List.{List, [], ◌∷◌}
use native.Mathlib.Omega.{arith}
use lib.Dec.{ltb}
use lib.ListN.{length, drop, length-append, length-drop}
use lib.Seq.{drop-drop}
use borrow.Author.Tests.{ltb-false, le-ltb}
use Rattle.frame.specs.Answer.{gives, refuses}
use Rattle.frame.specs.Control.{byte_of, known, decode_of}
use Rattle.frame.specs.Refusal.{address_refusal, none_refusal, information_refusal}
use Rattle.frame.specs.declared.Meaning.TheVariants.{Snrm}
use Rattle.frame.proofs.Laws.{pick_cases}
use Rattle.capture.specs.declared.records.Frame.{Frame}
use Rattle.capture.specs.Record.{kind_refusal, form_refusal, pair_at, with_information, frame_in, order, silence, entry, record_of, record_at}
use Rattle.capture.proofs.Forms.{record_silent}
use Rattle.listing.specs.Decimal.{decimal}
use Rattle.listing.specs.Listing.{frame_line, refused_line, entry_line, lines_of, header}
use Rattle.listing.specs.Promises.{silences, two_after_snrm, Least}
use Rattle.listing.proofs.Digits.{decimal_more, decimal_some}
use Rattle.listing.proofs.Lines.{lines_at, lines_past, lines_step}
use Rattle.listing.proofs.Listings.{listing_lines}
use Rattle.listing.proofs.Bound.{width, in_width, five_digits, total, silent_line}

-- a tenfold number has one digit more
taller : (a k : ℕ) → 1 ≤ a → ((n : ℕ) → a ≤ n → k ≤ length (decimal n)) → (n : ℕ) → 10 * a ≤ n → k + 1 ≤ length (decimal n)
taller a k one tall n h =
    let tenth = tall (n / 10) (omega arith) in
    let l = ap length (decimal_more n (omega arith)) in
    omega (arith, length-append (decimal (n / 10)) ((48 + n % 10) ∷ []))

tall_1 : (n : ℕ) → 1 ≤ n → 1 ≤ length (decimal n)
tall_1 n h = decimal_some n

tall_2 : (n : ℕ) → 10 ≤ n → 2 ≤ length (decimal n)
tall_2 = taller 1 1 (omega arith) tall_1

tall_3 : (n : ℕ) → 100 ≤ n → 3 ≤ length (decimal n)
tall_3 = taller 10 2 (omega arith) tall_2

tall_4 : (n : ℕ) → 1000 ≤ n → 4 ≤ length (decimal n)
tall_4 = taller 100 3 (omega arith) tall_3

tall_5 : (n : ℕ) → 10000 ≤ n → 5 ≤ length (decimal n)
tall_5 = taller 1000 4 (omega arith) tall_4

width_exact : (n : ℕ) → n < 100000 → length (decimal n) ≡ width n
width_exact n h = let most = in_width n h in let least = over in omega arith
  where
    over : width n ≤ length (decimal n)
    over =
        pick_cases (λ (w : ℕ). w ≤ length (decimal n)) (ltb n 10) _ _ (λ _. decimal_some n)
        (λ a. pick_cases (λ (w : ℕ). w ≤ length (decimal n)) (ltb n 100) _ _ (λ _. tall_2 n (ltb-false n 10 a))
        (λ b. pick_cases (λ (w : ℕ). w ≤ length (decimal n)) (ltb n 1000) _ _ (λ _. tall_3 n (ltb-false n 100 b))
        (λ c. pick_cases (λ (w : ℕ). w ≤ length (decimal n)) (ltb n 10000) _ _ (λ _. tall_4 n (ltb-false n 1000 c))
        (λ d. tall_5 n (ltb-false n 10000 d)))))

length-silences : (j : ℕ) (rest : List ℕ) → length (silences j rest) ≡ 4 * j + length rest
unfolding silences
length-silences zero rest = omega arith
length-silences (suc j) rest = omega (arith, length-silences j rest)

is_formed : (left : List ℕ) → form_refusal (4 ∷ 0 ∷ 3 ∷ 0 ∷ left) ≡ 0
unfolding form_refusal kind_refusal pair_at
is_formed left = let long : ltb (length (4 ∷ 0 ∷ 3 ∷ 0 ∷ left)) 4 ≡ false = le-ltb (length (4 ∷ 0 ∷ 3 ∷ 0 ∷ left)) 4 (omega arith) in rw long

silent : (at : ℕ) (left : List ℕ) → record_of at (4 ∷ 0 ∷ 3 ∷ 0 ∷ left) ≡ gives (entry silence (at + 4))
unfolding pair_at
silent at left = record_silent at (4 ∷ 0 ∷ 3 ∷ 0 ∷ left) (omega arith) (is_formed left) refl refl

module _ (capture rest : List ℕ) where
  -- one silence's line, and those after it
  one_silence : (j k : ℕ) → drop (4 * k) capture ≡ silences (suc j) rest → k + suc j < 99999
      → length (lines_at capture (k + 1) (4 * k)) ≡ width (k + 1) + 13 + length (lines_at capture (suc k + 1) (4 * suc k))
  unfolding silences record_at
  one_silence j k e few =
      let long = ap length e in
      let inside : 4 * k < length capture = omega (arith, length-drop (4 * k) capture, length-silences j rest) in
      let here : record_at capture (4 * k) ≡ gives (entry silence (4 * k + 4)) = rw e (silent (4 * k) (silences j rest)) in
      let step = ap length (rw here at (lines_step capture (k + 1) (4 * k) inside)) in
      let place : 4 * k + 4 ≡ 4 * suc k = omega arith in
      let number : k + 1 + 1 ≡ suc k + 1 = omega arith in
      let line = silent_line (k + 1) in
      let digits = width_exact (k + 1) (omega arith) in
      omega (arith, rw (place, number) at step, length-append (entry_line (k + 1) silence) (lines_at capture (suc k + 1) (4 * suc k)))

  after-silence : (j k : ℕ) → drop (4 * k) capture ≡ silences (suc j) rest → drop (4 * suc k) capture ≡ silences j rest
  unfolding silences
  after-silence j k e = let place : 4 * suc k ≡ 4 * k + 4 = omega arith in rw (place, ← drop-drop 4 (4 * k) capture, e)

  all_silences : (j k : ℕ) → drop (4 * k) capture ≡ silences j rest → k + j < 99999
      → length (lines_at capture (k + 1) (4 * k)) ≡ total (k + 1) j + length (lines_at capture (k + j + 1) (4 * (k + j)))
  unfolding total
  all_silences zero k e few = let same : k + 0 ≡ k = omega arith in rw same (omega arith)
  all_silences (suc j) k e few =
      let next : drop (4 * suc k) capture ≡ silences j rest = after-silence j k e in
      let more = all_silences j (suc k) next (omega arith) in
      let same : suc k + j ≡ k + suc j = omega arith in
      let number : suc k + 1 ≡ k + 1 + 1 = omega arith in
      omega (arith, one_silence j k e few, rw same at more, ap (λ (m : ℕ). total m j) number)

drop-silences : (j : ℕ) (rest : List ℕ) → drop (4 * j) (silences j rest) ≡ rest
unfolding silences
drop-silences zero rest = refl
drop-silences (suc j) rest = let place : 4 * suc j ≡ suc (suc (suc (suc (4 * j)))) = omega arith in rw place (drop-silences j rest)

abbrev snrm : Frame
snrm = record { address = 250; meaning = Snrm; size = 0 }

snrm_here : (at : ℕ) → record_of at two_after_snrm ≡ gives (entry (order snrm) (at + 6))
unfolding record_of form_refusal kind_refusal pair_at frame_in with_information address_refusal information_refusal none_refusal decode_of known byte_of
snrm_here at = refl

two_here : (at : ℕ) → record_of at (0 ∷ 0 ∷ []) ≡ refuses 18
unfolding record_of form_refusal
two_here at = refl

-- the line of SNRM to station 250, and the refused line
last_lines : (capture : List ℕ) (n at : ℕ) → drop at capture ≡ two_after_snrm → 10000 ≤ n → n < 99999 → length (lines_at capture n at) ≡ 40
unfolding record_at
last_lines capture n at e many few =
    let long = ap length e in
    let inside : at < length capture = omega (arith, length-drop at capture) in
    let inside-two : at + 6 < length capture = omega (arith, length-drop at capture) in
    let one : record_at capture at ≡ gives (entry (order snrm) (at + 6)) = rw e (snrm_here at) in
    let left : drop (at + 6) capture ≡ 0 ∷ 0 ∷ [] = rw (← drop-drop 6 at capture, e) in
    let two : record_at capture (at + 6) ≡ refuses 18 = rw left (two_here (at + 6)) in
    let first = ap length (rw one at (lines_step capture n at inside)) in
    let second = ap length (rw two at (lines_step capture (n + 1) (at + 6) inside-two)) in
    let none = ap length (lines_past (length capture - length capture) capture (n + 1 + 1) (length capture) (omega arith)) in
    let wide = snrm_line n in
    let short = two_line (n + 1) in
    let digits = five n many (omega arith) in
    let digits-two = five (n + 1) (omega arith) (omega arith) in
    omega (
      arith,
      length-append (frame_line n 62 snrm) (lines_at capture (n + 1) (at + 6)),
      length-append (refused_line (n + 1) 18) (lines_at capture (n + 1 + 1) (length capture)),
    )
  where
    snrm_line : (n : ℕ) → length (frame_line n 62 snrm) ≡ length (decimal n) + 18
    snrm_line n =
        let node : length (decimal 250) ≡ 3 = width_exact 250 (omega arith) in
        let size : length (decimal 0) ≡ 1 = width_exact 0 (omega arith) in
        simp length-append (omega arith)

    two_line : (n : ℕ) → length (refused_line n 18) ≡ length (decimal n) + 12
    two_line n = let refusal : length (decimal 18) ≡ 2 = width_exact 18 (omega arith) in simp length-append (omega arith)

    five : (n : ℕ) → 10000 ≤ n → n < 100000 → length (decimal n) ≡ 5
    five n many few = let most = five_digits n few in let least = tall_5 n many in omega arith

silent_total : total 1 16382 ≡ 283770
unfolding total
silent_total = refl

pub least : Least
unfolding lines_of
least =
    let capture = silences 16382 two_after_snrm in
    let long : length capture ≡ 65536 = length-silences 16382 two_after_snrm in
    let whole = ap length (listing_lines capture (omega arith)) in
    let lines = all_silences capture two_after_snrm 16382 0 refl (omega arith) in
    let last = last_lines capture 16383 65528 (drop-silences 16382 two_after_snrm) (omega arith) (omega arith) in
    let same : length capture - 0 ≡ length capture = omega arith in
    (long, omega (arith, rw same at lines, silent_total, length-append header (lines_of capture)))
