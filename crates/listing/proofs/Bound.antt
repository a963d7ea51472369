-- The longest listing: how many bytes the lines of a capture can have.
-- Assumes nothing.
use Prim.Native.Nat.{ℕ, zero, suc, ◌+◌, ◌*◌, ◌-◌, ◌/◌, ◌%◌, ◌≤◌, ◌<◌}
use mathlib.Core.Path.{◌≡◌, refl, ap, subst}
use mathlib.Core.Bool.{Bool, true, false}
use mathlib.Core.List.Memᴰ.{head as here}
use mathlib.Core.List.Memᴰ.{tail as there}
use mathlib.Core.List.{List, [], ◌∷◌, ◌++◌}
use native.Mathlib.Omega.{arith}
use lib.Dec.{eqb, ltb}
use lib.ListN.{length, get_or, take, drop, length-append}
use borrow.Author.Tests.{ltb-true, ltb-false, eqb-true, le-ltb}
use Rattle.frame.specs.Pick.{pick}
use Rattle.frame.specs.Answer.{Answer, gives, refuses, answer, Among, Lists}
use Rattle.frame.specs.Control.{count_refusal, counts_refusal, byte_of, encode_of, decode_of}
use Rattle.frame.specs.Refusal.{address_refusal, none_refusal, information_refusal}
use Rattle.frame.specs.declared.Meaning.{Meaning}
use Rattle.frame.specs.declared.Meaning.TheVariants.{I, Rr, Rnr, Snrm, Disc, Ua, Frmr}
use Rattle.frame.proofs.Laws.{pick_cases, pick_both, pick_first, pick_second, then_zero, unless_gives}
use Rattle.frame.proofs.ControlBytes.{round_trip}
use Rattle.frame.proofs.Messages.{none_empty, information_few}
use Rattle.capture.specs.declared.records.Frame.{Frame}
use Rattle.capture.specs.Record.{with_information, with_control, frame_in, Entry, silence, Step, way_of}
use Rattle.capture.specs.Promises.{record_numbers}
use Rattle.capture.proofs.Standing.{Stands, ends, fails, waits, speaks, stands}
use Rattle.capture.proofs.Numbers.{numbers}
use Rattle.std.proofs.Common.{Result, Ok, IsOk}
use lib.Seq.{take-append_seam}
use Rattle.frame.specs.declared.number.Refusal.{Refusal}
use Rattle.listing.specs.declared.text.Text.{Text}
use Rattle.listing.specs.Decimal.{decimal}
use Rattle.listing.specs.Listing.{name, ns_field, nr_field, frame_line, entry_line, refused_line, line_of, follow, lines_from, lines_of, header, listing, output_refusal, list_of, list_bytes}
use Rattle.listing.specs.Promises.{Suffices, NeverRefused}
use Rattle.listing.proofs.Digits.{decimal_one, decimal_more}
use Rattle.listing.proofs.Lines.{lines_at, Sofar}
use Rattle.listing.proofs.LosesNothing.{loses_nothing}

-- ten times as many numbers have one digit more
pub wider : (a k : ℕ) → ((n : ℕ) → n < a → length (decimal n) ≤ k) → 1 ≤ k → (n : ℕ) → n < 10 * a → length (decimal n) ≤ k + 1
wider a k small one n h = go (ltb n 10) refl
  where
    go : (t : Bool) → ltb n 10 ≡ t → length (decimal n) ≤ k + 1
    go true e = let l = ap length (decimal_one n (ltb-true n 10 e)) in omega arith
    go false e =
        let tenth = small (n / 10) (omega arith) in
        let l = ap length (decimal_more n (ltb-false n 10 e)) in
        omega (arith, length-append (decimal (n / 10)) ((48 + n % 10) ∷ []))

pub one_digit : (n : ℕ) → n < 10 → length (decimal n) ≤ 1
one_digit n h = let l = ap length (decimal_one n h) in omega arith

pub two_digits : (n : ℕ) → n < 100 → length (decimal n) ≤ 2
two_digits = wider 10 1 one_digit (omega arith)

pub three_digits : (n : ℕ) → n < 1000 → length (decimal n) ≤ 3
three_digits = wider 100 2 two_digits (omega arith)

pub four_digits : (n : ℕ) → n < 10000 → length (decimal n) ≤ 4
four_digits = wider 1000 3 three_digits (omega arith)

pub five_digits : (n : ℕ) → n < 100000 → length (decimal n) ≤ 5
five_digits = wider 10000 4 four_digits (omega arith)

-- how many digits a number below 100,000 has
abbrev pub width : ℕ → ℕ
width n = pick (ltb n 10) 1 (pick (ltb n 100) 2 (pick (ltb n 1000) 3 (pick (ltb n 10000) 4 5)))

pub in_width : (n : ℕ) → n < 100000 → length (decimal n) ≤ width n
in_width n h =
    let Few : ℕ → Type 0 = λ (w : ℕ). length (decimal n) ≤ w in
    pick_cases Few (ltb n 10) _ _ (λ t. one_digit n (ltb-true n 10 t))
    (λ _. pick_cases Few (ltb n 100) _ _ (λ t. two_digits n (ltb-true n 100 t))
    (λ _. pick_cases Few (ltb n 1000) _ _ (λ t. three_digits n (ltb-true n 1000 t))
    (λ _. pick_cases Few (ltb n 10000) _ _ (λ t. four_digits n (ltb-true n 10000 t))
    (λ _. five_digits n h))))

count_short : (n : ℕ) → count_refusal n ≡ 0 → length (decimal n) ≤ 1
count_short n e = let few = ltb-false 7 n (pick_second (ltb 7 n) 9 0 0 e (λ z. omega arith)).0 in one_digit n (omega arith)

none_short : (info : List ℕ) → none_refusal info ≡ 0 → length (decimal (length info)) ≤ 1
none_short info e = let none = none_empty info e in one_digit (length info) (omega arith)

-- name, counts and information size of a frame that is not refused have seven bytes at most
meaning_short : (m : Meaning) (info : List ℕ) → counts_refusal m ≡ 0 → information_refusal m info ≡ 0
    → length (name m) + length (ns_field m) + length (nr_field m) + length (decimal (length info)) ≤ 7
unfolding counts_refusal information_refusal
meaning_short (I ns nr) info c e =
    let both = then_zero (count_refusal ns.0) (count_refusal nr.0) c in
    let s = count_short ns.0 both.0 in
    let r = count_short nr.0 both.1 in
    let small = information_few (I ns nr) info e in
    let few = three_digits (length info) (omega arith) in
    omega arith
meaning_short (Rr nr) info c e =
    let r = count_short nr.0 c in let none = none_short info e in omega arith
meaning_short (Rnr nr) info c e =
    let r = count_short nr.0 c in let none = none_short info e in omega arith
meaning_short Snrm info c e = let none = none_short info e in omega arith
meaning_short Disc info c e = let none = none_short info e in omega arith
meaning_short Ua info c e = let none = none_short info e in omega arith
meaning_short Frmr info c e = let none = none_short info e in omega arith

-- the bytes of a frame's line beside its number: three of the address, seven of the rest, eight of way, spaces and newline
abbrev pub Short : Frame → Type 0
Short f =
    (length (decimal f.address) ≤ 3)
    × (length (name f.meaning) + length (ns_field f.meaning) + length (nr_field f.meaning) + length (decimal f.size) ≤ 7)

no_frame : {n : ℕ} {f : Frame} → refuses n ≡ gives f → ⊥
no_frame e = let z : ◌≡◌ {A = ℕ} 0 1 = cc in omega arith

address_small : (a : ℕ) → address_refusal a ≡ 0 → a < 1000
unfolding address_refusal
address_small a e =
    let low = pick_second (ltb a 1) 8 _ 0 e (λ z. omega arith) in
    let high = pick_second (ltb 250 a) 8 0 0 low.1 (λ z. omega arith) in
    let most = ltb-false 250 a high.0 in
    omega arith

-- a meaning that a control byte has is one whose counts are right
decoded-counts : (b : ℕ) (m : Meaning) → decode_of b ≡ gives m → counts_refusal m ≡ 0
unfolding encode_of
decoded-counts b m e = (unless_gives (counts_refusal m) (byte_of m) b (round_trip.1 b m e)).0

control_short : (address : ℕ) (x : Answer Meaning) (info : List ℕ) (f : Frame) → ((m : Meaning) → x ≡ gives m → counts_refusal m ≡ 0) → address_refusal address ≡ 0
    → with_control address x info ≡ gives f → Short f
unfolding with_information
control_short address (gives m) info f right h e =
    let both = unless_gives (information_refusal m info) (record { address = address; meaning = m; size = length info }) f e in
    subst Short both.1 (three_digits address (address_small address h), meaning_short m info (right m refl) both.0)
control_short address (refuses n) info f right h e = absurd (no_frame e)

pub frame_short : (body : List ℕ) (f : Frame) → frame_in body ≡ gives f → Short f
unfolding frame_in
frame_short body f e =
    let taken = pick_first (eqb (address_refusal (get_or body 0 0)) 0) _ _ (gives f) e no_frame in
    control_short (get_or body 0 0) (decode_of (get_or body 1 0)) (drop 2 body) f (decoded-counts (get_or body 1 0)) (eqb-true (address_refusal (get_or body 0 0)) 0 taken.0) taken.1

frame-line : (n way : ℕ) (f : Frame) → Short f → length (frame_line n way f) ≤ length (decimal n) + 18
frame-line n way f s = simp length-append (omega arith)

entry_line_lem : (n kind : ℕ) (f : Frame) → Short f → length (entry_line n (way_of kind f)) ≤ length (decimal n) + 18
entry_line_lem n kind f s =
    pick_both (λ (e : Entry). length (entry_line n e) ≤ length (decimal n) + 18) (eqb kind 1) _ _ (frame-line n 62 f s) (frame-line n 60 f s)

pub silent_line : (n : ℕ) → length (entry_line n silence) ≡ length (decimal n) + 13
silent_line n = simp length-append (omega arith)

refused-line : (n r : ℕ) → Among r record_numbers → length (refused_line n r) ≤ length (decimal n) + 12
refused-line n r among = let few = two_digits r (small among) in simp length-append (omega arith)
  where
    small : {k : ℕ} → Among k record_numbers → k < 100
    small (here e) = omega arith
    small (there (here e)) = omega arith
    small (there (there (here e))) = omega arith
    small (there (there (there (here e)))) = omega arith
    small (there (there (there (there (here e))))) = omega arith
    small {k = k} (there (there (there (there (there x20))))) = elim x20 [ ]

-- the bytes of q lines of silences from number k on
unfoldable pub total : ℕ → ℕ → ℕ
total k zero = 0
total k (suc q) = width k + 13 + total (k + 1) q

width_some : (n : ℕ) → 1 ≤ width n
width_some n =
    let Some : ℕ → Type 0 = λ (w : ℕ). 1 ≤ w in
    pick_both Some (ltb n 10) _ _ (omega arith)
    (pick_both Some (ltb n 100) _ _ (omega arith)
    (pick_both Some (ltb n 1000) _ _ (omega arith) (pick_both Some (ltb n 10000) _ _ (omega arith) (omega arith))))

total_more : (k q : ℕ) → total k q + 14 ≤ total k (suc q)
unfolding total
total_more k zero = omega (arith, width_some k)
total_more k (suc q) = omega (arith, total_more (k + 1) q)

-- Silences take the most room for their bytes, but for one frame with two bytes after it that are refused: four bytes more.
-- With two bytes to spare the lines stay one byte below the silences'.
pub record Within (long k left q : ℕ) : Type 0 where
  pub all : left ≤ 4 * q → long ≤ total k q + 4
  pub spare : left + 2 ≤ 4 * q → long + 1 ≤ total k q

none_within : (k left q : ℕ) → Within 0 k left q
unfolding total
none_within k left zero = record { all = λ h. omega arith; spare = λ h. absurd (omega arith) }
none_within k left (suc q) = record { all = λ h. omega arith; spare = λ h. omega (arith, width_some k) }

module _ {capture : List ℕ} {at : ℕ} (n : ℕ) (rest : ℕ → List ℕ) where
  step_within : {x : Answer Step} → Stands capture at x → Lists record_numbers x → (q : ℕ) → n < 100000
      → ((next k : ℕ) → k < q → Within (length (rest next)) (n + 1) (length capture - next) k)
      → Within (length (line_of n x ++ follow x rest)) n (length capture - at) q
  unfolding total
  step_within (ends h) among q few later = none_within n (length capture - at) q
  step_within (fails r h) among zero few later = record { all = λ k. absurd (omega arith); spare = λ k. absurd (omega arith) }
  step_within (fails r h) among (suc q) few later =
      let line = refused-line n r among in
      let digits = in_width n few in
      record {
        all = λ k. omega (arith, length-append (refused_line n r) []);
        spare = λ k. omega (arith, length-append (refused_line n r) []);
      }
  step_within (waits h) among zero few later = record { all = λ k. absurd (omega arith); spare = λ k. absurd (omega arith) }
  step_within (waits h) among (suc q) few later =
      let line = silent_line n in
      let digits = in_width n few in
      let w = later (at + 4) q (omega arith) in
      record {
        all = λ k. let a = w.all (omega arith) in omega (arith, length-append (entry_line n silence) (rest (at + 4)));
        spare = λ k. let a = w.spare (omega arith) in omega (arith, length-append (entry_line n silence) (rest (at + 4)));
      }
  step_within (speaks kind next body frame e far inside) among zero few later = record { all = λ k. absurd (omega arith); spare = λ k. absurd (omega arith) }
  step_within (speaks kind next body frame e far inside) among (suc zero) few later = record { all = λ k. absurd (omega arith); spare = λ k. absurd (omega arith) }
  step_within (speaks kind next body frame e far inside) among (suc (suc q)) few later =
      let line = entry_line_lem n kind frame (frame_short body frame e) in
      let digits = in_width n few in
      let near = later next (suc q) (omega arith) in
      let past = later next q (omega arith) in
      record {
        all = λ k. let a = near.spare (omega arith) in omega (arith, length-append (entry_line n (way_of kind frame)) (rest next));
        spare = λ k. let a = past.all (omega arith) in omega (arith, length-append (entry_line n (way_of kind frame)) (rest next), total_more (n + 1) q);
      }

lines_within : (b : ℕ) (capture : List ℕ) (n at q : ℕ) → n + q < 100000 → Within (length (lines_from b capture n at)) n (length capture - at) q
unfolding lines_from
lines_within zero capture n at q few = none_within n (length capture - at) q
lines_within (suc b) capture n at q few =
    step_within n (λ (next : ℕ). lines_from b capture (n + 1) next) (stands capture at) (numbers capture at) q (omega arith)
    (λ next k less. lines_within b capture (n + 1) next k (omega arith))

longest : total 1 16384 ≡ 283806
unfolding total
longest = refl

-- a capture that is listed has at most 283,810 bytes of lines
pub lines_short : (capture : List ℕ) → length capture ≤ 65536 → length (lines_of capture) ≤ 283810
unfolding lines_of
lines_short capture h = let w = (lines_within (length capture) capture 1 0 16384 (omega arith)).all (omega arith) in omega (arith, longest)

pub suffices : Suffices
unfolding listing
suffices capture =
    pick_cases (λ (text : List ℕ). length text ≤ 283838) (ltb 65536 (length capture)) _ _ (λ t. omega arith)
    (λ t. let lines = lines_short capture (ltb-false 65536 (length capture) t) in omega (arith, length-append header (lines_of capture)))

-- the listing on its way stays far below the largest numbers
pub sofar_short : {capture : List ℕ} {old new : Text} {place number : ℕ} → Sofar capture old new place number
    → length capture ≤ 65536 → old.at < 100 → (new.at < 1000000) × (number < 100000)
sofar_short {capture} {place = place} {number} s h k =
    let put = s.done.put.place in
    let whole = ap length s.whole in
    let lines = lines_short capture h in
    let inside = s.inside in
    let counted = s.counted in
    (omega (arith, length-append s.text (lines_at capture number place)), omega arith)

pub never_refused : NeverRefused
unfolding list_of output_refusal
never_refused capture room given h e =
    let few = suffices capture in
    let fits : length (listing capture) ≤ room = omega arith in
    let taken : answer given ≡ gives (length (listing capture)) = rw (le-ltb room (length (listing capture)) fits) at e in
    loses_nothing given (Ok (length (listing capture))) taken

-- it is given whole, and stands at the front of the lent bytes
module _ (capture out : List ℕ) {new : List ℕ} (given : Result ℕ Refusal) (is-answer : answer given ≡ list_of capture (length out)) (is-bytes : new ≡ list_bytes capture out)
    (room : 283838 ≤ length out) where
  pub given_ok : IsOk given
  given_ok = rw (never_refused capture (length out) given room is-answer) refl

  pub given_whole : {size : ℕ} → given ≡ Ok size → (size ≤ length out) × (take size new ≡ listing capture)
  unfolding list_bytes output_refusal
  given_whole {size} e =
      let few = suffices capture in
      let fits : length (listing capture) ≤ length out = omega arith in
      let ok : given ≡ Ok (length (listing capture)) = never_refused capture (length out) given room is-answer in
      let same : size ≡ length (listing capture) = cc in
      (omega arith, rw (is-bytes, le-ltb (length out) (length (listing capture)) fits, same) (take-append_seam (listing capture) (drop (length (listing capture)) out)))
