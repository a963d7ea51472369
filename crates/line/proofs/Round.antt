-- The round trip: what is written is read, and what is read is written.
-- Assumes nothing.
use Prim.Native.Nat.{ℕ, zero, suc, ◌+◌, ◌-◌, ◌*◌, ◌/◌, ◌%◌, ◌<◌, ◌≤◌}
use mathlib.Core.Path.{◌≡◌, ◌∙◌, refl, sym, ap, ap₂}
use mathlib.Core.Bool.{Bool}
use mathlib.Core.List.{List, [], ◌∷◌, ◌++◌, append-nil}
use native.Mathlib.Omega.{arith}
use lib.Dec.{eqb, ltb, lit<}
use lib.ListN.{length, get_or, take, drop, length-append, length-take, length-drop, take-append-drop}
use lib.Seq.{take-append_seam, get_or-append_seam, get_or-append-add, get_or-drop}
use borrow.Author.Tests.{eq-eqb, ne_eqb, le-ltb, eqb-true, ltb-false}
use Rattle.frame.specs.Bytes.{Bytes}
use Rattle.frame.specs.Pick.{pick, ◌then◌}
use Rattle.frame.specs.Answer.{Answer, gives, refuses, unless}
use Rattle.frame.specs.Carried.{Carried}
use Rattle.frame.specs.Control.{byte_of, decode_of, count_refusal, counts_refusal}
use Rattle.frame.specs.Message.{information_in}
use Rattle.frame.specs.Refusal.{address_refusal, information_refusal, frame_refusal}
use Rattle.frame.specs.declared.Meaning.{Meaning}
use Rattle.frame.specs.declared.Meaning.TheVariants.{I, Rr, Rnr, Snrm, Disc, Ua, Frmr}
use Rattle.frame.proofs.Laws.{pick_cases, pick_first, pick_second, then_zero, unless_gives, gives_not}
use Rattle.frame.proofs.Bytes.{bytes_cons, bytes_append, bytes_drop}
use Rattle.frame.proofs.ControlBytes.{count_small, decode_byte, round_trip}
use Rattle.frame.proofs.Messages.{part as information_part, information_few}
use Rattle.bits.specs.Bits.{bits_of, bytes_of}
use Rattle.bits.specs.Insert.{insert, remove, ending}
use Rattle.bits.specs.Check.{check_word, check_bytes}
use Rattle.bits.specs.Count.{bit_count_refusal}
use Rattle.bits.specs.Packed.{bytes_for}
use Rattle.bits.proofs.BitLaws.{length_bits_of, bytes_back, bits_back, bytes_of_small, length_bytes_of}
use Rattle.bits.proofs.Insertion.{no_six_ones, length-insert, remove-insert, ending-insert, insert-remove, never_quiet}
use Rattle.writer.specs.Write.{content_bytes, line, content_of, report, room_refusal, write_refusal, write_of, write_bytes, laid}
use Rattle.writer.specs.declared.Report.{Report}
use Rattle.writer.specs.Promises.{WriteAllowed}
use Rattle.writer.proofs.Answering.{encode_gives}
use Rattle.writer.proofs.Lining.{length_content, laid_bits}
use Rattle.writer.proofs.Writing.{write_within}
use Rattle.reader.specs.Places.{Flag}
use Rattle.reader.specs.Flags.{Heard, nothing, content, heard}
use Rattle.reader.specs.Read.{◌before◌, removal_refusal, check_refusal, bytes_in, meant, frame_answer, content_answer, judged, fitting, read_of, told, out_after}
use Rattle.reader.specs.Promises.{ReadAllowed}
use Rattle.frame.specs.declared.Line.{Line}
use Rattle.frame.specs.declared.number.Refusal.{Refusal}
use Rattle.std.specs.Prelude.{Result, Ok}
use Rattle.reader.proofs.Answers.{read_loses_nothing}
use Rattle.reader.proofs.Judging.{before_passes, removal_passed}
use Rattle.reader.proofs.Windows.{flag_within}
use Rattle.reader.proofs.Enclosed.{enclosed_heard, heard_quiet}
use Rattle.line.specs.RoundTrip.{WrittenIsRead, CallsFit, ReadIsWritten, ContentIsWritten, CallsGive}

-- the check word is two bytes
check_bytes_lem : (x : List ℕ) → Bytes (check_bytes x)
unfolding check_bytes check_word
check_bytes_lem x zero = omega arith
check_bytes_lem x (suc zero) = omega arith
check_bytes_lem x (suc (suc i)) = omega arith

-- ---- a content of bytes, read

removal_passes : (n run : ℕ) → run < 5 → 4 ≤ n → n ≤ 257 → removal_refusal (8 * n) run ≡ 0
unfolding removal_refusal
removal_passes n run h few many =
    let whole : 8 * n % 8 ≡ 0 = omega arith in
    let size : 8 * n / 8 ≡ n = omega arith in
    rw (ne_eqb run 5 (λ e. omega arith), whole, size, le-ltb n 4 few, le-ltb 257 n many)

content_read : (f : List ℕ) → Bytes f → 4 ≤ length f → length f ≤ 257 → content_answer (insert 0 (bits_of f)) ≡ frame_answer f
unfolding content_answer bytes_in
content_read f b few many =
    let back = remove-insert 0 (lit< tt) (bits_of f) in
    let size : 8 * length f / 8 ≡ length f = omega arith in
    before_passes (removal_refusal (length (remove 0 (insert 0 (bits_of f)))) (ending 0 (insert 0 (bits_of f)))) _
    (ap (λ (n : ℕ). removal_refusal n (ending 0 (insert 0 (bits_of f)))) (ap length back ∙ length_bits_of f)
    ∙ removal_passes (length f) (ending 0 (insert 0 (bits_of f))) (ending-insert 0 (lit< tt) (bits_of f)) few many)
    ∙ ap frame_answer
    (ap (λ (x : List Bool). bytes_of (length x / 8) x) back
    ∙ ap (λ (n : ℕ). bytes_of (n / 8) (bits_of f)) (length_bits_of f)
    ∙ ap (λ (n : ℕ). bytes_of n (bits_of f)) size
    ∙ bytes_back f b)

-- the check word that follows its bytes is right
check_right : (x : List ℕ) → check_refusal (x ++ check_bytes x) ≡ 0
unfolding check_refusal check_bytes
check_right x =
    let w = check_word x in
    let long : length (x ++ (w % 256 ∷ w / 256 ∷ [])) ≡ length x + 2 = length-append x (w % 256 ∷ w / 256 ∷ []) in
    let front : length x + 2 - 2 ≡ length x = omega arith in
    let last : length x + 2 - 1 ≡ length x + 1 = omega arith in
    let whole : w ≡ w % 256 + 256 * (w / 256) = omega arith in
    rw (long, front, last, take-append_seam x (w % 256 ∷ w / 256 ∷ []), get_or-append_seam x (w % 256) (w / 256 ∷ []) 0, get_or-append-add x (w % 256 ∷ w / 256 ∷ []) 1 0)
    (rw (eq-eqb w (w % 256 + 256 * (w / 256)) whole))

frame_read : (a control : ℕ) (info : List ℕ) (m : Meaning) → address_refusal a ≡ 0 → decode_of control ≡ gives m → information_refusal m info ≡ 0
    → frame_answer ((a ∷ control ∷ info) ++ check_bytes (a ∷ control ∷ info)) ≡ gives (record { address = a; meaning = m; information = info })
unfolding frame_answer check_bytes
frame_read a control info m ha hm hi =
    let x = a ∷ control ∷ info in
    before_passes (check_refusal (x ++ check_bytes x)) _ (check_right x)
    ∙ before_passes (address_refusal a) _ ha
    ∙ ap₂ (λ (y : Answer Meaning) (i : List ℕ). meant y a i) hm (information_part a control info (check_word x % 256) (check_word x / 256))
    ∙ before_passes (information_refusal m info) _ hi

-- ---- a content, written again

pub content_written : ContentIsWritten
unfolding bytes_in
content_written l s c e z =
    let p = removal_passed (length (remove 0 c)) (ending 0 c) z in
    ap (insert 0) (bits_back (length (remove 0 c) / 8) (remove 0 c) (omega arith))
    ∙ insert-remove 0 (lit< tt) c (never_quiet 0 (omega arith) c (heard_quiet l s c e)) p.0

-- the last two bytes of a frame are its check word, low byte first
two_bytes : (w : ℕ) (y : List ℕ) → Bytes y → length y ≡ 2 → w ≡ get_or y 0 0 + 256 * get_or y 1 0 → w % 256 ∷ w / 256 ∷ [] ≡ y
two_bytes w [] b h e = absurd (omega arith)
two_bytes w (x ∷ []) b h e = absurd (omega arith)
two_bytes w (x ∷ y ∷ []) b h e =
    let small = b 0 in
    let low : w % 256 ≡ x = omega arith in
    let high : w / 256 ≡ y = omega arith in
    rw (low, high)
two_bytes w (x ∷ y ∷ z ∷ zs) b h e = absurd (omega arith)

checked : (f : List ℕ) → 2 ≤ length f → Bytes f → check_refusal f ≡ 0 → take (length f - 2) f ++ check_bytes (take (length f - 2) f) ≡ f
unfolding check_refusal check_bytes
checked f h b z =
    let n = length f - 2 in
    let w = check_word (take n f) in
    let right = pick_first (eqb w (get_or f n 0 + 256 * get_or f (length f - 1) 0)) 0 7 0 z (λ y. omega arith) in
    let first : n + 0 ≡ n = omega arith in
    let second : n + 1 ≡ length f - 1 = omega arith in
    let is : w ≡ get_or (drop n f) 0 0 + 256 * get_or (drop n f) 1 0 = eqb-true w _ right.0 ∙ sym (rw (get_or-drop n f 0 0, get_or-drop n f 1 0, first, second)) in
    ap (λ (y : List ℕ). take n f ++ y) (two_bytes w (drop n f) (bytes_drop n f b) (omega (arith, length-drop n f)) is)
    ∙ take-append-drop n f

two_more : (a c : ℕ) (g : List ℕ) (n : ℕ) → length (a ∷ c ∷ g) ≡ n → 4 ≤ n → a ∷ c ∷ take (n - 4) g ≡ take (n - 2) (a ∷ c ∷ g)
two_more a c g n e h = let k : n - 2 ≡ suc (suc (n - 4)) = omega arith in ap (λ (m : ℕ). take m (a ∷ c ∷ g)) (sym k)

-- a frame of at least four bytes is address, control, information, check word
frame_parts : (f : List ℕ) → 4 ≤ length f → Bytes f → check_refusal f ≡ 0
    → (get_or f 0 0 ∷ get_or f 1 0 ∷ information_in f) ++ check_bytes (get_or f 0 0 ∷ get_or f 1 0 ∷ information_in f) ≡ f
unfolding information_in
frame_parts f h b z = ap (λ (x : List ℕ). x ++ check_bytes x) (front f h) ∙ checked f (omega arith) b z
  where
    front : (f : List ℕ) → 4 ≤ length f → get_or f 0 0 ∷ get_or f 1 0 ∷ information_in f ≡ take (length f - 2) f
    front [] h = absurd (omega arith)
    front (a ∷ []) h = absurd (omega arith)
    front (a ∷ c ∷ g) h = two_more a c g (length (a ∷ c ∷ g)) refl h

four : (c : List Bool) → 4 ≤ length (remove 0 c) / 8 → 4 ≤ length (bytes_in c)
unfolding bytes_in
four c h = omega (arith, length_bytes_of (length (remove 0 c) / 8) (remove 0 c))

bytes_in_small : (c : List Bool) → Bytes (bytes_in c)
unfolding bytes_in
bytes_in_small c = bytes_of_small (length (remove 0 c) / 8) (remove 0 c)

-- ---- an answer with a frame, taken apart

before_gives : {A : Type 0} (n : ℕ) (x : Answer A) (v : A) → (n before x) ≡ gives v → (n ≡ 0) × (x ≡ gives v)
before_gives {A} n x v =
    pick_cases (λ (y : Answer A). y ≡ gives v → (n ≡ 0) × (x ≡ gives v)) (eqb n 0) x (refuses n) (λ t e. (eqb-true n 0 t, e)) (λ t e. absurd (gives_not (sym e)))

-- what is known of a frame's bytes that were read
record Taken (f : List ℕ) (v : Carried) : Type 0 where
  pub right : check_refusal f ≡ 0
  pub address : address_refusal v.address ≡ 0
  pub control : decode_of (get_or f 1 0) ≡ gives v.meaning
  pub information : information_refusal v.meaning v.information ≡ 0
  pub first : get_or f 0 0 ≡ v.address
  pub inside : information_in f ≡ v.information

frame-taken : (f : List ℕ) (v : Carried) → frame_answer f ≡ gives v → Taken f v
unfolding frame_answer
frame-taken f v e =
    let a = before_gives (check_refusal f) _ v e in
    let b = before_gives (address_refusal (get_or f 0 0)) _ v a.1 in
    known (decode_of (get_or f 1 0)) refl a.0 b.0 b.1
  where
    known : (x : Answer Meaning) → decode_of (get_or f 1 0) ≡ x → check_refusal f ≡ 0 → address_refusal (get_or f 0 0) ≡ 0 → meant x (get_or f 0 0) (information_in f) ≡ gives v → Taken f v
    known (refuses n) d p q r = absurd (gives_not (sym r))
    known (gives m) d p q r =
        let u = unless_gives (information_refusal m (information_in f)) _ v r in
        let meaning : m ≡ v.meaning = ap (λ (x : Carried). x.meaning) u.1 in
        let address : get_or f 0 0 ≡ v.address = ap (λ (x : Carried). x.address) u.1 in
        let information : information_in f ≡ v.information = ap (λ (x : Carried). x.information) u.1 in
        record {
          right = p;
          address = ap address_refusal (sym address) ∙ q;
          control = d ∙ ap gives meaning;
          information = ap₂ information_refusal (sym meaning) (sym information) ∙ u.0;
          first = address;
          inside = information;
        }

-- the writer takes it, and makes the same bytes of it
taken_content : (g : List ℕ) (v : Carried) → 4 ≤ length g → Bytes g → Taken g v → (counts_refusal v.meaning ≡ 0) × (content_of v.address v.meaning v.information ≡ g)
unfolding content_bytes
taken_content g v h b t =
    let m = encode_gives v.meaning (get_or g 1 0) (round_trip.1 (get_or g 1 0) v.meaning t.control) in
    let three : v.address ∷ byte_of v.meaning ∷ v.information ≡ get_or g 0 0 ∷ get_or g 1 0 ∷ information_in g =
    ap₂ (λ (x : ℕ) (y : List ℕ). x ∷ y) (sym t.first) (ap₂ (λ (x : ℕ) (y : List ℕ). x ∷ y) m.1 (sym t.inside)) in
    (m.0, ap (λ (x : List ℕ). x ++ check_bytes x) three ∙ frame_parts g h b t.right)

content_taken : (c : List Bool) (v : Carried) → content_answer c ≡ gives v → (removal_refusal (length (remove 0 c)) (ending 0 c) ≡ 0) × (frame_answer (bytes_in c) ≡ gives v)
unfolding content_answer
content_taken c v e = before_gives (removal_refusal (length (remove 0 c)) (ending 0 c)) (frame_answer (bytes_in c)) v e

judged-taken : (h : Heard) (v : Carried) → judged h ≡ gives v → (s : ℕ) × (c : List Bool) × (h ≡ content s c) × (content_answer c ≡ gives v)
judged-taken nothing v e = absurd (gives_not (sym e))
judged-taken (content s c) v e = (s, c, refl, e)

fitting-taken : (room : ℕ) (x : Answer Carried) (v : Carried) → fitting room x ≡ gives v → x ≡ gives v
fitting-taken room (gives f) v e = ap gives (unless_gives (pick (ltb room (length f.information)) 11 0) f v e).1
fitting-taken room (refuses n) v e = absurd (gives_not (sym e))

-- ---- a frame that the writer takes

address_small : (a : ℕ) → address_refusal a ≡ 0 → a < 256
unfolding address_refusal
address_small a e =
    let p = pick_second (ltb a 1) 8 _ 0 e (λ z. omega arith) in
    let q = pick_second (ltb 250 a) 8 0 0 p.1 (λ z. omega arith) in
    let few = ltb-false 250 a q.0 in
    omega arith

byte_small : (m : Meaning) → counts_refusal m ≡ 0 → byte_of m < 256
unfolding counts_refusal byte_of
byte_small (I ns nr) e =
    let both = then_zero (count_refusal ns.0) (count_refusal nr.0) e in
    omega (arith, count_small ns.0 both.0, count_small nr.0 both.1)
byte_small (Rr nr) e = omega (arith, count_small nr.0 e)
byte_small (Rnr nr) e = omega (arith, count_small nr.0 e)
byte_small Snrm e = omega arith
byte_small Disc e = omega arith
byte_small Ua e = omega arith
byte_small Frmr e = omega arith

module _ (address : ℕ) (m : Meaning) (info : List ℕ) (ha : address_refusal address ≡ 0) (hf : frame_refusal m info ≡ 0) (hb : Bytes info) where
  abbrev frame : List ℕ
  frame = content_of address m info

  abbrev carried : Carried
  carried = record { address = address; meaning = m; information = info }

  tests : (counts_refusal m ≡ 0) × (information_refusal m info ≡ 0)
  unfolding frame_refusal
  tests = then_zero (counts_refusal m) (information_refusal m info) hf

  frame_bytes : Bytes frame
  unfolding content_bytes
  frame_bytes =
      bytes_append (address ∷ byte_of m ∷ info) (check_bytes (address ∷ byte_of m ∷ info))
      (bytes_cons address (byte_of m ∷ info) (address_small address ha) (bytes_cons (byte_of m) info (byte_small m tests.0) hb))
      (check_bytes_lem (address ∷ byte_of m ∷ info))

  frame-judged : content_answer (insert 0 (bits_of frame)) ≡ gives carried
  unfolding content_bytes
  frame-judged =
      let n = length_content address (byte_of m) info in
      let few = information_few m info tests.1 in
      content_read frame frame_bytes (omega arith) (omega arith) ∙ frame_read address (byte_of m) info m ha (decode_byte m tests.0) tests.1

  not_empty : insert 0 (bits_of frame) ≡ [] → ⊥
  not_empty e =
      omega (arith, ap length e, length-insert 0 (bits_of frame), length_bits_of frame, length_content address (byte_of m) info)

  line-heard : (lead rest : List Bool) → ((p : ℕ) → Flag lead p → ⊥) → heard (lead ++ (line frame ++ rest)) ≡ content (length lead + 8) (insert 0 (bits_of frame))
  unfolding line
  line-heard lead rest free = enclosed_heard lead (insert 0 (bits_of frame)) rest free not_empty (no_six_ones (bits_of frame)).0

  read_back : (lead rest : List Bool) → ((p : ℕ) → Flag lead p → ⊥) → (buffer : List ℕ) (bits room : ℕ) → bit_count_refusal (length buffer) bits ≡ 0
      → take bits (bits_of buffer) ≡ lead ++ (line frame ++ rest) → read_of buffer bits room ≡ fitting room (gives carried)
  unfolding read_of
  read_back lead rest free buffer bits room z e =
      before_passes (bit_count_refusal (length buffer) bits) _ z
      ∙ ap (λ (x : List Bool). fitting room (judged (heard x))) e
      ∙ ap (λ (x : Heard). fitting room (judged x)) (line-heard lead rest free)
      ∙ ap (fitting room) frame-judged

  fits : (room : ℕ) → length info ≤ room → fitting room (gives carried) ≡ gives carried
  fits room h = ap (λ (t : Bool). unless (pick t 11 0) carried) (le-ltb room (length info) h)

  outcome : (buffer : List ℕ) (bits : ℕ) (out : List ℕ) (r : Result Line Refusal) (after : List ℕ) → read_of buffer bits (length out) ≡ gives carried → ReadAllowed buffer bits out r after
      → (r ≡ Ok (record { address = address; meaning = m; size = length info })) × (after ≡ info ++ drop (length info) out)
  outcome buffer bits out r after e a =
      (read_loses_nothing r (Ok (record { address = address; meaning = m; size = length info })) (a.answer ∙ ap told e), a.information ∙ ap (λ (x : Answer Carried). out_after x out) e)

-- ---- the promises

pub written_is_read : WrittenIsRead
written_is_read address m info ha hf hb lead rest free buffer bits z e out r after h a =
    outcome address m info ha hf hb buffer bits out r after
    (read_back address m info ha hf hb lead rest free buffer bits (length out) z e ∙ fits address m info ha hf hb (length out) h) a

pub read_is_written : ReadIsWritten
unfolding read_of frame_refusal
read_is_written buffer bits room f e =
    let l = take bits (bits_of buffer) in
    let a = before_gives (bit_count_refusal (length buffer) bits) _ f e in
    let j = judged-taken (heard l) f (fitting-taken room (judged (heard l)) f a.1) in
    let c = j.1 in
    let k = content_taken c f j.3 in
    let t = frame-taken (bytes_in c) f k.1 in
    let p = removal_passed (length (remove 0 c)) (ending 0 c) k.0 in
    let b = taken_content (bytes_in c) f (four c p.2) (bytes_in_small c) t in
    record {
      address = t.address;
      frame = rw b.0 t.information;
      place = j.0;
      same = j.2 ∙ ap (content j.0) (sym (ap (λ (x : List ℕ). insert 0 (bits_of x)) b.1 ∙ content_written l j.0 c j.2 k.0));
    }

-- what a writing that was not refused left in the buffer
module _ (address : ℕ) (m : Meaning) (info old buffer : List ℕ) (bits zeros : ℕ) (w : WriteAllowed address m info old (Ok (record { bits = bits; zeros = zeros })) buffer) where
  abbrev told_by_writer : Report
  told_by_writer = record { bits = bits; zeros = zeros }

  reported : (write_refusal address m info (length old) ≡ 0) × (report (content_of address m info) ≡ told_by_writer)
  unfolding write_of
  reported = unless_gives (write_refusal address m info (length old)) (report (content_of address m info)) told_by_writer (sym w.answer)

  is_bits : length (line (content_of address m info)) ≡ bits
  is_bits = ap (λ (r : Report). r.bits) reported.1

  taken : (address_refusal address ≡ 0) × (frame_refusal m info ≡ 0) × (bytes_for (length (line (content_of address m info))) ≤ length old)
  unfolding write_refusal
  taken =
      let room = room_refusal (content_of address m info) (length old) in
      let a = then_zero (address_refusal address) (frame_refusal m info then room) reported.0 in
      let b = then_zero (frame_refusal m info) room a.1 in
      (a.0, b.0, ltb-false (length old) _ (pick_second (ltb (length old) (bytes_for (length (line (content_of address m info))))) 11 0 0 b.1 (λ z. omega arith)).0)

  is_buffer : buffer ≡ laid (line (content_of address m info)) old
  unfolding write_bytes
  is_buffer = w.bytes ∙ ap (λ (n : ℕ). pick (eqb n 0) (laid (line (content_of address m info)) old) old) reported.0

  line_there : take bits (bits_of buffer) ≡ line (content_of address m info)
  line_there =
      ap₂ (λ (n : ℕ) (x : List ℕ). take n (bits_of x)) (sym is_bits) is_buffer ∙ (laid_bits (line (content_of address m info)) old taken.2).1

  count_right : bit_count_refusal (length buffer) bits ≡ 0
  unfolding bit_count_refusal
  count_right =
      let within = write_within address m info (length old) told_by_writer (sym w.answer) in
      let enough : bits ≤ 8 * length buffer = omega (arith, ap length line_there, is_bits, length-take bits (bits_of buffer), length_bits_of buffer) in
      rw (le-ltb 8192 bits (omega (arith, within.bits)), le-ltb (8 * length buffer) bits enough)

-- in no bits stands no flag
no_flag : (p : ℕ) → Flag [] p → ⊥
no_flag p f = omega (arith, flag_within [] p f)

pub calls_fit : CallsFit
calls_fit address m info old buffer bits zeros hb w out r after h a =
    let taken = taken address m info old buffer bits zeros w in
    written_is_read address m info taken.0 taken.1 hb [] [] no_flag buffer bits
    (count_right address m info old buffer bits zeros w)
    (line_there address m info old buffer bits zeros w ∙ sym (append-nil (line (content_of address m info))))
    out r after h a

pub calls_give : CallsGive
calls_give address m info old r hb e room =
    let w : WriteAllowed address m info old (Ok (record { bits = r.bits; zeros = r.zeros })) (write_bytes address m info old) = record { answer = sym e; bytes = refl } in
    let taken = taken address m info old _ r.bits r.zeros w in
    read_back address m info taken.0 taken.1 hb [] [] no_flag _ r.bits room (count_right address m info old _ r.bits r.zeros w)
    (line_there address m info old _ r.bits r.zeros w ∙ sym (append-nil (line (content_of address m info))))
