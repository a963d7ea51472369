-- Flag, content, flag: how many bits and bytes that is, and that the bytes laid are the bytes stated.
-- Assumes nothing.
use Prim.Native.Nat.{ℕ, ◌+◌, ◌*◌, ◌/◌, ◌%◌, ◌≤◌, ◌<◌}
use mathlib.Core.Path.{◌≡◌, ◌∙◌, refl, sym, ap, ap₂, subst}
use mathlib.Core.Bool.{Bool, true}
use mathlib.Core.List.{List, [], ◌∷◌, ◌++◌, append_assoc}
use native.Mathlib.Omega.{arith}
use lib.ListN.{length, take, drop, replicate, length-append, take-append-drop}
use lib.Seq.{take_at, length-take-le, take-take, take-append_seam, take-append-le}
use borrow.Author.Tests.{le-ltb}
use Rattle.frame.specs.Bytes.{Bytes}
use Rattle.frame.proofs.Bytes.{bytes_take}
use Rattle.bits.specs.Bits.{low, bits_of, bytes_of}
use Rattle.bits.specs.Flag.{flag}
use Rattle.bits.specs.Insert.{insert}
use Rattle.bits.specs.Packed.{bytes_for, padded, over}
use Rattle.bits.specs.Check.{check_word, check_bytes}
use Rattle.bits.proofs.BitLaws.{flag_bits, length_bits_of, bits_of_append, drop_bits, bytes_back, bits_back}
use Rattle.bits.proofs.Insertion.{zeros-counted}
use Rattle.writer.specs.Sink.{sofar, Added}
use Rattle.writer.specs.Write.{content_bytes, line, laid, room_refusal}
use Rattle.writer.specs.Promises.{LaidBits}
use Rattle.writer.specs.declared.packed.Sink.{Sink}
use Rattle.writer.proofs.Filling.{added_on}

pub length-line : (content : List ℕ) → length (line content) ≡ 16 + length (insert 0 (bits_of content))
unfolding line
length-line content = omega (arith, length-append (insert 0 (bits_of content)) flag)

-- "Content has at most 257 bytes, 2,056 bits; so 411 zeros, 2,483 line bits, 311 buffer bytes."
pub line_few : (content : List ℕ) → length content ≤ 257 → length (line content) ≤ 2483
line_few content h =
    let z = zeros-counted (bits_of content) in
    omega (arith, length-line content, length_bits_of content)

-- a sink before the first bit
abbrev pub Empty : Sink → Type 0
Empty s = (s.at ≡ 0) × ((s.acc ≡ 0) × (s.waits ≡ 0))

pub none_sofar : (out : List ℕ) (s : Sink) → Empty s → sofar out s ≡ []
unfolding sofar bits_of low
none_sofar out s d = rw (d.0, d.1.0, d.1.1) refl

module _ {old o1 o2 o3 : List ℕ} {s0 s1 s2 s3 : Sink} (content : List ℕ) where
  pub added_line : Added old s0 (low 8 0x7e) o1 s1 → Added o1 s1 (insert 0 (bits_of content)) o2 s2 → Added o2 s2 (low 8 0x7e) o3 s3
      → Added old s0 (line content) o3 s3
  unfolding line
  added_line a b c =
      subst (λ (x : List Bool). Added old s0 x o3 s3)
      (ap (λ (f : List Bool). f ++ insert 0 (bits_of content) ++ f) flag_bits ∙ append_assoc flag (insert 0 (bits_of content)) flag)
      (added_on (added_on a b) c)

  -- the same with the flag as a number of the code
  pub lined : {f g : ℕ} → f ≡ 0x7e → Added old s0 (low 8 f) o1 s1
      → Added o1 s1 (insert 0 (bits_of content)) o2 s2 → g ≡ 0x7e → Added o2 s2 (low 8 g) o3 s3 → Added old s0 (line content) o3 s3
  lined e a b i c = added_line (rw e at a) b (rw i at c)

-- the line's bits with seven ones behind them, of which those that wait are dropped
pub laid_bytes : {old out : List ℕ} {s0 s : Sink} (bits : List Bool) → Empty s0 → Added old s0 (bits ++ low 7 0x7f) out s
    → Bytes out → bytes_for (length bits) ≤ length old → out ≡ laid bits old
unfolding laid padded sofar bits_of low
laid_bytes {old} {out} {s0} {s} bits d a small room =
    let few = s.few in let p = a.place in let l = a.long in
    let at : s.at ≡ bytes_for (length bits) = omega (arith, length-append bits (replicate 7 true)) in
    let enough : s.at ≤ length out = omega arith in
    let first = take s.at out in
    let eight : length (bits_of first) ≡ 8 * s.at = length_bits_of first ∙ ap (λ (n : ℕ). 8 * n) (length-take-le s.at out enough) in
    let all : bits_of first ++ low s.waits s.acc ≡ bits ++ replicate 7 true = a.bits ∙ ap (λ (l : List Bool). l ++ (bits ++ replicate 7 true)) (none_sofar old s0 d) in
    let stored : bits_of first ≡ take (8 * s.at) (bits ++ replicate 7 true) = sym (take_at (bits_of first) (low s.waits s.acc) (8 * s.at) eight) ∙ ap (take (8 * s.at)) all in
    let bytes : first ≡ bytes_of s.at (take (8 * s.at) (bits ++ replicate 7 true)) =
    sym (bytes_back first (bytes_take s.at out small)) ∙ ap₂ bytes_of (length-take-le s.at out enough) stored in
    sym (take-append-drop s.at out) ∙ ap₂ (λ (x y : List ℕ). x ++ y) bytes a.rest
    ∙ ap (λ (n : ℕ). bytes_of n (take (8 * n) (bits ++ replicate 7 true)) ++ drop n old) at

-- ---- the content in its pieces, and the answer by room

pub content_is : (address control : ℕ) (info : List ℕ) {word : ℕ} {check : List ℕ} → word ≡ check_word (address ∷ control ∷ info) → word < 65536
    → check ≡ (word % 256 ∷ word / 256 % 256 ∷ []) → (address ∷ control ∷ []) ++ (info ++ check) ≡ content_bytes address control info
unfolding content_bytes check_bytes
content_is address control info {word} e h f =
    let high : word / 256 % 256 ≡ word / 256 = omega arith in
    ap (λ (l : List ℕ). address ∷ control ∷ (info ++ l)) (f ∙ ap (λ (n : ℕ). word % 256 ∷ n ∷ []) high ∙ ap (λ (w : ℕ). w % 256 ∷ w / 256 ∷ []) e)

pub length_content : (address control : ℕ) (info : List ℕ) → length (content_bytes address control info) ≡ length info + 4
unfolding content_bytes check_bytes
length_content address control info = omega (arith, length-append info (check_word (address ∷ control ∷ info) % 256 ∷ check_word (address ∷ control ∷ info) / 256 ∷ []))

pub has_room : (content : List ℕ) (room : ℕ) → bytes_for (length (line content)) ≤ room → room_refusal content room ≡ 0
has_room content room h = rw (le-ltb room (bytes_for (length (line content))) h)

-- ---- the bits of a buffer that bits were laid into

module _ (bits : List Bool) where
  bytes : ℕ
  bytes = bytes_for (length bits)

  length-padded : length (padded bits) ≡ 8 * bytes
  unfolding padded bytes
  length-padded = length-take-le (8 * bytes) (bits ++ replicate 7 true) (omega (arith, length-append bits (replicate 7 true)))

  pub padded-starts : take (length bits) (padded bits) ≡ bits
  unfolding padded
  padded-starts =
      take-take (length bits) (8 * bytes_for (length bits)) (bits ++ replicate 7 true) (omega arith) ∙ take-append_seam bits (replicate 7 true)

pub laid_bits : LaidBits
unfolding laid over bytes
laid_bits bits old room =
    let n = bytes_for (length bits) in
    let p = padded bits in
    let whole : bits_of (bytes_of n p) ≡ p = bits_back n p (length-padded bits) in
    let all : bits_of (laid bits old) ≡ p ++ bits_of (drop n old) = bits_of_append (bytes_of n p) (drop n old) ∙ ap (λ (l : List Bool). l ++ bits_of (drop n old)) whole in (
      all ∙ ap (λ (l : List Bool). p ++ l) (sym (drop_bits n old room) ∙ ap (λ (k : ℕ). drop k (bits_of old)) (sym (length-padded bits))),
      ap (take (length bits)) all ∙ take-append-le (length bits) p (bits_of (drop n old)) (omega (arith, length-padded bits)) ∙ padded-starts bits,
    )
