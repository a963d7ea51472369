-- What the writer answers: the control byte of the frame, and the report of one that no test refuses.
-- Assumes nothing.
use Prim.Native.Nat.{ℕ, ◌+◌, ◌-◌, ◌*◌, ◌≤◌}
use mathlib.Core.Path.{◌≡◌, ◌∙◌, ap}
use mathlib.Core.List.{List}
use native.Mathlib.Omega.{arith}
use lib.ListN.{length}
use Rattle.frame.specs.Answer.{gives}
use Rattle.frame.specs.Control.{byte_of, counts_refusal, encode_of}
use Rattle.frame.specs.Refusal.{address_refusal, information_refusal, frame_refusal}
use Rattle.frame.specs.declared.Meaning.{Meaning}
use Rattle.frame.proofs.Laws.{unless_gives}
use Rattle.bits.specs.Bits.{bits_of}
use Rattle.bits.specs.Insert.{zeros}
use Rattle.bits.proofs.BitLaws.{length_bits_of}
use Rattle.bits.proofs.Insertion.{length-insert}
use Rattle.writer.specs.Write.{Report, report, content_bytes, line, room_refusal, write_refusal, write_of}
use Rattle.writer.proofs.Lining.{length-line, length_content}

pub encode_gives : (m : Meaning) (b : ℕ) → encode_of m ≡ gives b → (counts_refusal m ≡ 0) × (byte_of m ≡ b)
unfolding encode_of
encode_gives m b e = unless_gives (counts_refusal m) (byte_of m) b e

module _ (address control : ℕ) (info : List ℕ) where
  -- what was laid: both flags, eight bits a byte, and the zeros
  pub counted : let content = content_bytes address control info in
      length (line content) ≡ 8 * (length info + 6) + zeros 0 (bits_of content)
  counted =
      let content = content_bytes address control info in
      omega (arith, length-line content, length-insert 0 (bits_of content), length_bits_of content, length_content address control info)

  -- bits laid for a content that lies in its pieces
  module _ {whole : List ℕ} (same : whole ≡ content_bytes address control info) {bits : ℕ} (laid : bits ≡ length (line whole)) where
    pub enough : 8 * (length info + 6) ≤ bits
    enough = omega (arith, counted, laid, ap (λ (l : List ℕ). length (line l)) same)

    pub reported : (n : ℕ) → n ≡ bits - 8 * (length info + 6) → ◌≡◌ {A = Report} (record { bits = bits; zeros = n }) (report (content_bytes address control info))
    reported n e =
        let b = laid ∙ ap (λ (l : List ℕ). length (line l)) same in
        let z : n ≡ zeros 0 (bits_of (content_bytes address control info)) = omega (arith, e, b, counted) in
        λ i. record { bits = b i; zeros = z i }

  -- a frame that no test refuses
  pub written : (m : Meaning) (room : ℕ) → address_refusal address ≡ 0 → encode_of m ≡ gives control → information_refusal m info ≡ 0
      → room_refusal (content_bytes address control info) room ≡ 0 → write_of address m info room ≡ gives (report (content_bytes address control info))
  unfolding write_of write_refusal frame_refusal
  written m room a e i r = let k = encode_gives m control e in rw (a, k.0, k.1, i, r)
