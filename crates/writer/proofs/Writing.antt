-- The writer's answers: how large a frame can be, their numbers, and that the definition of their values loses nothing.
-- Assumes nothing.
use Prim.Native.Nat.{ℕ, ◌≤◌}
use mathlib.Core.Path.{refl, subst}
use mathlib.Core.List.Memᴰ.{head as here}
use mathlib.Core.List.Memᴰ.{tail as there}
use mathlib.Core.List.{List, [], ◌∷◌}
use native.Mathlib.Omega.{arith}
use lib.Dec.{ltb}
use lib.ListN.{length}
use Rattle.frame.specs.Pick.{◌then◌}
use Rattle.frame.specs.Control.{byte_of, counts_refusal}
use Rattle.frame.specs.Refusal.{address_refusal, information_refusal, frame_refusal}
use Rattle.frame.specs.declared.Meaning.{Meaning}
use Rattle.frame.proofs.Laws.{pick_among, then_zero, then_among, unless_gives, unless_lists}
use Rattle.frame.proofs.Messages.{information_few}
use Rattle.frame.proofs.Numbers.{numbers}
use Rattle.frame.proofs.LosesNothing.{answer_one}
use Rattle.bits.specs.Bits.{bits_of}
use Rattle.bits.specs.Packed.{bytes_for}
use Rattle.bits.proofs.BitLaws.{length_bits_of}
use Rattle.bits.proofs.Insertion.{zeros-counted}
use Rattle.writer.specs.Write.{Report, report, line, content_of, room_refusal, write_refusal, write_of}
use Rattle.writer.specs.Promises.{Within, WriteWithin, WriteNumbers, WriteLosesNothing}
use Rattle.writer.proofs.Lining.{length-line, length_content}

within : (address : ℕ) (m : Meaning) (info : List ℕ) → length info ≤ 253 → Within info (report (content_of address m info))
within address m info few =
    let content = content_of address m info in
    let z = zeros-counted (bits_of content) in
    let n = length_content address (byte_of m) info in
    let l = length-line content in
    let b = length_bits_of content in
    record { fifth = omega arith; bytes = omega arith; zeros = omega arith; bits = omega arith; buffer = omega arith }

pub write_within : WriteWithin
unfolding write_of write_refusal frame_refusal
write_within address m info room r e =
    let room0 = room_refusal (content_of address m info) room in
    let given = unless_gives (write_refusal address m info room) (report (content_of address m info)) r e in
    let parts = (then_zero (address_refusal address) (frame_refusal m info then room0) given.0).1 in
    let frame = (then_zero (frame_refusal m info) room0 parts).0 in
    let information = (then_zero (counts_refusal m) (information_refusal m info) frame).1 in
    subst (λ (x : Report). Within info x) given.1 (within address m info (information_few m info information))

pub write_numbers : WriteNumbers
unfolding write_of write_refusal
write_numbers address m info room =
    let content = content_of address m info in
    unless_lists (report content)
    (then_among (8 ∷ []) (9 ∷ 10 ∷ 12 ∷ 11 ∷ []) (numbers.address address)
    (then_among (9 ∷ 10 ∷ 12 ∷ []) (11 ∷ []) (numbers.frame m info) (pick_among (ltb room (bytes_for (length (line content)))) (there (here refl)) (here refl))))

pub write_loses_nothing : WriteLosesNothing
write_loses_nothing a b e = answer_one a b e
