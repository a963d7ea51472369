-- `reader::seek::find` meets its contract. The invariant: the window holds the last eight bits, and what is known of flags before the place. The measure is what is left of the bits.
use Prim.Native.Nat.{ℕ, ◌*◌, ◌/◌, ◌+◌, ◌<◌, ◌≤◌}
use mathlib.Core.Path.{◌≡◌, ◌∙◌, sym, ap}
use mathlib.Core.Bool.{true}
use mathlib.Core.List.{List}
use native.Mathlib.Omega.{arith}
use lib.ListN.{length, get_or, take}
use lib.Seq.{length-take-le, get_or-take}
use Rattle.bits.specs.Bits.{bits_of, num}
use Rattle.bits.proofs.BitLaws.{length_bits_of}
use Rattle.reader.specs.Flags.{heard}
use Rattle.std.proofs.Common.{Option, Some, None}
use Rattle.std.specs.declared.ops.Range.{Range}
use Rattle.reader.specs.Search.{closed_at, opened_at, located_in, LocatedWithin}
use Rattle.reader.proofs.Seeking.{Seek, seek_first, seek_turn, seek_found, open_ends}
use Rattle.reader.proofs.seek.find.Goals as goal

-- the stated bits are there
long : (a : List ℕ) (n : ℕ) → n ≤ 8 * length a → length (take n (bits_of a)) ≡ n
long a n h = length-take-le n (bits_of a) (omega (arith, length_bits_of a))

-- one turn of the loop, over the stated bits
module _ (a : List ℕ) (n i w : ℕ) (s : Option ℕ) (b w' : ℕ) (k : Seek (take n (bits_of a)) i w s) (whole : n ≤ 8 * length a) (h : i < n)
    (is-bit : b ≡ num (get_or (bits_of a) i true)) (is-window : w' ≡ w / 2 + 128 * b) where
  comes : w' ≡ w / 2 + 128 * num (get_or (take n (bits_of a)) i true)
  comes = is-window ∙ ap (λ (x : ℕ). w / 2 + 128 * x) (is-bit ∙ ap num (sym (get_or-take n (bits_of a) i true h)))

  within : i < length (take n (bits_of a))
  within = omega (arith, long a n whole)

  turned : closed_at w' s (i + 1) ≡ None → Seek (take n (bits_of a)) (i + 1) w' (opened_at w' s (i + 1))
  turned e = seek_turn (take n (bits_of a)) i w s w' k within comes e

  located : (r : Range ℕ) → closed_at w' s (i + 1) ≡ Some r → (located_in (take n (bits_of a)) (Some r) ≡ heard (take n (bits_of a))) × (LocatedWithin n (Some r))
  located r e =
      let f = seek_found (take n (bits_of a)) i w s w' k within comes r e in
      (f.0, (f.1.0, omega (arith, f.1.1, long a n whole)))

pub loop-place-init : goal.loop-place-init
loop-place-init c = seek_first _

pub returns-in-Some-clause-content : goal.returns-in-Some-clause-content
returns-in-Some-clause-content c =
    (located c.args.buffer.now c.args.bits _ _ _ _ _ c.loop-place.invariant c.requires c.loop-place-test.true c.bit.ensures c.shift_in-window.ensures
    c.in-Some.content
    (sym c.closed.ensures ∙ c.in-Some.is)).0

pub loop-place-preserved : goal.loop-place-preserved
loop-place-preserved c =
    rw c.opened-start.ensures
    (turned c.args.buffer.now c.args.bits _ _ _ _ _ c.loop-place.invariant c.requires c.loop-place-test.true c.bit.ensures c.shift_in-window.ensures
    (sym c.closed.ensures ∙ c.in_default.is))

pub returns-clause-content : goal.returns-clause-content
returns-clause-content c =
    let a = c.args in
    let l = take a.bits (bits_of a.buffer.now) in
    let k = c.loop-place.invariant in
    let all : c.loop-place.place ≡ length l = omega (arith, long a.buffer.now a.bits c.requires) in
    sym (open_ends l (rw all at k.known))
