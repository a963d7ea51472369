-- The listing as `list` gives it: too long or header and lines; refused 11 or written.
-- Assumes nothing.
use Prim.Native.Nat.{ℕ, ◌+◌, ◌≤◌, ◌<◌}
use mathlib.Core.Path.{◌≡◌, ◌∙◌}
use mathlib.Core.List.{List, ◌++◌}
use native.Mathlib.Omega.{arith}
use lib.ListN.{length}
use lib.Seq.{sets-eq}
use borrow.Author.Tests.{lt-ltb, le-ltb}
use Rattle.frame.specs.Answer.{gives, refuses}
use Rattle.listing.specs.Listing.{too_long, header, lines_of, listing, output_refusal, list_of, list_bytes}
use Rattle.listing.specs.Put.{Put}

pub listing_long : (capture : List ℕ) → 65536 < length capture → listing capture ≡ too_long
unfolding listing
listing_long capture h = rw (lt-ltb 65536 (length capture) h)

pub listing_lines : (capture : List ℕ) → length capture ≤ 65536 → listing capture ≡ header ++ lines_of capture
unfolding listing
listing_lines capture h = rw (le-ltb 65536 (length capture) h)

-- refused, and the lent bytes stay
pub refused_answer : (capture : List ℕ) (room : ℕ) {old new : List ℕ} {size : ℕ} → Put (listing capture) 0 old new size → room < size → refuses 11 ≡ list_of capture room
unfolding list_of output_refusal
refused_answer capture room p h = let place = p.place in let small = lt-ltb room (length (listing capture)) (omega arith) in rw small

pub refused_bytes : (capture out : List ℕ) {old new : List ℕ} {size : ℕ} → Put (listing capture) 0 old new size → length out < size → out ≡ list_bytes capture out
unfolding list_bytes output_refusal
refused_bytes capture out p h = let place = p.place in let small = lt-ltb (length out) (length (listing capture)) (omega arith) in rw small

-- written, where the size that was measured before is no greater
pub taken_answer : (capture out : List ℕ) {old mid new : List ℕ} {size after : ℕ} → Put (listing capture) 0 old mid size → size ≤ length out
    → Put (listing capture) 0 out new after → gives after ≡ list_of capture (length out)
unfolding list_of output_refusal
taken_answer capture out {after = after} p h q =
    let place = p.place in
    let room = le-ltb (length out) (length (listing capture)) (omega arith) in
    let start : 0 + length (listing capture) ≡ length (listing capture) = omega arith in
    let same : after ≡ length (listing capture) = q.place ∙ start in
    rw (room, same)

pub taken_bytes : (capture out : List ℕ) {old mid new : List ℕ} {size after : ℕ} → Put (listing capture) 0 old mid size → size ≤ length out
    → Put (listing capture) 0 out new after → new ≡ list_bytes capture out
unfolding list_bytes output_refusal
taken_bytes capture out p h q =
    let place = p.place in
    let room = le-ltb (length out) (length (listing capture)) (omega arith) in
    let start : 0 + length (listing capture) ≡ length (listing capture) = omega arith in
    let put = sets-eq (listing capture) out 0 (omega arith) in
    rw room (q.bytes ∙ (rw start at put))
