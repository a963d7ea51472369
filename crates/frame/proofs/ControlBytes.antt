-- The control byte: 84 known and 172 refused, and the round trip.
-- Assumes nothing.
use Prim.Native.Nat.{ℕ, ◌+◌, ◌*◌, ◌/◌, ◌%◌, ◌≤◌, ◌<◌}
use mathlib.Core.Path.{◌≡◌, refl, sym, ◌∙◌, ap}
use mathlib.Core.Bool.{Bool, true, false, ◌&&◌}
use mathlib.Core.List.{List, [], ◌∷◌}
use native.Mathlib.Omega.{arith}
use lib.Dec.{eqb, ltb, lit<}
use borrow.Author.Tests.{eqb-true, ltb-false, le-ltb}
use Rattle.frame.specs.Pick.{pick}
use Rattle.frame.specs.Answer.{gives}
use Rattle.frame.specs.Control.{known, look, byte_of, decode_of, encode_of, count_refusal, counts_refusal}
use Rattle.frame.specs.Promises.{Known84, RoundTrip}
use Rattle.frame.specs.declared.Meaning.{Meaning}
use Rattle.frame.specs.declared.Meaning.TheVariants.{I, Rr, Rnr, Snrm, Disc, Ua, Frmr}
use Rattle.frame.proofs.Laws.{pick_second, then_zero, unless_gives}
use Rattle.frame.proofs.Decoding.{by_whole, by_low_lem}

pub known_84 : Known84
unfolding decode_of known byte_of
known_84 = (refl, refl)

-- a count that is not refused is at most 7
pub count_small : (n : ℕ) → count_refusal n ≡ 0 → n ≤ 7
count_small n e = ltb-false 7 n (pick_second (ltb 7 n) 9 0 0 e (λ z. omega arith)).0

-- a byte of each kind that carries a count, by its low bits
i_back : (s r : ℕ) → s ≤ 7 → r ≤ 7 → decode_of (16 + 2 * s + 32 * r) ≡ gives (I (record { 0 = s }) (record { 0 = r }))
i_back s r p q =
    let b = 16 + 2 * s + 32 * r in
    let even : b % 2 ≡ 0 = omega arith in
    let low : b % 32 ≡ 16 + 2 * s = omega arith in
    let high : b / 32 ≡ r = omega arith in
    let ns : (16 + 2 * s) / 2 % 8 ≡ s = omega arith in
    let polled : ltb (16 + 2 * s) 16 ≡ false = le-ltb (16 + 2 * s) 16 (omega arith) in
    by_low_lem b (omega arith) ∙ simp (even, low, high, ns, polled)

odd_back : (bare r : ℕ) → bare < 32 → bare % 2 ≡ 1 → r ≤ 7
    → decode_of (bare + 32 * r)
    ≡ pick (eqb bare 17) (gives (Rr (record { 0 = r }))) (pick (eqb bare 21) (gives (Rnr (record { 0 = r }))) (by_whole (bare + 32 * r)))
odd_back bare r h o q =
    let b = bare + 32 * r in
    let odd : b % 2 ≡ 1 = omega arith in
    let low : b % 32 ≡ bare = omega arith in
    let high : b / 32 ≡ r = omega arith in
    by_low_lem b (omega arith) ∙ simp (odd, low, high)

pub decode_byte : (m : Meaning) → counts_refusal m ≡ 0 → decode_of (byte_of m) ≡ gives m
unfolding counts_refusal decode_of known byte_of
decode_byte (I ns nr) e =
    let both = then_zero (count_refusal ns.0) (count_refusal nr.0) e in
    i_back ns.0 nr.0 (count_small ns.0 both.0) (count_small nr.0 both.1)
decode_byte (Rr nr) e = odd_back 17 nr.0 (lit< tt) refl (count_small nr.0 e)
decode_byte (Rnr nr) e = odd_back 21 nr.0 (lit< tt) refl (count_small nr.0 e)
decode_byte Snrm e = refl
decode_byte Disc e = refl
decode_byte Ua e = refl
decode_byte Frmr e = refl

decode_encode : (m : Meaning) (b : ℕ) → encode_of m ≡ gives b → decode_of b ≡ gives m
unfolding encode_of
decode_encode m b e = let found = unless_gives (counts_refusal m) (byte_of m) b e in ap decode_of (sym found.1) ∙ decode_byte m found.0

-- no meaning of a list is refused
abbrev right : List Meaning → Bool
right [] = true
right (m ∷ ms) = eqb (counts_refusal m) 0 && right ms

and_left : (a b : Bool) → (a && b) ≡ true → a ≡ true
and_left true b e = refl
and_left false b e = e

and_right : (a b : Bool) → (a && b) ≡ true → b ≡ true
and_right true b e = e
and_right false b e = cc

look_encode : (b : ℕ) (ms : List Meaning) (m : Meaning) → right ms ≡ true → look b ms ≡ gives m → encode_of m ≡ gives b
unfolding encode_of
look_encode b [] m t e = cc
look_encode b (k ∷ ms) m t e = go (eqb b (byte_of k)) refl (look_encode b ms m (and_right (eqb (counts_refusal k) 0) (right ms) t)) e
  where
    go : (x : Bool) → eqb b (byte_of k) ≡ x → (look b ms ≡ gives m → encode_of m ≡ gives b) → pick x (gives k) (look b ms) ≡ gives m → encode_of m ≡ gives b
    go true q later f = let same : m ≡ k = cc in rw same (rw (and_left (eqb (counts_refusal k) 0) (right ms) t) (ap gives (sym (eqb-true b (byte_of k) q))))
    go false q later f = later f

encode_decode : (b : ℕ) (m : Meaning) → decode_of b ≡ gives m → encode_of m ≡ gives b
unfolding decode_of known counts_refusal
encode_decode b m e = look_encode b known m refl e

pub round_trip : RoundTrip
round_trip = (decode_encode, encode_decode)
