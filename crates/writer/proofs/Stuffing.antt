-- Zero insertion in pieces: bit by bit within a byte, and byte by byte.
-- Assumes nothing.
use Prim.Native.Nat.{ℕ, zero, suc, ◌+◌, ◌-◌, ◌*◌, ◌/◌, ◌%◌, ◌^◌, ◌≤◌, ◌<◌}
use mathlib.Core.Path.{◌≡◌, ◌∙◌, refl, sym, ap, ap₂}
use mathlib.Core.Bool.{Bool, true, false}
use mathlib.Core.List.{List, ◌∷◌, ◌++◌}
use native.Mathlib.Omega.{arith}
use native.Mathlib.Nat.{mul-add, mul_assoc, mul_comm, one-mul}
use lib.Arith.{digits_lt}
use borrow.Author.Tests.{eq-eqb, ne_eqb}
use lib.ListN.{length, length-append}
use lib.Pow.{pow-add, shr-shr, shl_exact}
use Rattle.bits.specs.Bits.{odd, low, val}
use Rattle.bits.specs.Insert.{sent, after, insert, trail}
use Rattle.bits.proofs.BitLaws.{length-low, low-val, val-append, val_small}
use Rattle.bits.proofs.Insertion.{length-insert, zeros_few}
use Rattle.writer.specs.Stuff.{Stepped, Inserted}
use Rattle.writer.specs.declared.stuff.Run.{Run}
use Rattle.writer.specs.declared.stuff.Stuffed.{Stuffed}

-- bit k of a byte, and those above it
pub low_step : (k x : ℕ) → k < 8 → low (8 - k) (x / 2 ^ k) ≡ odd (x / 2 ^ k) ∷ low (8 - (k + 1)) (x / 2 ^ (k + 1))
unfolding low
low_step k x h =
    let e : 8 - k ≡ suc (8 - (k + 1)) = omega arith in
    rw (e, sym (shr-shr x k 1)) refl

-- the weight of the next bit, in 32 bits
pub weight : (n : ℕ) → n ≤ 10 → 1 * 2 ^ n % 4294967296 ≡ 2 ^ n
weight n h = shl_exact {a = 1} 1 n 32 (omega arith) (omega arith) ∙ one-mul (2 ^ n)

-- the three cases of a bit
module _ (s : Stuffed) where
  pub stepped_zero : {few : 0 < 5} → Stepped s false (record { bits = s.bits; count = s.count + 1; run = record { ones = 0; few = few } })
  unfolding val
  stepped_zero = omega arith

  pub stepped_fifth : {few : 0 < 5} → s.run.ones ≡ 4
      → Stepped s true (record { bits = s.bits + 2 ^ s.count; count = s.count + 2; run = record { ones = 0; few = few } })
  unfolding val
  stepped_fifth h =
      let e = eq-eqb s.run.ones 4 h in
      record { bits = rw e (omega arith); count = rw e (omega arith); run = rw e }

  pub stepped_one : {few : s.run.ones + 1 < 5} → (s.run.ones ≡ 4 → ⊥)
      → Stepped s true (record { bits = s.bits + 2 ^ s.count; count = s.count + 1; run = record { ones = s.run.ones + 1; few = few } })
  unfolding val
  stepped_one h =
      let e = ne_eqb s.run.ones 4 h in
      record { bits = rw e (omega arith); count = rw e (omega arith); run = rw e }

-- while the bits y of x are left, after a run of r ones: what went out, and what is still to go out, is all
pub record Stuffing (r : ℕ) (x : List Bool) (s : Stuffed) (y : List Bool) : Type 0 where
  pub bits : s.bits + 2 ^ s.count * val (insert s.run.ones y) ≡ val (insert r x)
  pub count : s.count + length (insert s.run.ones y) ≡ length (insert r x)
  pub run : trail s.run.ones y ≡ trail r x
  pub under : s.bits < 2 ^ s.count

pub stuffing_turn : {r : ℕ} {x : List Bool} {s : Stuffed} {b : Bool} {y : List Bool} {n : Stuffed}
    → Stuffing r x s (b ∷ y) → Stepped s b n → Stuffing r x n y
unfolding insert trail
stuffing_turn {r} {x} {s} {b} {y} {n} f e =
    let out = sent s.run.ones b in
    let still = insert (after s.run.ones b) y in
    let p = 2 ^ length out in
    let q = 2 ^ s.count in
    let place : 2 ^ n.count ≡ q * p = ap (λ (i : ℕ). 2 ^ i) e.count ∙ pow-add 2 s.count (length out) in
    record {
      bits =
          ap₂ (λ (i j : ℕ). i + j) e.bits (ap₂ (λ (i j : ℕ). i * val (insert j y)) place e.run ∙ mul_assoc q p (val still))
          ∙ (let d = mul-add q (val out) (p * val still) in
          let a : s.bits + q * val out + q * (p * val still) ≡ s.bits + q * (val out + p * val still) = omega arith in a)
          ∙ ap (λ (i : ℕ). s.bits + q * i) (sym (val-append out still)) ∙ f.bits;
      count =
          ap₂ (λ (i j : ℕ). i + length (insert j y)) e.count e.run
          ∙ (let d = length-append out still in let a : s.count + length out + length still ≡ s.count + length (out ++ still) = omega arith in a) ∙ f.count;
      run = ap (λ (i : ℕ). trail i y) e.run ∙ f.run;
      under =
          let d : val out * q + s.bits < p * q = digits_lt (val_small out) f.under in
          let i = e.bits in let j = place in let k = mul_comm q (val out) in let l = mul_comm q p in
          omega arith;
    }

pub stuffing_done : {r : ℕ} {x : List Bool} {s : Stuffed} (k y : ℕ) → Stuffing r x s (low k y) → k ≡ 0 → Inserted r x s
unfolding low insert val trail
stuffing_done zero y f h = record { bits = let e = f.bits in omega arith; count = let e = f.count in omega arith; run = f.run }
stuffing_done (suc k) y f h = absurd (omega arith)

-- a byte goes out as ten bits at most
pub byte_few : (r : Run) (x : ℕ) → length (insert r.ones (low 8 x)) ≤ 10
byte_few r x = omega (arith, length-insert r.ones (low 8 x), zeros_few r.ones r.few (low 8 x), length-low 8 x)

-- the number that goes out for a byte has the bits that go out
module _ {r : ℕ} {x : List Bool} {s : Stuffed} (f : Inserted r x s) where
  pub stuffed_small : s.bits < 2 ^ s.count
  stuffed_small = rw (f.bits, f.count) (val_small (insert r x))

  pub stuffed_low : low s.count s.bits ≡ insert r x
  stuffed_low = ap₂ low f.count f.bits ∙ low-val (insert r x)
