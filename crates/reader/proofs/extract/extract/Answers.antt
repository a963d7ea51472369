-- `reader::extract::extract` meets its contract. The invariant: the kept bits of the part before the place stand in the bytes and in the window. The measure is what is left of the part.
use Prim.Native.Nat.{ℕ, ◌-◌, ◌*◌, ◌/◌, ◌+◌, ◌<◌, ◌≤◌}
use mathlib.Core.Path.{◌≡◌, ◌∙◌, ap}
use mathlib.Core.Bool.{Bool, true}
use mathlib.Core.List.{List, [], ◌∷◌, ◌++◌}
use native.Mathlib.Omega.{arith}
use lib.ListN.{length, get_or, set, drop, length-take}
use Rattle.bits.specs.Bits.{bits_of, num}
use Rattle.bits.proofs.BitLaws.{length_bits_of}
use Rattle.reader.specs.Extract.{run_after}
use Rattle.reader.specs.Flags.{part}
use Rattle.reader.proofs.Keeping.{Keep, keep_first, keep_skip, keep_bit, keep_all, part-next}
use Rattle.reader.proofs.extract.extract.Goals as goal

-- as many bits are kept as there are, at most
short : (s e : ℕ) (l : List Bool) (bytes : List ℕ) (n w run : ℕ) → Keep (part s e l) bytes n w run → s ≤ e → n ≤ e - s
short s e l bytes n w run k h = omega (arith, k.few, length-take (e - s) (drop s l))

-- a turn, over the part
module _ (a : List ℕ) (s e i : ℕ) (bytes : List ℕ) (n w run b : ℕ) (k : Keep (part s i (bits_of a)) bytes n w run)
    (h : s ≤ i) (g : i < e) (whole : e ≤ 8 * length a) (is-bit : b ≡ num (get_or (bits_of a) i true)) where
  next : part s (i + 1) (bits_of a) ≡ part s i (bits_of a) ++ (get_or (bits_of a) i true ∷ [])
  next = part-next s e i (bits_of a) h g (omega (arith, length_bits_of a))

  skipped : run ≡ 5 → Keep (part s (i + 1) (bits_of a)) bytes n w 0
  skipped five = rw next (keep_skip (part s i (bits_of a)) (get_or (bits_of a) i true) bytes n w run k five)

  kept_on : (w' run' : ℕ) → (run ≡ 5 → ⊥) → w' ≡ w / 2 + 128 * b → run' ≡ run_after run b → e ≤ 8 * length bytes
      → Keep (part s (i + 1) (bits_of a)) (set bytes (n / 8) w') (n + 1) w' run'
  kept_on w' run' other comes is-run room =
      rw (next, is-run, is-bit)
      (keep_bit (part s i (bits_of a)) (get_or (bits_of a) i true) bytes n w run k w' other
      (comes ∙ ap (λ (x : ℕ). w / 2 + 128 * x) is-bit)
      (omega (arith, short s i (bits_of a) bytes n w run k h)))

-- the kept bits so far leave room for one more
room : (s i e : ℕ) (l : List Bool) (bytes : List ℕ) (n w run m : ℕ) → Keep (part s i l) bytes n w run → s ≤ i → i < e → e ≤ 8 * m → n / 8 < m
room s i e l bytes n w run m k h g f = omega (arith, short s i l bytes n w run k h)

pub loop-place-init : goal.loop-place-init
loop-place-init c =
    let none : c.args.content.start - c.args.content.start ≡ 0 = omega arith in
    rw none (keep_first c.args.bytes.now)

pub loop-place-preserved-then-run-eq5 : goal.loop-place-preserved-then-run-eq5
loop-place-preserved-then-run-eq5 c =
    let a = c.args in
    skipped a.buffer.now a.content.start a.content.end _ _ _ _ _ _ c.loop-place.invariant (omega arith) (omega arith) c.requires.1 c.bit-bit.ensures c.if-run-eq5.true

pub bounds-bytes-bits : goal.bounds-bytes-bits
bounds-bytes-bits c =
    let a = c.args in
    room a.content.start c.loop-place.place a.content.end (bits_of a.buffer.now) _ _ _ _ _ c.loop-place.invariant (omega arith) (omega arith) (omega arith)

pub overflow_add-bits : goal.overflow_add-bits
overflow_add-bits c =
    let a = c.args in
    omega (arith, short a.content.start c.loop-place.place (bits_of a.buffer.now) _ _ _ _ c.loop-place.invariant (omega arith))

pub lengthened-run-requires : goal.lengthened-run-requires
lengthened-run-requires c = let small = c.loop-place.invariant.small in omega arith

pub loop-place-preserved : goal.loop-place-preserved
loop-place-preserved c =
    let a = c.args in
    kept_on a.buffer.now a.content.start a.content.end _ _ _ _ _ _ c.loop-place.invariant (omega arith) (omega arith) c.requires.1 c.bit-bit.ensures _ _
    c.if-run-eq5.false
    c.shift_in-window.ensures
    c.lengthened-run.ensures
    (omega arith)

pub returns : goal.returns
returns c =
    let a = c.args in
    let all : c.loop-place.place ≡ a.content.end = omega arith in
    keep_all (part a.content.start a.content.end (bits_of a.buffer.now)) _ _ _ _ (rw all at c.loop-place.invariant)
