-- The end that a refused making gives is refused by every call.
-- Assumes nothing.
use Prim.Native.Nat.{ℕ}
use mathlib.Core.Path.{◌≡◌, refl}
use borrow.Author.Tests.{ne_eqb}
use Rattle.frame.specs.Refusal.{address_refusal}
use Rattle.side.specs.Right.{address_wrong}
use Rattle.slave.specs.Slave.{slave_wrong, blank, make_of, put_of, take_of, restart_of, clear_of}
use Rattle.slave.specs.Step.{step_refusal, step_of}
use Rattle.slave.specs.Promises.{BlankRefused}

made : (a : ℕ) → (address_refusal a ≡ 0 → ⊥) → (make_of a).end ≡ blank
unfolding make_of
made a n = rw (ne_eqb (address_refusal a) 0 n)

pub blank-refused : BlankRefused
unfolding put_of take_of step_of step_refusal restart_of clear_of slave_wrong address_wrong address_refusal
blank-refused =
    record {
      make = made;
      put = λ m. refl;
      take = λ room. refl;
      step = λ a f m room. refl;
      restart = refl;
      clear = refl;
    }
