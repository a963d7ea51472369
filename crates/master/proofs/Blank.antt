-- The end that a refused making gives is refused by every call.
-- Assumes nothing.
use Rattle.std.proofs.Common.{◌≡◌, ℕ, refl, ne_eqb}
use Rattle.frame.specs.Refusal.{address_refusal}
use Rattle.side.specs.Right.{address_wrong}
use Rattle.master.specs.Master.{outer_wrong, master_wrong, blank, make_refusal, make_of, put_of, take_of, restart_of, clear_of}
use Rattle.master.specs.Order.{order_refusal, order_of}
use Rattle.master.specs.Response.{silence_refusal, response_refusal, response_of, silence_of}
use Rattle.master.specs.Promises.{BlankRefused}

made : (a l : ℕ) → (make_refusal a l ≡ 0 → ⊥) → (make_of a l).end ≡ blank
unfolding make_of
made a l n = rw (ne_eqb (make_refusal a l) 0 n)

pub blank-refused : BlankRefused
unfolding put_of take_of order_of order_refusal response_of response_refusal silence_of silence_refusal restart_of clear_of master_wrong outer_wrong address_wrong address_refusal
blank-refused =
    record {
      make = made;
      put = λ k. refl;
      take = λ room. refl;
      order = λ tick room. refl;
      response = λ a f k tick. refl;
      silence = refl;
      restart = refl;
      clear = refl;
    }
