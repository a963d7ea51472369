-- Each call gives the numbers of its list and no other.
-- Assumes nothing.
use Rattle.std.proofs.Common.{ℕ, Bool, eqb, ltb, List, [], ◌∷◌, refl}
use mathlib.Core.List.Memᴰ.{head as here}
use mathlib.Core.List.Memᴰ.{tail as there}
use Rattle.frame.specs.Answer.{Among, Lists}
use Rattle.frame.specs.declared.Meaning.{Meaning}
use Rattle.frame.proofs.Laws.{pick_both, pick_among, then_among, then_both}
use Rattle.frame.proofs.Numbers.{numbers as frame-numbers}
use Rattle.side.specs.Given.{Given}
use Rattle.side.proofs.Calls.{refusing_lists}
use Rattle.side.proofs.Numbers.{numbers as side-numbers, address_wrong_numbers, room_numbers}
use Rattle.master.specs.Master.{limit_refusal, limit_wrong, outer_wrong, master_wrong, blank, make_refusal, make_of, put_of, take_of, restart_of, clear_of}
use Rattle.master.specs.Order.{waiting_refusal, order_refusal, order_of}
use Rattle.master.specs.Response.{idle_refusal, silence_refusal, response_refusal, counts_as_silence, Report, response_of, silence_of}
use Rattle.master.specs.Promises.{Numbers}
use Rattle.master.specs.declared.Master.{Master}

limit_numbers : (l : ℕ) → Among (limit_refusal l) (0 ∷ 15 ∷ [])
unfolding limit_refusal
limit_numbers l = pick_among (ltb l 1) (there (here refl)) (pick_among (ltb 65535 l) (there (here refl)) (here refl))

make_numbers : (a l : ℕ) → Among (make_refusal a l) (0 ∷ 8 ∷ 15 ∷ [])
unfolding make_refusal
make_numbers a l = then_among (8 ∷ []) (15 ∷ []) (frame-numbers.address a) (limit_numbers l)

outer_numbers : (ks : List ℕ) (a l : ℕ) → Among (outer_wrong a l) (0 ∷ 30 ∷ ks)
unfolding outer_wrong limit_wrong
outer_numbers ks a l =
    then_both (address_wrong_numbers ks a) (pick_among (eqb (limit_refusal l) 0) (here refl) (there (here refl)))

wrong_numbers : (m : Master) → Among (master_wrong m) (0 ∷ 30 ∷ [])
unfolding master_wrong
wrong_numbers m = then_both (outer_numbers [] m.address m.limit) (side-numbers.wrong m.side)

waiting_numbers : (waiting : Bool) → Among (waiting_refusal waiting) (0 ∷ 17 ∷ [])
waiting_numbers waiting = pick_among waiting (there (here refl)) (here refl)

order_numbers : (m : Master) (room : ℕ) → Among (order_refusal m room) (0 ∷ 30 ∷ 17 ∷ 11 ∷ [])
unfolding order_refusal
order_numbers m room =
    then_among (30 ∷ []) (17 ∷ 11 ∷ []) (wrong_numbers m) (then_among (17 ∷ []) (11 ∷ []) (waiting_numbers m.waiting) (room_numbers room))

idle_numbers : (waiting : Bool) → Among (idle_refusal waiting) (0 ∷ 16 ∷ [])
idle_numbers waiting = pick_among waiting (here refl) (there (here refl))

silence_numbers : (m : Master) → Among (silence_refusal m) (0 ∷ 30 ∷ 16 ∷ [])
unfolding silence_refusal
silence_numbers m = then_among (30 ∷ []) (16 ∷ []) (wrong_numbers m) (idle_numbers m.waiting)

response_numbers : (m : Master) (f : Meaning) (k : List ℕ) → Among (response_refusal m f k) (0 ∷ 30 ∷ 16 ∷ 9 ∷ 10 ∷ 12 ∷ [])
unfolding response_refusal
response_numbers m f k = then_among (30 ∷ 16 ∷ []) (9 ∷ 10 ∷ 12 ∷ []) (silence_numbers m) (frame-numbers.frame f k)

pub numbers : Numbers
unfolding make_of put_of take_of order_of response_of silence_of restart_of clear_of
numbers =
    record {
      wrong = wrong_numbers;
      make = λ a l. refusing_lists (8 ∷ 15 ∷ []) (make_refusal a l) blank _ (make_numbers a l) tt;
      put = λ m k. refusing_lists (30 ∷ 10 ∷ 12 ∷ 13 ∷ []) (outer_wrong m.address m.limit) m _ (outer_numbers (10 ∷ 12 ∷ 13 ∷ []) m.address m.limit) (side-numbers.put m.side k);
      take = λ m room. refusing_lists (30 ∷ 14 ∷ 11 ∷ []) (outer_wrong m.address m.limit) m _ (outer_numbers (14 ∷ 11 ∷ []) m.address m.limit) (side-numbers.take m.side room);
      order = λ m tick room. refusing_lists (30 ∷ 17 ∷ 11 ∷ []) (order_refusal m room) m _ (order_numbers m room) tt;
      response = λ m a f k tick. refusing_lists (30 ∷ 16 ∷ 9 ∷ 10 ∷ 12 ∷ []) (response_refusal m f k) m _ (response_numbers m f k)
          (pick_both (λ (x : Given Report Master). Lists (30 ∷ 16 ∷ 9 ∷ 10 ∷ 12 ∷ []) x.answer) (counts_as_silence m a tick) _ _ tt tt);
      silence = λ m. refusing_lists (30 ∷ 16 ∷ []) (silence_refusal m) m _ (silence_numbers m) tt;
      restart = λ m. refusing_lists (30 ∷ []) (master_wrong m) m _ (wrong_numbers m) tt;
      clear = λ m. refusing_lists (30 ∷ []) (master_wrong m) m _ (wrong_numbers m) tt;
    }
