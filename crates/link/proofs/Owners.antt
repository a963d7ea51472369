-- What the owners' calls do, seen over lists.
-- Assumes nothing.
use Prim.Native.Nat.{ℕ, ◌≤◌}
use mathlib.Core.Path.{◌≡◌, refl, sym, ◌∙◌, ap}
use mathlib.Core.Bool.{false}
use mathlib.Core.List.{List, [], ◌∷◌}
use native.Mathlib.Omega.{arith}
use lib.ListN.{length, take}
use Rattle.frame.specs.Refusal.{frame_refusal}
use Rattle.frame.specs.declared.Meaning.{Meaning}
use Rattle.frame.proofs.Laws.{pick_cases, then_zero}
use Rattle.side.specs.Given.{Given, giving, refusing, lifted, size_given}
use Rattle.side.specs.Side.{cleared, Arrays}
use Rattle.side.specs.Right.{address_wrong}
use Rattle.side.specs.Slot.{put_refusal, with_held, put_of, take_refusal, emptied, take_of, laid, room_refusal}
use Rattle.side.specs.declared.Side.{Side}
use Rattle.frame.specs.declared.Line.{Line}
use Rattle.side.specs.declared.answer.News.{News}
use Rattle.side.proofs.Parts.{take_fits}
use Rattle.slave.specs.Slave as slave
use Rattle.slave.specs.Step.{step_refusal, step_of}
use Rattle.slave.specs.declared.Slave.{Slave}
use Rattle.master.specs.Master as master
use Rattle.master.specs.declared.Master.{Master}
use Rattle.delivery.specs.Link as link
use Rattle.delivery.specs.Link.{Message}
use Rattle.delivery.specs.Runs as lists
use Rattle.delivery.specs.Runs.{log_put, log_taken}
use Rattle.delivery.specs.Exchanges.{neither}
use Rattle.link.specs.Ends.{end_of}
use Rattle.link.specs.Runs.{World, master_put, slave_put, master_take, slave_take, master_clear, slave_clear, overhears, bears, put_told, taken_told, master_called, slave_called, step, over_lists}
use Rattle.link.proofs.Does.{Does, refusing_cases, put_nothing, taken-nothing}
use Rattle.link.proofs.Sides.{put_seen, front, take-seen, clear_seen}

-- what is at the front of the buffer is what take is to give over lists
take_front : (s : Side) (out : List ℕ) → Arrays s → take_refusal s (length out) ≡ 0
    → take s.waits (laid s.waits s.incoming out) ∷ [] ≡ link.taken_by link.take (end_of s)
take_front s out a z =
    let fits = take_fits s (length out) z in
    let small : s.waits ≤ length s.incoming = omega arith in
    ap (λ (m : List ℕ). m ∷ []) (front s.waits s.incoming out small) ∙ sym (take-seen s (length out) z).1

-- one of the two ends at w, as its owner calls it: the end with another side, and the world after a call
record Owner (w : World) (E : Type 0) : Type 0 where
  side : Side
  on : Side → E
  after : E → List Message → List Message → World
  -- a refused call changes nothing
  refuses : Does (over_lists w) (over_lists (after (on side) [] [])) neither
  -- a call that turns the side into t does what c does over lists
  calls : (t : Side) (put taken : List Message) (c : link.Call)
      → end_of t ≡ link.called c (end_of side) → put ≡ link.put_by c (end_of side) → taken ≡ link.taken_by c (end_of side)
      → Does (over_lists w) (over_lists (after (on t) put taken)) neither

-- the calls of either owner; n is what number 30 finds wrong outside the side
module _ (w : World) {E : Type 0} (o : Owner w E) (n : ℕ) where
  put_does : (m : List ℕ)
      → let g = refusing n (o.on o.side) (lifted o.on (put_of o.side m)) in
      Does (over_lists w) (over_lists (o.after g.end (put_told m g.answer) [])) neither
  unfolding put_of
  put_does m =
      refusing_cases P n (o.on o.side) _ (λ k. o.refuses)
      (λ _. refusing_cases (λ (g : Given (Unit {0}) Side). P (lifted o.on g)) (put_refusal o.side m) o.side _ (λ k. o.refuses)
      (λ z. let seen = put_seen o.side m z in o.calls (with_held m o.side) (m ∷ []) [] (link.put m) seen.0 (sym seen.1) refl))
    where
      P : Given (Unit {0}) E → Type 0
      P g = Does (over_lists w) (over_lists (o.after g.end (put_told m g.answer) [])) neither

  take_does : (out : List ℕ) → Arrays o.side
      → let g = refusing n (o.on o.side) (lifted o.on (take_of o.side (length out))) in
      let buffer = laid (size_given (λ (k : ℕ). k) g.answer) o.side.incoming out in
      Does (over_lists w) (over_lists (o.after g.end [] (taken_told buffer g.answer))) neither
  unfolding take_of
  take_does out a =
      refusing_cases P n (o.on o.side) _ (λ k. o.refuses)
      (λ _. refusing_cases (λ (g : Given ℕ Side). P (lifted o.on g)) (take_refusal o.side (length out)) o.side _ (λ k. o.refuses)
      (λ z. o.calls (emptied o.side) [] _ link.take (take-seen o.side (length out) z).0 refl (take_front o.side out a z)))
    where
      P : Given ℕ E → Type 0
      P g =
          Does (over_lists w)
          (over_lists (o.after g.end [] (taken_told (laid (size_given (λ (k : ℕ). k) g.answer) o.side.incoming out) g.answer))) neither

  clear_does :
      let g = refusing {A = Unit {0}} n (o.on o.side) (giving tt (o.on (cleared o.side))) in
      Does (over_lists w) (over_lists (o.after g.end [] [])) neither
  clear_does =
      refusing_cases (λ (g : Given (Unit {0}) E). Does (over_lists w) (over_lists (o.after g.end [] [])) neither) n (o.on o.side) _ (λ k. o.refuses)
      (λ z. o.calls (cleared o.side) [] [] link.clear (clear_seen o.side) refl refl)

module _ (w : World) where
  abbrev master_owner_lem : Owner w Master
  master_owner_lem =
      record {
        side = w.master.side;
        on = master.on_side w.master;
        after = master_called w;
        refuses =
            record {
              event = lists.refused;
              step = λ i. record { master = over.master; slave = over.slave; line = over.line; down = put_nothing w.down i; up = taken-nothing w.up i };
              turn = refl;
            };
        calls =
            λ t put taken c e x y. record {
              event = lists.master_owner c;
              step =
                  λ i. record {
                    master = record { mode = over.master.mode; busy = w.master.busy; waiting = w.master.waiting; end = e i };
                    slave = over.slave;
                    line = over.line;
                    down = log_put w.down (x i);
                    up = log_taken w.up (y i);
                  };
              turn = refl;
            };
      }
    where
      over : lists.World
      over = over_lists w

  abbrev slave_owner_lem : Owner w Slave
  slave_owner_lem =
      record {
        side = w.slave.side;
        on = slave.on_side w.slave;
        after = slave_called w;
        refuses =
            record {
              event = lists.refused;
              step = λ i. record { master = over.master; slave = over.slave; line = over.line; down = taken-nothing w.down i; up = put_nothing w.up i };
              turn = refl;
            };
        calls =
            λ t put taken c e x y. record {
              event = lists.slave_owner c;
              step =
                  λ i. record {
                    master = over.master;
                    slave = record { mode = over.slave.mode; end = e i };
                    line = over.line;
                    down = log_taken w.down (y i);
                    up = log_put w.up (x i);
                  };
              turn = refl;
            };
      }
    where
      over : lists.World
      over = over_lists w

  pub master_put_lem : (m : List ℕ) → Does (over_lists w) (over_lists (step w (master_put m))) neither
  unfolding master.put_of
  master_put_lem m = put_does w master_owner_lem (master.outer_wrong w.master.address w.master.limit) m

  pub slave_put_lem : (m : List ℕ) → Does (over_lists w) (over_lists (step w (slave_put m))) neither
  unfolding slave.put_of
  slave_put_lem m = put_does w slave_owner_lem (address_wrong w.slave.address) m

  pub master-take : (out : List ℕ) → Arrays w.master.side → Does (over_lists w) (over_lists (step w (master_take out))) neither
  unfolding master.take_of
  master-take out a = take_does w master_owner_lem (master.outer_wrong w.master.address w.master.limit) out a

  pub slave-take : (out : List ℕ) → Arrays w.slave.side → Does (over_lists w) (over_lists (step w (slave_take out))) neither
  unfolding slave.take_of
  slave-take out a = take_does w slave_owner_lem (address_wrong w.slave.address) out a

  pub master_clear_lem : Does (over_lists w) (over_lists (step w master_clear)) neither
  unfolding master.clear_of
  master_clear_lem = clear_does w master_owner_lem (master.master_wrong w.master)

  pub slave_clear_lem : Does (over_lists w) (over_lists (step w slave_clear)) neither
  unfolding slave.clear_of
  slave_clear_lem = clear_does w slave_owner_lem (slave.slave_wrong w.slave)

  -- what is said to another station changes nothing: the step refuses it
  pub slave_overhears : (a : ℕ) (f : Meaning) (k out : List ℕ) → Does (over_lists w) (over_lists (step w (overhears a f k out))) neither
  unfolding step_of step_refusal
  slave_overhears a f k out =
      pick_cases (λ (v : World). Does (over_lists w) (over_lists v) neither) (bears w.slave.address a) _ _
      (λ t. record { event = lists.refused; step = refl; turn = refl })
      (λ t. refusing_cases (λ (g : Given (Line × News) Slave). Does (over_lists w) (over_lists (slave_called w g.end [] [])) neither)
      (step_refusal w.slave a f k (length out)) w.slave _ (λ n. slave_owner_lem.refuses) (λ z. absurd (other t z)))
    where
      other : bears w.slave.address a ≡ false → step_refusal w.slave a f k (length out) ≡ 0 → ⊥
      other t z =
          let right = (then_zero (slave.slave_wrong w.slave) _ z).1 in
          let lent = (then_zero (room_refusal (length out)) _ right).1 in
          let own = (then_zero (frame_refusal f k) _ lent).1 in
          let zero : ◌≡◌ {A = ℕ} 19 0 = rw t at own in
          omega arith
