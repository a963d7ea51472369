-- The layers fit: orders and answers go over the line and come back, and no end refuses a reading for its form.
-- Assumes nothing.
use Prim.Native.Nat.{ℕ, ◌≤◌}
use mathlib.Core.Path.{◌≡◌, refl, sym, ◌∙◌, ap, subst}
use mathlib.Core.Bool.{Bool, true, false}
use mathlib.Core.List.Memᴰ.{head as here}
use mathlib.Core.List.Memᴰ.{tail as there}
use mathlib.Core.List.{List, [], ◌∷◌}
use native.Mathlib.Omega.{arith}
use lib.Dec.{eqb}
use lib.ListN.{length, take, length-take}
use borrow.Author.Tests.{eqb-true, le-ltb}
use Rattle.frame.specs.Bytes.{Bytes}
use Rattle.frame.specs.Pick.{pick}
use Rattle.frame.specs.Answer.{Answer, gives, refuses, unless, Among, Lists}
use Rattle.frame.specs.Refusal.{address_refusal, frame_refusal}
use Rattle.frame.specs.declared.Meaning.{Meaning}
use Rattle.frame.proofs.Laws.{pick_cases, pick_both, pick_first, pick_among, then_zero, then_among, unless_gives}
use Rattle.frame.proofs.Bytes.{bytes_take}
use Rattle.bits.specs.Packed.{bytes_for}
use Rattle.writer.specs.Write.{report, line, content_of, write_refusal, write_of}
use Rattle.writer.proofs.Writing.{write_within}
use Rattle.line.proofs.Round.{calls_give, read_is_written}
use Rattle.side.specs.Given.{Given, giving, refused, refusing, size_given}
use Rattle.side.specs.Right.{address_wrong, side_wrong}
use Rattle.side.specs.Slot.{laid, room_refusal as room_number}
use Rattle.frame.specs.declared.Line.{Line}
use Rattle.side.specs.declared.answer.News.{News}
use Rattle.side.proofs.Calls.{refusing_lists}
use Rattle.side.proofs.Numbers.{room_numbers}
use Rattle.slave.specs.Slave.{slave_wrong}
use Rattle.slave.specs.Step.{moved, step_refusal, step_of, step_bytes}
use Rattle.slave.specs.declared.Slave.{Slave}
use Rattle.slave.proofs.Keeps as slave-keeps
use Rattle.slave.proofs.Numbers.{numbers as slave-numbers}
use Rattle.master.specs.Master.{master_wrong, outer_wrong}
use Rattle.master.specs.Order.{orders, order_refusal, order_of, order_bytes}
use Rattle.master.specs.Response.{Report as Told, silence_refusal, response_refusal, counts_as_silence, response_of, silence_of}
use Rattle.master.specs.declared.Master.{Master}
use Rattle.master.proofs.Keeps as master-keeps
use Rattle.master.proofs.Numbers.{numbers as master-numbers}
use Rattle.link.specs.Runs.{carried}
use Rattle.link.proofs.Sides.{front}
use Rattle.link.proofs.Passes.{order_passes, response_passes}
use Rattle.link.proofs.Through.{order_address, moved_address}
use Rattle.paper.specs.Fit.{Fits, OrdersFit, StepsFit, ReadingsFit}

-- ---- the writer and the reader

-- a frame that passes 8, 9, 10 and 12 is taken into 311 bytes
module _ (a : ℕ) (f : Meaning) (info : List ℕ) (ha : address_refusal a ≡ 0) (hf : frame_refusal f info ≡ 0) where
  abbrev need : ℕ
  need = bytes_for (length (line (content_of a f info)))

  passes : (room : ℕ) → need ≤ room → write_of a f info room ≡ gives (report (content_of a f info))
  unfolding write_of write_refusal
  passes room h = rw (ha, hf, le-ltb room need h)

  few_bytes : need ≤ 311
  few_bytes = (write_within a f info need _ (passes need (omega arith))).buffer

  fits : Bytes info → length info ≤ 253 → Fits (record { address = a; meaning = f; information = info })
  fits b few = record { taken = λ room h. (_, passes room (omega (arith, few_bytes))); back = λ lent r e room. calls_give a f info lent r b e room; few = few }

-- ---- what an end says

address_right : (a : ℕ) → address_wrong a ≡ 0 → address_refusal a ≡ 0
unfolding address_wrong
address_right a e = eqb-true (address_refusal a) 0 (pick_first (eqb (address_refusal a) 0) 0 30 0 e (λ z. omega arith)).0

-- a frame whose information is the front of the held message, as it stands at the front of the lent buffer
module _ (held : List ℕ) (size : length held ≡ 253) (bytes : Bytes held) where
  said_fits : (l : Line) (out : List ℕ) → l.size ≤ 253 → address_refusal l.address ≡ 0 → frame_refusal l.meaning (take l.size held) ≡ 0
      → Fits (carried l (laid l.size held out))
  said_fits l out small ha hf =
      let same : take l.size held ≡ take l.size (laid l.size held out) = sym (front l.size held out (omega arith)) in
      subst (λ (x : List ℕ). Fits (record { address = l.address; meaning = l.meaning; information = x })) same
      (fits l.address l.meaning (take l.size held) ha hf (bytes_take l.size held bytes) (omega (arith, length-take l.size held)))

-- what is given was not refused
answer_of_lem : {A E : Type 0} (n : ℕ) (e f : E) (v : A) → (refusing n e (giving v f)).answer ≡ unless n v
answer_of_lem {A} {E} n e f v = go (eqb n 0)
  where
    go : (t : Bool) → (pick {A = Given A E} t (giving v f) (refused n e)).answer ≡ pick t (gives v) (refuses n)
    go true = refl
    go false = refl

given : {A E : Type 0} (n : ℕ) (e f : E) (v w : A) → (refusing n e (giving v f)).answer ≡ gives w → (n ≡ 0) × (v ≡ w)
given n e f v w q = unless_gives n v w (sym (answer_of_lem n e f v) ∙ q)

order_right : (m : Master) (room : ℕ) → order_refusal m room ≡ 0 → (address_refusal m.address ≡ 0) × (side_wrong m.side ≡ 0)
unfolding order_refusal master_wrong outer_wrong
order_right m room z =
    let right = then_zero (outer_wrong m.address m.limit) (side_wrong m.side) (then_zero (master_wrong m) _ z).0 in
    (address_right m.address (then_zero (address_wrong m.address) _ right.0).0, right.1)

pub orders_fit : OrdersFit
unfolding order_of
orders_fit m t tick out l e =
    let held = m.side.held in
    let g = given (order_refusal m (length out)) m (orders m tick).master (orders m tick).line l e in
    let right = order_right m (length out) g.0 in
    let same : carried l (laid l.size held out) ≡ carried l (order_bytes m tick out) =
    ap (λ (x : Answer Line). carried l (laid (size_given (λ (y : Line). y.size) x) held out)) (sym e) in
    subst Fits same
    (said_fits held t.held.0 t.held.1 l out
    (subst (λ (x : Line). x.size ≤ 253) g.1 (master-keeps.order_fits m tick (length out) g.0).0)
    (ap address_refusal (ap (λ (x : Line). x.address) (sym g.1) ∙ order_address m tick) ∙ right.0)
    (subst (λ (x : Line). frame_refusal x.meaning (take x.size held) ≡ 0) g.1 (order_passes m tick right.1)))

step_right : (s : Slave) (a : ℕ) (f : Meaning) (k : List ℕ) (room : ℕ) → step_refusal s a f k room ≡ 0
    → (address_refusal s.address ≡ 0) × (side_wrong s.side ≡ 0) × (frame_refusal f k ≡ 0)
unfolding step_refusal slave_wrong
step_right s a f k room z =
    let first = then_zero (slave_wrong s) _ z in
    let right = then_zero (address_wrong s.address) (side_wrong s.side) first.0 in
    let lent = then_zero (room_number room) _ first.1 in
    (address_right s.address right.0, right.1, (then_zero (frame_refusal f k) _ lent.1).0)

pub steps_fit : StepsFit
unfolding step_of
steps_fit s t a f k out l n e =
    let held = s.side.held in
    let x = moved s f k in
    let g = given (step_refusal s a f k (length out)) s x.slave (x.line, x.news) (l, n) e in
    let line : x.line ≡ l = ap (λ (v : Line × News). v.0) g.1 in
    let right = step_right s a f k (length out) g.0 in
    let same : carried l (laid l.size held out) ≡ carried l (step_bytes s a f k out) =
    ap (λ (y : Answer (Line × News)). carried l (laid (size_given (λ (v : Line × News). v.0.size) y) held out)) (sym e) in
    subst Fits same
    (said_fits held t.held.0 t.held.1 l out
    (subst (λ (y : Line). y.size ≤ 253) line (slave-keeps.step_fits s a f k (length out) g.0).0)
    (ap address_refusal (ap (λ (y : Line). y.address) (sym line) ∙ moved_address s f k) ∙ right.0)
    (subst (λ (y : Line). frame_refusal y.meaning (take y.size held) ≡ 0) line (response_passes s f k right.1 right.2)))

-- ---- what an end is handed

-- the number behind a listed answer
behind : {A E : Type 0} (ks : List ℕ) (n : ℕ) (e f : E) (v : A) → Lists ks (refusing n e (giving v f)).answer → Among n (0 ∷ ks)
behind {A} {E} ks n e f v =
    pick_cases (λ (g : Given A E). Lists ks g.answer → Among n (0 ∷ ks)) (eqb n 0) (giving v f) (refused n e)
    (λ t q. here (eqb-true n 0 t)) (λ t q. there q)

pub readings_fit : ReadingsFit
unfolding step_of step_refusal response_of response_refusal silence_of
readings_fit buffer bits room c e = (step, response)
  where
    right : frame_refusal c.meaning c.information ≡ 0
    right = (read_is_written buffer bits room c e).frame

    step : (s : Slave) (lent : ℕ) → Lists (30 ∷ 11 ∷ 19 ∷ []) (step_of s c.address c.meaning c.information lent).answer
    step s lent =
        refusing_lists (30 ∷ 11 ∷ 19 ∷ []) (step_refusal s c.address c.meaning c.information lent) s _
        (rw right (then_among (30 ∷ []) (11 ∷ 19 ∷ []) (slave-numbers.wrong s)
        (then_among (11 ∷ []) (19 ∷ []) (room_numbers lent) (pick_among (eqb c.address s.address) (here refl) (there (here refl))))))
        tt

    response : (m : Master) (tick : ℕ) → Lists (30 ∷ 16 ∷ []) (response_of m c.address c.meaning c.information tick).answer
    response m tick =
        refusing_lists (30 ∷ 16 ∷ []) (response_refusal m c.meaning c.information) m _
        (then_among (30 ∷ 16 ∷ []) [] (behind (30 ∷ 16 ∷ []) (silence_refusal m) m _ tt (master-numbers.silence m)) (here right))
        (pick_both (λ (g : Given Told Master). Lists (30 ∷ 16 ∷ []) g.answer) (counts_as_silence m c.address tick) _ _ tt tt)
