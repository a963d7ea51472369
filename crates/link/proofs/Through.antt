-- An exchange between two right ends comes through whole unless it is lost on the way or late.
-- Assumes nothing.
use Prim.Native.Nat.{ℕ, ◌≤◌, ◌<◌}
use mathlib.Core.Path.{◌≡◌, refl, sym, ◌∙◌, ap}
use mathlib.Core.Bool.{true, false}
use mathlib.Core.List.{List, [], ◌∷◌}
use native.Mathlib.Omega.{arith}
use lib.ListN.{length}
use borrow.Author.Tests.{eq-eqb, le-ltb, lt-leb}
use Rattle.frame.specs.Refusal.{frame_refusal}
use Rattle.frame.specs.declared.Meaning.{Meaning}
use Rattle.frame.specs.declared.Meaning.TheVariants.{I, Rr, Rnr, Snrm, Disc, Ua, Frmr}
use Rattle.side.specs.Given.{Given, giving, size_given}
use Rattle.side.specs.Rule.{count_rule}
use Rattle.side.specs.Slot.{laid}
use Rattle.side.specs.declared.Side.{Side}
use Rattle.frame.specs.declared.Line.{Line}
use Rattle.side.specs.declared.answer.News.{News}
use Rattle.std.specs.Prelude.{Option, None, Some}
use Rattle.side.specs.declared.rule.Accepted.{Accepted}
use Rattle.slave.specs.Slave.{slave_wrong}
use Rattle.slave.specs.Step.{in_ndm, responds, on_heard, in_nrm, moved_in, moved, step_refusal, step_of}
use Rattle.slave.specs.declared.Mode.{Mode as SlaveMode}
use Rattle.slave.specs.declared.Mode.TheVariants.{Ndm, Nrm}
use Rattle.slave.specs.declared.Slave.{Slave}
use Rattle.slave.specs.declared.step.Moved.{Moved}
use Rattle.slave.proofs.Keeps as slave-keeps
use Rattle.master.specs.Master.{master_wrong}
use Rattle.master.specs.Order.{in_linked, orders_in, orders, order_refusal, order_of}
use Rattle.master.specs.Response.{Report, brings, silence_refusal, response_refusal, age_of, counts_as_silence, hears as master-hears, response_of}
use Rattle.master.specs.declared.Mode.{Mode as MasterMode}
use Rattle.master.specs.declared.Mode.TheVariants.{Disconnecting, Connecting, Linked}
use Rattle.master.specs.declared.Master.{Master}
use Rattle.master.specs.declared.order.Ordered.{Ordered}
use Rattle.master.proofs.Keeps as master-keeps
use Rattle.delivery.specs.Exchanges.{begins, ends, neither, uncounted}
use Rattle.frame.specs.Carried.{Carried}
use Rattle.link.specs.Runs.{carried, asks, World, Event, order, arrives, hears, on_line, order_line, answered, step, over_lists}
use Rattle.link.specs.Exchanges.{beginning, ending, turn, wholes}
use Rattle.link.specs.Through.{ComesThrough}
use Rattle.link.proofs.Sides.{front}
use Rattle.link.proofs.Worlds.{orders-kept}
use Rattle.link.proofs.Passes.{order_passes, response_passes}

-- three events that begin an exchange, pass it on and end it
whole_of : (w w₁ w₂ : World) (o a h : Event) → turn w o ≡ begins → step w o ≡ w₁ → turn w₁ a ≡ neither → step w₁ a ≡ w₂ → turn w₂ h ≡ ends
    → wholes uncounted w (o ∷ a ∷ h ∷ []) ≡ over_lists w ∷ []
whole_of w w₁ w₂ o a h b s n t e = rw (b, s, n, t, e)

module _ (m : Master) (tick : ℕ) where
  order-waits : ((orders m tick).master.waiting ≡ true) × ((orders m tick).master.tick ≡ tick)
  unfolding orders in_linked
  order-waits = go m.mode
    where
      go : (q : MasterMode) → ((orders_in q m tick).master.waiting ≡ true) × ((orders_in q m tick).master.tick ≡ tick)
      go Disconnecting = (refl, refl)
      go Connecting = (refl, refl)
      go Linked = (refl, refl)

  pub order_address : (orders m tick).line.address ≡ m.address
  unfolding orders in_linked
  order_address = go m.mode
    where
      go : (q : MasterMode) → (orders_in q m tick).line.address ≡ m.address
      go Disconnecting = refl
      go Connecting = refl
      go Linked = refl

  order-accepted : (room : ℕ) → master_wrong m ≡ 0 → m.waiting ≡ false → 253 ≤ room → order_refusal m room ≡ 0
  unfolding order_refusal
  order-accepted room r waits large = rw (r, waits, le-ltb room 253 large)

  order_given : (room : ℕ) → order_refusal m room ≡ 0 → order_of m tick room ≡ giving (orders m tick).line (orders m tick).master
  unfolding order_of
  order_given room z = rw z

module _ (s : Slave) (f : Meaning) (k : List ℕ) where
  ndm_address : (g : Meaning) → (in_ndm s g).line.address ≡ s.address
  unfolding in_ndm
  ndm_address (I ns nr) = refl
  ndm_address (Rr nr) = refl
  ndm_address (Rnr nr) = refl
  ndm_address Snrm = refl
  ndm_address Disc = refl
  ndm_address Ua = refl
  ndm_address Frmr = refl

  heard_address : (t : Side) (h : Option Accepted) → (on_heard s f t h).line.address ≡ s.address
  unfolding responds
  heard_address t None = refl
  heard_address t (Some a) = refl

  pub moved_address : (moved s f k).line.address ≡ s.address
  unfolding moved in_nrm
  moved_address = go s.mode
    where
      go : (q : SlaveMode) → (moved_in q s f k).line.address ≡ s.address
      go Ndm = ndm_address f
      go Nrm = heard_address (count_rule s.side f k).side (count_rule s.side f k).heard

  step-accepted : (a room : ℕ) → slave_wrong s ≡ 0 → 253 ≤ room → frame_refusal f k ≡ 0 → a ≡ s.address → step_refusal s a f k room ≡ 0
  unfolding step_refusal
  step-accepted a room r large e own = rw (r, le-ltb room 253 large, e, eq-eqb a s.address own)

  step_given_lem : (a room : ℕ) → step_refusal s a f k room ≡ 0 → step_of s a f k room ≡ giving ((moved s f k).line, (moved s f k).news) (moved s f k).slave
  unfolding step_of
  step_given_lem a room z = rw z

module _ (m : Master) (f : Meaning) (k : List ℕ) where
  response_accepted : master_wrong m ≡ 0 → m.waiting ≡ true → frame_refusal f k ≡ 0 → response_refusal m f k ≡ 0
  unfolding response_refusal silence_refusal
  response_accepted r waits e = rw (r, waits, e)

  in_time : (a tick : ℕ) → a ≡ m.address → age_of tick m.tick < m.limit → counts_as_silence m a tick ≡ false
  unfolding counts_as_silence
  in_time a tick own young = rw (eq-eqb a m.address own, lt-leb m.limit (age_of tick m.tick) young)

  response_given : (a tick : ℕ) → response_refusal m f k ≡ 0 → counts_as_silence m a tick ≡ false
      → response_of m a f k tick ≡ giving (brings (master-hears m f k).news) (master-hears m f k).master
  unfolding response_of
  response_given a tick z t = rw (z, t)

pub comes_through : ComesThrough
comes_through w z right-master right-slave own idle tick tick' out out' large large' young =
    whole_of w w₁ w₂ (order tick out) (arrives out') (hears tick')
    (ap (λ (g : Given Line Master). beginning g.answer) ordered)
    (ap (λ (g : Given Line Master). on_line w g.end (order_line w.line (laid (size_given (λ (l : Line). l.size) g.answer) m.side.held out) g.answer)) ordered)
    refl
    (ap (λ (g : Given (Line × News) Slave). answered w₁ (laid (size_given (λ (v : Line × News). v.0.size) g.answer) s.side.held out') g) stepped)
    (ap (λ (g : Given Report Master). ending g.answer) responded)
  where
    m : Master
    m = w.master

    s : Slave
    s = w.slave

    x : Ordered
    x = orders m tick

    c : Carried
    c = carried x.line (laid x.line.size m.side.held out)

    w₁ : World
    w₁ = on_line w x.master (asks c)

    y : Moved
    y = moved s c.meaning c.information

    c' : Carried
    c' = carried y.line (laid y.line.size s.side.held out')

    w₂ : World
    w₂ = answered w₁ (laid y.line.size s.side.held out') (giving (y.line, y.news) y.slave)

    accepted : order_refusal m (length out) ≡ 0
    accepted = order-accepted m tick (length out) right-master idle large

    ordered : order_of m tick (length out) ≡ giving x.line x.master
    ordered = order_given m tick (length out) accepted

    asked : frame_refusal c.meaning c.information ≡ 0
    asked =
        let small = (master-keeps.order_fits m tick (length out) accepted).0 in
        let held = z.master.held in
        let fits : x.line.size ≤ length m.side.held = omega arith in
        rw (front x.line.size m.side.held out fits) (order_passes m tick (master-keeps.parts m right-master).1)

    reached : step_refusal s c.address c.meaning c.information (length out') ≡ 0
    reached = step-accepted s c.meaning c.information c.address (length out') right-slave large' asked (order_address m tick ∙ sym own)

    stepped : step_of s c.address c.meaning c.information (length out') ≡ giving (y.line, y.news) y.slave
    stepped = step_given_lem s c.meaning c.information c.address (length out') reached

    answer : frame_refusal c'.meaning c'.information ≡ 0
    answer =
        let small = (slave-keeps.step_fits s c.address c.meaning c.information (length out') reached).0 in
        let held = z.slave.held in
        let fits : y.line.size ≤ length s.side.held = omega arith in
        rw (front y.line.size s.side.held out' fits)
        (response_passes s c.meaning c.information (slave-keeps.parts s right-slave).1 asked)

    waits : (x.master.waiting ≡ true) × (x.master.tick ≡ tick)
    waits = order-waits m tick

    young' : age_of tick' x.master.tick < x.master.limit
    young' = rw (waits.1, (orders-kept m tick).limit) young

    responded : response_of x.master c'.address c'.meaning c'.information tick'
        ≡ giving (brings (master-hears x.master c'.meaning c'.information).news) (master-hears x.master c'.meaning c'.information).master
    responded =
        response_given x.master c'.meaning c'.information c'.address tick'
        (response_accepted x.master c'.meaning c'.information (master-keeps.orders-kept m tick right-master).right waits.0 answer)
        (in_time x.master c'.meaning c'.information c'.address tick'
        (moved_address s c.meaning c.information ∙ own ∙ sym (orders-kept m tick).address) young')
