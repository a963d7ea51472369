-- What order, step, response and silence do, seen over lists.
-- Assumes nothing.
use Prim.Native.Nat.{ℕ, ◌≤◌}
use mathlib.Core.Path.{◌≡◌, refl, ◌∙◌, ap}
use mathlib.Core.Bool.{Bool, true, false, cond, ◌&&◌}
use mathlib.Core.List.{List, []}
use native.Mathlib.Omega.{arith}
use lib.ListN.{length}
use Rattle.frame.specs.Answer.{gives}
use Rattle.frame.specs.declared.Meaning.{Meaning}
use Rattle.frame.proofs.Laws.{pick_cases, pick_first, pick_second, then_zero}
use Rattle.side.specs.Given.{Given, giving, refused, size_given}
use Rattle.side.specs.Side.{Arrays}
use Rattle.side.specs.Slot.{laid}
use Rattle.frame.specs.declared.Line.{Line}
use Rattle.side.specs.declared.answer.News.{News}
use Rattle.slave.specs.Step.{step_refusal, moved, step_of}
use Rattle.slave.specs.declared.Slave.{Slave}
use Rattle.slave.proofs.Keeps as slave-keeps
use Rattle.master.specs.Master.{master_wrong}
use Rattle.master.specs.Order.{waiting_refusal, order_refusal, orders, order_of}
use Rattle.master.specs.Response.{Report, brings, silent, silence_refusal, response_refusal, counts_as_silence, silenced, hears as master-hears, response_of, silence_of}
use Rattle.master.specs.declared.Master.{Master}
use Rattle.master.proofs.Keeps as master-keeps
use Rattle.delivery.specs.Link as link
use Rattle.delivery.specs.Runs as lists
use Rattle.delivery.specs.Runs.{log_confirmed, log_handed}
use Rattle.delivery.specs.Exchanges.{begins, ends, neither}
use Rattle.delivery.specs.Exchanges as exchanges
use Rattle.link.specs.Ends.{rules, frame_of, slave_of, master_of}
use Rattle.frame.specs.Carried.{Carried}
use Rattle.link.specs.Runs.{OnLine, quiet, asks, answers, World, order, arrives, hears, foreign, silence, bears, on_line, order_line, answered, arrive, concluded, hear, step, line_of, over_lists}
use Rattle.link.specs.Exchanges.{beginning, ending, hearing}
use Rattle.link.proofs.Does.{Does, refusing_cases, confirmed_nothing, handed_nothing}
use Rattle.link.proofs.Sides.{front}
use Rattle.link.proofs.Slaves.{answer_of, moved-seen}
use Rattle.link.proofs.Masters.{order-frame, order-seen, hears-seen}

-- what events over lists do where they are not refused

begins_order : (w : lists.World) (b : Bool) → b ≡ false → lists.on_line w (link.ordered rules w.master) (lists.asks (link.order_frame rules w.master)) ≡ lists.begin rules w b
begins_order w b e = rw e

begins_turn : (b : Bool) → b ≡ false → cond b neither begins ≡ begins
begins_turn b e = rw e

arrives_asks : (w : lists.World) (l : lists.Line) (f : link.Frame) → l ≡ lists.asks f → lists.answered w (link.slave_step rules w.slave f) ≡ lists.arrive rules w l
arrives_asks w l f e = rw e

hears-answers : (w : lists.World) (b : Bool) (l : lists.Line) (f : link.Frame) → b ≡ true → l ≡ lists.answers f
    → lists.concluded w (link.response rules w.master f) ≡ lists.conclude rules w b l
hears-answers w b l f e d = rw (e, d)

hears-turn : (b : Bool) (l : lists.Line) (f : link.Frame) → b ≡ true → l ≡ lists.answers f → cond (b && exchanges.is_response l) ends neither ≡ ends
hears-turn b l f e d = rw (e, d)

-- the order

module _ (m : Master) where
  order_passed : (room : ℕ) → order_refusal m room ≡ 0 → m.waiting ≡ false
  unfolding order_refusal
  order_passed room e =
      let right = then_zero (master_wrong m) _ e in
      let waits = (then_zero (waiting_refusal m.waiting) _ right.1).0 in
      (pick_second m.waiting 17 0 0 waits (λ z. omega arith)).0

  silence_passed : silence_refusal m ≡ 0 → (master_wrong m ≡ 0) × (m.waiting ≡ true)
  unfolding silence_refusal
  silence_passed e =
      let right = then_zero (master_wrong m) _ e in
      (right.0, (pick_first m.waiting 0 16 0 right.1 (λ z. omega arith)).0)

module _ (w : World) where
  unchanged : Does (over_lists w) (over_lists w) neither
  unchanged = record { event = lists.refused; step = refl; turn = refl }

  pub order_does : (tick : ℕ) (out : List ℕ) → Arrays w.master.side
      → Does (over_lists w) (over_lists (step w (order tick out))) (beginning (order_of w.master tick (length out)).answer)
  unfolding order_of
  order_does tick out a =
      refusing_cases
      (λ (g : Given Line Master).
      Does (over_lists w)
      (over_lists (on_line w g.end (order_line w.line (laid (size_given (λ (l : Line). l.size) g.answer) w.master.side.held out) g.answer)))
      (beginning g.answer))
      (order_refusal w.master (length out)) w.master _ (λ k. unchanged) given
    where
      m : Master
      m = w.master

      given : order_refusal m (length out) ≡ 0
          → Does (over_lists w)
          (over_lists (on_line w (orders m tick).master (order_line w.line (laid (orders m tick).line.size m.side.held out) (gives (orders m tick).line))))
          begins
      given z =
          let passed = order_passed m (length out) z in
          let small = (master-keeps.order_fits m tick (length out) z).0 in
          let fits : (orders m tick).line.size ≤ length m.side.held = omega arith in
          let sent = ap (frame_of (orders m tick).line.meaning) (front (orders m tick).line.size m.side.held out fits) ∙ order-frame m tick in
          record {
            event = lists.order;
            step = (λ i. lists.on_line (over_lists w) (order-seen m tick i) (lists.asks (sent i))) ∙ begins_order (over_lists w) m.waiting passed;
            turn = begins_turn m.waiting passed;
          }

  -- the step

  step-refused : (buffer : List ℕ) (k : ℕ) → Does (over_lists w) (over_lists (answered w buffer (refused k w.slave))) neither
  step-refused buffer k =
      record {
        event = lists.lost;
        step =
            λ i. record {
              master = master_of w.master;
              slave = slave_of w.slave;
              line = lists.quiet;
              down = handed_nothing w.down i;
              up = confirmed_nothing w.up i;
            };
        turn = refl;
      }

  step_does : (c : Carried) (out : List ℕ) → w.line ≡ asks c → Arrays w.slave.side → Does (over_lists w) (over_lists (arrive w (asks c) out)) neither
  unfolding step_of
  step_does c out e a =
      refusing_cases
      (λ (g : Given (Line × News) Slave).
      Does (over_lists w) (over_lists (answered w (laid (size_given (λ (v : Line × News). v.0.size) g.answer) s.side.held out) g)) neither)
      (step_refusal s c.address f k (length out)) s _ (λ n. step-refused out n) given
    where
      s : Slave
      s = w.slave

      f : Meaning
      f = c.meaning

      k : List ℕ
      k = c.information

      given : step_refusal s c.address f k (length out) ≡ 0
          → Does (over_lists w)
          (over_lists (answered w (laid (moved s f k).line.size s.side.held out) (giving ((moved s f k).line, (moved s f k).news) (moved s f k).slave)))
          neither
      given z =
          let passed = slave-keeps.passed s c.address f k (length out) z in
          let right = (slave-keeps.parts s passed.right).1 in
          let small = (slave-keeps.step_fits s c.address f k (length out) z).0 in
          let fits : (moved s f k).line.size ≤ length s.side.held = omega arith in
          let sent = ap (frame_of (moved s f k).line.meaning) (front (moved s f k).line.size s.side.held out fits) in
          record {
            event = lists.arrives;
            step =
                (λ i. record {
                  master = master_of w.master;
                  slave = slave_of (moved s f k).slave;
                  line = lists.answers (sent i);
                  down = log_handed w.down (answer_of s (moved s f k)).handed;
                  up = log_confirmed w.up (answer_of s (moved s f k)).confirmed;
                })
                ∙ ap (lists.answered (over_lists w)) (moved-seen s f k right passed.frame)
                ∙ arrives_asks (over_lists w) (line_of w.line) (frame_of f k) (ap line_of e);
            turn = refl;
          }

  pub arrives_does : (out : List ℕ) → Arrays w.slave.side → Does (over_lists w) (over_lists (step w (arrives out))) neither
  arrives_does out a = go w.line refl
    where
      go : (l : OnLine) → w.line ≡ l → Does (over_lists w) (over_lists (arrive w l out)) neither
      go quiet e = unchanged
      go (asks c) e = step_does c out e a
      go (answers c) e = unchanged

  -- the response

  -- a response that brings nothing leaves slave, line and logs
  brings_nothing : (m : link.Master)
      → ◌≡◌ {A = lists.World} (record { master = m; slave = (over_lists w).slave; line = (over_lists w).line; down = log_confirmed w.down []; up = log_handed w.up [] })
      (lists.on_line (over_lists w) m (over_lists w).line)
  brings_nothing m =
      λ i. record { master = m; slave = (over_lists w).slave; line = (over_lists w).line; down = confirmed_nothing w.down i; up = handed_nothing w.up i }

  response_refused : (k : ℕ) → Does (over_lists w) (over_lists (concluded w (refused k w.master))) neither
  response_refused k = record { event = lists.refused; step = brings_nothing (master_of w.master); turn = refl }

  -- what counts as silence does what silence does
  response_silent : Does (over_lists w) (over_lists (concluded w (giving silent (silenced w.master)))) neither
  response_silent = record { event = lists.silent; step = brings_nothing (master_of (silenced w.master)); turn = refl }

  response_heard : (c : Carried) → w.line ≡ answers c → response_refusal w.master c.meaning c.information ≡ 0
      → let x = master-hears w.master c.meaning c.information in
      Does (over_lists w) (over_lists (concluded w (giving (brings x.news) x.master))) ends
  unfolding response_refusal
  response_heard c e z =
      let tests = then_zero (silence_refusal w.master) _ z in
      let passed = silence_passed w.master tests.0 in
      let line = ap line_of e in
      record {
        event = lists.hears;
        step =
            ap (lists.concluded (over_lists w)) (hears-seen w.master c.meaning c.information (master-keeps.parts w.master passed.0).1 tests.1)
            ∙ hears-answers (over_lists w) w.master.waiting (line_of w.line) (frame_of c.meaning c.information) passed.1 line;
        turn = hears-turn w.master.waiting (line_of w.line) (frame_of c.meaning c.information) passed.1 line;
      }

  response_does : (c : Carried) (tick : ℕ) → w.line ≡ answers c → Does (over_lists w) (over_lists (hear w (answers c) tick)) (hearing w.master (answers c) tick)
  unfolding response_of
  response_does c tick e =
      refusing_cases P (response_refusal w.master c.meaning c.information) w.master _ response_refused
      (λ z. pick_cases P (counts_as_silence w.master c.address tick) _ _ (λ t. response_silent) (λ t. response_heard c e z))
    where
      P : Given Report Master → Type 0
      P g = Does (over_lists w) (over_lists (concluded w g)) (ending g.answer)

  pub hears_does : (tick : ℕ) → Does (over_lists w) (over_lists (step w (hears tick))) (hearing w.master w.line tick)
  hears_does tick = go w.line refl
    where
      go : (l : OnLine) → w.line ≡ l → Does (over_lists w) (over_lists (hear w l tick)) (hearing w.master l tick)
      go quiet e = unchanged
      go (asks c) e = unchanged
      go (answers c) e = response_does c tick e

  pub foreign_does : (a : ℕ) (f : Meaning) (k : List ℕ) (tick : ℕ) → Does (over_lists w) (over_lists (step w (foreign a f k tick))) neither
  unfolding response_of counts_as_silence
  foreign_does a f k tick =
      pick_cases (λ (v : World). Does (over_lists w) (over_lists v) neither) (bears w.master.address a) _ _ (λ t. unchanged)
      (λ t. rw t
      (refusing_cases (λ (g : Given Report Master). Does (over_lists w) (over_lists (concluded w g)) neither) (response_refusal w.master f k) w.master
      (giving silent (silenced w.master)) response_refused (λ z. response_silent)))

  pub silence_does : Does (over_lists w) (over_lists (step w silence)) neither
  unfolding silence_of
  silence_does =
      refusing_cases (λ (g : Given (Unit {0}) Master). Does (over_lists w) (over_lists (on_line w g.end w.line)) neither)
      (silence_refusal w.master) w.master _ (λ k. unchanged) (λ z. record { event = lists.silent; step = refl; turn = refl })
