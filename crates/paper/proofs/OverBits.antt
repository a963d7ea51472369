-- A run over the bits is a run over frames, and so demand 3's safety holds over the bits.
-- Assumes nothing.
use Prim.Native.Nat.{ℕ, ◌≤◌}
use mathlib.Core.Path.{◌≡◌, refl, sym, ◌∙◌, ap, subst}
use mathlib.Core.Bool.{Bool, true, false}
use mathlib.Core.List.{List, [], ◌∷◌, ◌++◌}
use lib.Dec.{eqb, ltb}
use lib.ListN.{length, drop}
use borrow.Author.Tests.{le-ltb}
use Rattle.frame.specs.Bytes.{Bytes}
use Rattle.frame.specs.Pick.{pick}
use Rattle.frame.specs.Answer.{Answer, gives, refuses, unless}
use Rattle.frame.specs.Carried.{Carried}
use Rattle.frame.specs.declared.Meaning.{Meaning}
use Rattle.frame.proofs.Laws.{pick_both}
use Rattle.frame.proofs.Bytes.{bytes_append, bytes_drop}
use Rattle.writer.specs.Write.{write_of, write_bytes}
use Rattle.writer.specs.declared.Report.{Report}
use Rattle.reader.specs.Read.{fitting, read_of}
use Rattle.side.specs.Given.{Given}
use Rattle.side.specs.Side.{Arrays}
use Rattle.side.specs.declared.Side.{Side}
use Rattle.frame.specs.declared.Line.{Line}
use Rattle.side.specs.declared.answer.News.{News}
use Rattle.side.proofs.Slots.{Lays, lays_size}
use Rattle.slave.specs.Step.{step_of, step_bytes}
use Rattle.slave.specs.declared.Slave.{Slave}
use Rattle.master.specs.Order.{order_of, order_bytes}
use Rattle.master.specs.Response.{Report as Told, brings, silent, response_refusal, counts_as_silence, response_of}
use Rattle.master.specs.declared.Master.{Master}
use Rattle.link.specs.Runs as frames
use Rattle.link.specs.Runs.{OnLine, carried, bears, order_line, step_line, heard_line, answered, concluded}
use Rattle.link.specs.Safety.{Safe}
use Rattle.link.proofs.Slots.{PutLays, both_slots}
use Rattle.link.proofs.Promises.{safety}
use Rattle.paper.specs.Fit.{Fits, Array, Typed}
use Rattle.paper.specs.OverBits.{OnWire, quiet, asks, answers, World, Event, master_put, slave_put, master_take, slave_take, master_clear, slave_clear, order, arrives, hears, lost, foreign, overhears, silence, framed, wired, on_wire, written, said, on_line, heard, called, ordered, arrive, left, hear, told, step, run, as_frames, Typable, OfBytes, AllOfBytes, RunsOfFrames, SafetyOverBits}
use Rattle.paper.proofs.Fit.{orders_fit, steps_fit}

-- ---- the line

-- bits of which a reader gives one frame, or 11
pub record Bears (buffer : List ℕ) (bits : ℕ) (c : Carried) : Type 0 where
  pub reads : (room : ℕ) → read_of buffer bits room ≡ fitting room (gives c)
  pub few : length c.information ≤ 253

-- whatever is on the line was written
abbrev Legible : OnWire → Type 0
Legible quiet = Unit {0}
Legible (asks buffer bits) = (c : Carried) × Bears buffer bits c
Legible (answers buffer bits) = (c : Carried) × Bears buffer bits c

-- read into 253 bytes it is that frame
whole : {buffer : List ℕ} {bits : ℕ} {c : Carried} → Bears buffer bits c → read_of buffer bits 253 ≡ gives c
whole {c = c} b = b.reads 253 ∙ ap (λ (t : Bool). unless (pick t 11 0) c) (le-ltb 253 (length c.information) b.few)

-- the writer's bits bear the frame
bears-written : (c : Carried) → Fits c → (lent : List ℕ) (r : Report) → write_of c.address c.meaning c.information (length lent) ≡ gives r
    → Bears (write_bytes c.address c.meaning c.information lent) r.bits c
bears-written c f lent r e = record { reads = f.back lent r e; few = f.few }

-- ---- one event

run_on : (w : frames.World) (x y : List frames.Event) → frames.run w (x ++ y) ≡ frames.run (frames.run w x) y
run_on w [] y = refl
run_on w (e ∷ x) y = run_on (frames.step w e) x y

pub record Ready (w : World) : Type 0 where
  pub master : Typed w.master.side
  pub slave : Typed w.slave.side
  pub wire : Legible w.wire

pub record Follows (w w' : World) : Type 0 where
  pub ready : Ready w'
  pub events : List frames.Event
  pub same : as_frames w' ≡ frames.run (as_frames w) events

-- a message of bytes leaves an array of bytes
lays_bytes : (m : List ℕ) → Bytes m → Lays Array m
lays_bytes m b slot fits a =
    (lays_size m slot fits a.0, bytes_append m (drop (length m) slot) b (bytes_drop (length m) slot a.1))

-- the ends after an event over frames, whatever is on the line
module _ (w : World) (r : Ready w) where
  typed : (l : OnLine) (e : frames.Event) → PutLays Array e → (x : OnWire) → Legible x → Ready (wired x (frames.step (framed l w) e))
  typed l e p x legible =
      let b = both_slots lays_size (framed l w) e p (record { master = r.master; slave = r.slave }) in
      record { master = b.master; slave = b.slave; wire = legible }

  unmoved : Follows w w
  unmoved = record { ready = r; events = []; same = refl }

  -- the line is lost
  loses : Follows w (wired quiet (framed frames.quiet w))
  loses = record { ready = record { master = r.master; slave = r.slave; wire = tt }; events = frames.lost ∷ []; same = refl }

  -- An end has said a frame, after some events over frames: it goes onto the line, or is lost where the writer has no room for it.
  module _ (way : Carried → OnLine) (wayᵇ : List ℕ → ℕ → OnWire)
      (reading : (buffer : List ℕ) (bits room : ℕ) → heard (wayᵇ buffer bits) room ≡ on_line way (read_of buffer bits room))
      (legible : (buffer : List ℕ) (bits : ℕ) (c : Carried) → Bears buffer bits c → Legible (wayᵇ buffer bits)) where
    speaks : (c : Carried) → Fits c → (lent : List ℕ) (u : World) → ((x : OnWire) → Legible x → Ready (wired x (framed (way c) u)))
        → (es : List frames.Event) → frames.run (as_frames w) es ≡ framed (way c) u → Follows w (wired (written wayᵇ c lent) (framed (way c) u))
    speaks c f lent u ready es same = go (write_of c.address c.meaning c.information (length lent)) refl
      where
        buffer : List ℕ
        buffer = write_bytes c.address c.meaning c.information lent

        go : (x : Answer Report) → write_of c.address c.meaning c.information (length lent) ≡ x
            → Follows w (wired (on_wire wayᵇ buffer x) (framed (way c) u))
        go (gives p) e =
            let b = bears-written c f lent p e in
            record {
              ready = ready (wayᵇ buffer p.bits) (legible buffer p.bits c b);
              events = es;
              same = ap (λ (l : OnLine). framed l u) (reading buffer p.bits 253 ∙ ap (on_line way) (whole b)) ∙ sym same;
            }
        go (refuses n) e =
            record {
              ready = ready quiet tt;
              events = es ++ (frames.lost ∷ []);
              same = ap (λ (v : frames.World). frames.step v frames.lost) (sym same) ∙ sym (run_on (as_frames w) es (frames.lost ∷ []));
            }

  orders : (tick : ℕ) (out lent : List ℕ) → Follows w (step w (order tick out lent))
  orders tick out lent = go g.answer refl
    where
      g : Given Line Master
      g = order_of w.master tick (length out)

      buffer : List ℕ
      buffer = order_bytes w.master tick out

      after : OnLine → frames.World
      after l = frames.on_line (as_frames w) g.end l

      go : (x : Answer Line) → g.answer ≡ x → Follows w (ordered w lent (frames.on_line (framed frames.quiet w) g.end (order_line frames.quiet buffer x)))
      go (gives l) e =
          speaks frames.asks asks (λ b n room. refl) (λ b n c x. (c, x)) (carried l buffer) (orders_fit w.master r.master tick out l e) lent
          (wired quiet (after frames.quiet)) (typed frames.quiet (frames.order tick out) tt) (frames.order tick out ∷ [])
          (ap (λ (x : Answer Line). after (order_line (heard w.wire 253) buffer x)) e)
      go (refuses n) e =
          record {
            ready = typed frames.quiet (frames.order tick out) tt w.wire r.wire;
            events = frames.order tick out ∷ [];
            same = ap (λ (x : Answer Line). after (order_line (heard w.wire 253) buffer x)) (sym e);
          }

  reaches : (room out lent : List ℕ) → Follows w (step w (arrives room out lent))
  reaches room out lent = go w.wire refl r.wire
    where
      go : (x : OnWire) → w.wire ≡ x → Legible x → Follows w (arrive w x room out lent)
      go quiet q legible = unmoved
      go (asks b n) q (c, line) =
          subst P (sym (line.reads (length room))) (fit (ltb (length room) (length c.information)))
        where
          P : Answer Carried → Type 0
          P a = let v = frames.step (framed (on_line frames.asks a) w) (frames.arrives out) in Follows w (wired (said quiet v.line lent) v)

          g : Given (Line × News) Slave
          g = step_of w.slave c.address c.meaning c.information (length out)

          buffer : List ℕ
          buffer = step_bytes w.slave c.address c.meaning c.information out

          u : World
          u = wired quiet (answered (framed (frames.asks c) w) buffer g)

          steps : (x : Answer (Line × News)) → g.answer ≡ x → frames.step (as_frames w) (frames.arrives out) ≡ framed (step_line buffer x) u
          steps x e =
              ap (λ (y : OnWire). frames.step (framed (heard y 253) w) (frames.arrives out)) q
              ∙ ap (λ (a : Answer Carried). frames.step (framed (on_line frames.asks a) w) (frames.arrives out)) (whole line)
              ∙ ap (λ (y : Answer (Line × News)). framed (step_line buffer y) u) e

          answer : (x : Answer (Line × News)) → g.answer ≡ x → Follows w (wired (said quiet (step_line buffer x) lent) (framed (step_line buffer x) u))
          answer (gives (l, k)) e =
              speaks frames.answers answers (λ b n room. refl) (λ b n c x. (c, x)) (carried l buffer)
              (steps_fit w.slave r.slave c.address c.meaning c.information out l k e) lent u
              (typed (frames.asks c) (frames.arrives out) tt) (frames.arrives out ∷ []) (steps (gives (l, k)) e)
          answer (refuses k) e =
              record {
                ready = typed (frames.asks c) (frames.arrives out) tt quiet tt;
                events = frames.arrives out ∷ [];
                same = sym (steps (refuses k) e);
              }

          fit : (t : Bool) → P (unless (pick t 11 0) c)
          fit true = loses
          fit false = answer g.answer refl
      go (answers b n) q legible = unmoved

  listens : (room : List ℕ) (tick : ℕ) → Follows w (step w (hears room tick))
  listens room tick = go w.wire refl r.wire
    where
      go : (x : OnWire) → w.wire ≡ x → Legible x → Follows w (hear w x room tick)
      go quiet q legible = unmoved
      go (asks b n) q legible = unmoved
      go (answers b n) q (c, line) =
          subst P (sym (line.reads (length room))) (fit (ltb (length room) (length c.information)))
        where
          P : Answer Carried → Type 0
          P a = let v = frames.step (framed (on_line frames.answers a) w) (frames.hears tick) in Follows w (wired (left (answers b n) v.line) v)

          g : Given Told Master
          g = response_of w.master c.address c.meaning c.information tick

          u : World
          u = wired quiet (concluded (framed (frames.answers c) w) g)

          steps : (x : Answer Told) → g.answer ≡ x → frames.step (as_frames w) (frames.hears tick) ≡ framed (heard_line (frames.answers c) x) u
          steps x e =
              ap (λ (y : OnWire). frames.step (framed (heard y 253) w) (frames.hears tick)) q
              ∙ ap (λ (a : Answer Carried). frames.step (framed (on_line frames.answers a) w) (frames.hears tick)) (whole line)
              ∙ ap (λ (y : Answer Told). framed (heard_line (frames.answers c) y) u) e

          -- a response that was not heard is on the line as it was
          stays : (x : Answer Told) → g.answer ≡ x → framed (heard_line (frames.answers c) x) u ≡ framed (frames.answers c) u
              → Follows w (wired (answers b n) (framed (frames.answers c) u))
          stays x e k =
              record {
                ready = typed (frames.answers c) (frames.hears tick) tt (answers b n) (c, line);
                events = frames.hears tick ∷ [];
                same = ap (λ (a : Answer Carried). framed (on_line frames.answers a) u) (whole line) ∙ sym k ∙ sym (steps x e);
              }

          answer : (x : Answer Told) → g.answer ≡ x
              → Follows w (wired (left (answers b n) (heard_line (frames.answers c) x)) (framed (heard_line (frames.answers c) x) u))
          answer (gives (brings k)) e =
              record {
                ready = typed (frames.answers c) (frames.hears tick) tt quiet tt;
                events = frames.hears tick ∷ [];
                same = sym (steps (gives (brings k)) e);
              }
          answer (gives silent) e = stays (gives silent) e refl
          answer (refuses k) e = stays (refuses k) e refl

          fit : (t : Bool) → P (unless (pick t 11 0) c)
          fit true = loses
          fit false = answer g.answer refl

  -- what another station says is silence to the master, and leaves the line
  other_stays : (a : ℕ) (f : Meaning) (k : List ℕ) (tick : ℕ) (l : OnLine) → bears w.master.address a ≡ false
      → heard_line l (response_of w.master a f k tick).answer ≡ l
  unfolding response_of counts_as_silence
  other_stays a f k tick l e =
      rw e (pick_both (λ (g : Given Told Master). heard_line l g.answer ≡ l) (eqb (response_refusal w.master f k) 0) _ _ refl refl)

  hears_others : (c : Carried) (tick : ℕ) → Follows w (called w (frames.foreign c.address c.meaning c.information tick))
  hears_others c tick =
      let e = frames.foreign c.address c.meaning c.information tick in
      record { ready = typed frames.quiet e tt w.wire r.wire; events = e ∷ []; same = go (bears w.master.address c.address) refl }
    where
      g : Given Told Master
      g = response_of w.master c.address c.meaning c.information tick

      h : OnLine
      h = heard w.wire 253

      go : (t : Bool) → bears w.master.address c.address ≡ t
          → framed h (wired w.wire (pick t (framed frames.quiet w) (concluded (framed frames.quiet w) g))) ≡ pick t (framed h w) (concluded (framed h w) g)
      go true e = refl
      go false e =
          ap (λ (l : OnLine). framed l (wired w.wire (concluded (framed frames.quiet w) g))) (sym (other_stays c.address c.meaning c.information tick h e))

  overhears_others : (c : Carried) (out : List ℕ) → Follows w (called w (frames.overhears c.address c.meaning c.information out))
  overhears_others c out =
      let e = frames.overhears c.address c.meaning c.information out in
      record { ready = typed frames.quiet e tt w.wire r.wire; events = e ∷ []; same = go (bears w.slave.address c.address) }
    where
      s : Slave
      s = (step_of w.slave c.address c.meaning c.information (length out)).end

      h : OnLine
      h = heard w.wire 253

      go : (t : Bool)
          → framed h (wired w.wire (pick t (framed frames.quiet w) (frames.slave_called (framed frames.quiet w) s [] [])))
          ≡ pick t (framed h w) (frames.slave_called (framed h w) s [] [])
      go true = refl
      go false = refl

  tells : (e : Carried → frames.Event) → ((c : Carried) → Follows w (called w (e c))) → (x : Answer Carried) → Follows w (told w e x)
  tells e f (gives c) = f c
  tells e f (refuses n) = unmoved

follows : (w : World) → Ready w → (e : Event) → OfBytes e → Follows w (step w e)
follows w r (master_put m) p = record { ready = typed w r frames.quiet (frames.master_put m) (lays_bytes m p) w.wire r.wire; events = frames.master_put m ∷ []; same = refl }
follows w r (slave_put m) p = record { ready = typed w r frames.quiet (frames.slave_put m) (lays_bytes m p) w.wire r.wire; events = frames.slave_put m ∷ []; same = refl }
follows w r (master_take out) p = record { ready = typed w r frames.quiet (frames.master_take out) tt w.wire r.wire; events = frames.master_take out ∷ []; same = refl }
follows w r (slave_take out) p = record { ready = typed w r frames.quiet (frames.slave_take out) tt w.wire r.wire; events = frames.slave_take out ∷ []; same = refl }
follows w r master_clear p = record { ready = typed w r frames.quiet frames.master_clear tt w.wire r.wire; events = frames.master_clear ∷ []; same = refl }
follows w r slave_clear p = record { ready = typed w r frames.quiet frames.slave_clear tt w.wire r.wire; events = frames.slave_clear ∷ []; same = refl }
follows w r (order tick out lent) p = orders w r tick out lent
follows w r (arrives room out lent) p = reaches w r room out lent
follows w r (hears room tick) p = listens w r room tick
follows w r lost p = loses w r
follows w r (foreign buffer bits room tick) p = tells w r (λ x. frames.foreign x.address x.meaning x.information tick) (λ c. hears_others w r c tick) (read_of buffer bits (length room))
follows w r (overhears buffer bits room out) p = tells w r (λ x. frames.overhears x.address x.meaning x.information out) (λ c. overhears_others w r c out) (read_of buffer bits (length room))
follows w r silence p = record { ready = typed w r frames.quiet frames.silence tt w.wire r.wire; events = frames.silence ∷ []; same = refl }

-- ---- runs

runs : (w : World) → Ready w → (es : List Event) → AllOfBytes es → (fs : List frames.Event) × (as_frames (run w es) ≡ frames.run (as_frames w) fs)
runs w r [] p = ([], refl)
runs w r (e ∷ es) p =
    let f = follows w r e p.0 in
    let rest = runs (step w e) f.ready es p.1 in
    (f.events ++ rest.0, rest.1 ∙ ap (λ (v : frames.World). frames.run v rest.0) f.same ∙ sym (run_on (as_frames w) f.events rest.0))

sizes : {s : Side} → Typed s → Arrays s
sizes t = record { held = t.held.0; incoming = t.incoming }

begins : (start : World) → Typable start → Ready start
begins start t = record { master = t.master; slave = t.slave; wire = subst Legible (sym t.wire) tt }

pub runs_of_frames : RunsOfFrames
runs_of_frames start t es p = runs start (begins start t) es p

pub safety_over_bits : SafetyOverBits
safety_over_bits start t s es p =
    let f = runs_of_frames start t es p in
    subst Safe (sym f.1) (safety (as_frames start) (record { master = sizes t.master; slave = sizes t.slave }) s f.0)
