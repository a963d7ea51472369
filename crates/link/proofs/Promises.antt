-- The four promises and the whole demand for the code, carried over from those over lists.
-- Assumes nothing.
use Prim.Native.Nat.{ℕ}
use mathlib.Core.Path.{◌≡◌, refl, ◌∙◌, ap}
use mathlib.Core.Bool.{Bool, true, false}
use mathlib.Core.Logic.{inl, inr}
use mathlib.Core.List.{List}
use native.Mathlib.Omega.{arith}
use Rattle.frame.specs.declared.Meaning.{Meaning}
use Rattle.side.specs.declared.Side.{Side}
use Rattle.delivery.specs.Link as link
use Rattle.delivery.specs.Link.{Message, holds}
use Rattle.delivery.specs.Runs as lists
use Rattle.delivery.specs.Safety as lists-safety
use Rattle.delivery.specs.Honesty as lists-honesty
use Rattle.delivery.specs.Liveness as lists-liveness
use Rattle.delivery.specs.Exchanges as exchanges
use Rattle.delivery.specs.Exchanges.{uncounted}
use Rattle.delivery.proofs.Live.{in_words_lem}
use Rattle.delivery.proofs.Simulate.{code_safe, code_honest, code_live, code_synchronising}
use Rattle.link.specs.Ends.{rules, held_of, end_of, frame_of, master_mode_of}
use Rattle.link.specs.Runs.{World, Event, made, step, run, from_here, line_of, over_lists, Sized}
use Rattle.link.specs.Start.{Start}
use Rattle.link.specs.Synchronising.{Synchronising}
use Rattle.link.specs.Safety.{Lined, Safety}
use Rattle.link.specs.Honesty.{Balanced, Honesty}
use Rattle.link.specs.Liveness.{Liveness}
use Rattle.link.specs.LivenessInWords.{LivenessInWords}
use Rattle.link.specs.Demand.{Demand}
use Rattle.link.proofs.Sides.{held_message}
use Rattle.link.proofs.Made.{made_arrays, made_idle}
use Rattle.link.proofs.Slots.{sized, sized_run}
use Rattle.link.proofs.Simulation.{does, runs}
use Rattle.link.proofs.Starts.{is_connecting, is_linked, is_nrm, start_over, start_back}

-- safety

lined : (handed confirmed : List Message) (s : Side) → lists-safety.Lined handed confirmed (held_of s) → Lined handed confirmed s
lined handed confirmed s (inl e) = inl e
lined handed confirmed s (inr e) = inr (rw (held_message s) e)

pub safety : Safety
safety start a s es =
    let v = run start es in
    let safe = code_safe rules over_lists (start_over start s) (runs uncounted start es a).calls in
    record {
      master_mode = is_linked v.master.mode safe.master_mode;
      slave_mode = is_nrm v.slave.mode safe.slave_mode;
      no_frmr = λ c e f. safe.no_frmr (ap line_of e ∙ ap (λ (x : Meaning). lists.answers (frame_of x c.information)) f);
      down = lined v.down.handed v.down.confirmed v.master.side safe.down;
      up = lined v.up.handed v.up.confirmed v.slave.side safe.up;
    }

-- honesty

balanced : (s₀ r₀ s r : Side) (l : lists.Logs)
    → lists-honesty.Balanced (holds (held_of s₀)) (end_of r₀).incoming (end_of s) (end_of r) l → Balanced s₀ r₀ s r l
balanced s₀ r₀ s r l b = record { sent = rw (held_message s₀, held_message s) b.sent; received = b.received }

pub honesty : Honesty
honesty start a s es =
    let v = run start es in
    let honest = code_honest rules over_lists (start_over start s) (runs uncounted start es a).calls in
    record {
      down = balanced start.master.side start.slave.side v.master.side v.slave.side v.down honest.down;
      up = balanced start.slave.side start.master.side v.slave.side v.master.side v.up honest.up;
    }

-- liveness

live_over : (start : World) (a : Sized start) → Start start → (es₀ es : List Event)
    → let w = run start es₀ in
    lists-liveness.Live rules (over_lists w) (exchanges.wholes rules uncounted (over_lists w) (runs uncounted w es (sized_run start es₀ a)).events) (over_lists (run w es))
live_over start a s es₀ es =
    code_live rules over_lists (start_over start s) (runs uncounted start es₀ a).calls (runs uncounted (run start es₀) es (sized_run start es₀ a)).calls

pub liveness : Liveness
liveness start a s es₀ es =
    let w = run start es₀ in
    let r = runs uncounted w es (sized_run start es₀ a) in
    let live = live_over start a s es₀ es in
    record {
      down = λ m held two. live.down m (rw (← held_message w.master.side) held) (rw (← r.exchanges) two);
      up = λ m held two. live.up m (rw (← held_message w.slave.side) held) (rw (← r.exchanges) two);
    }

pub liveness_in_words : LivenessInWords
liveness_in_words start a s es₀ es roomy two =
    let w = run start es₀ in
    let r = runs uncounted w es (sized_run start es₀ a) in
    let delivers = in_words_lem rules (over_lists w) r.events (live_over start a s es₀ es) (r.roomy roomy) (rw (← r.exchanges) two) in
    record {
      down = λ m held. delivers.down m (rw (← held_message w.master.side) held);
      up = λ m held. delivers.up m (rw (← held_message w.slave.side) held);
    }

-- synchronising

connecting_linked : {A : Type 0} (q : link.MasterMode) → q ≡ link.connecting → q ≡ link.linked → A
connecting_linked q p l = let k : ◌≡◌ {A = ℕ} 0 1 = cc in absurd (omega arith)

-- over lists nothing but a response takes the master from connecting to linked
only_hears : (w : lists.World) (e : lists.Event) → w.master.mode ≡ link.connecting → (lists.step rules w e).master.mode ≡ link.linked → e ≡ lists.hears
only_hears w (lists.master_owner c) p l = connecting_linked w.master.mode p l
only_hears w (lists.slave_owner c) p l = connecting_linked w.master.mode p l
only_hears w lists.order p l = go w.master.waiting l
  where
    go : (b : Bool) → (lists.begin rules w b).master.mode ≡ link.linked → lists.order ≡ lists.hears
    go true l = connecting_linked w.master.mode p l
    go false l = connecting_linked w.master.mode p l
only_hears w lists.arrives p l = go w.line l
  where
    go : (a : lists.Line) → (lists.arrive rules w a).master.mode ≡ link.linked → lists.arrives ≡ lists.hears
    go lists.quiet l = connecting_linked w.master.mode p l
    go (lists.asks f) l = connecting_linked w.master.mode p l
    go (lists.answers f) l = connecting_linked w.master.mode p l
only_hears w lists.lost p l = connecting_linked w.master.mode p l
only_hears w lists.hears p l = refl
only_hears w lists.silent p l = connecting_linked w.master.mode p l
only_hears w lists.refused p l = connecting_linked w.master.mode p l

pub synchronising : Synchronising
synchronising w a n es e p l =
    let v = run w es in
    let d = does v e (sized_run w es a) in
    let q = ap master_mode_of p in
    let linked = ap master_mode_of l in
    let event = only_hears (over_lists v) d.event q (rw (← d.step) linked) in
    start_back (from_here (step v e))
    (code_synchronising rules over_lists {w = w} {v = v} {x = step v e} {y = from_here (step v e)} {es = (runs uncounted w es a).events}
    (λ waits mode. n waits (is_connecting w.master.mode mode)) (runs uncounted w es a).calls q (d.step ∙ ap (lists.step rules (over_lists v)) event) linked refl)

-- the whole demand

pub demand : Demand
demand a l b es e p q =
    let z = made_arrays a l b in
    let v = run (made a l b) es in
    let start = from_here (step v e) in
    let begun = sized v e (sized_run (made a l b) es z) in
    let s = synchronising (made a l b) z (λ waits mode. let idle = made_idle a l b in idle_waits (made a l b).master.waiting idle waits) es e p q in
    let sized-start : Sized start = record { master = begun.master; slave = begun.slave } in (
      s,
      λ es'. record {
        safe = safety start sized-start s es';
        honest = honesty start sized-start s es';
        live = λ es''. liveness start sized-start s es' es'';
        in_words = λ es''. liveness_in_words start sized-start s es' es'';
      },
    )
  where
    idle_waits : (b : Bool) → b ≡ false → b ≡ true → ⊥
    idle_waits b e f = let k : ◌≡◌ {A = ℕ} 0 1 = cc in omega arith
