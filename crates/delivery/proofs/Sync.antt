-- Synchronising: a response that links the master finds the slave in NRM, both ends with their counts zero.
-- Assumes nothing.
use mathlib.Core.Path.{◌≡◌, refl, sym, ◌∙◌}
use mathlib.Core.Logic.{◌⊎◌, inl, inr}
use mathlib.Core.Bool.{Bool, true, false, false≢true}
use mathlib.Core.List.{List, [], ◌∷◌}
use native.Mathlib.Omega.{arith}
use Prim.Native.Nat.{ℕ}
use Rattle.delivery.specs.Link.{Message, Frame, I, RR, RNR, SNRM, DISC, UA, FRMR, Held, none, unsent, sent, End, SlaveMode, NDM, NRM, Slave, MasterMode, disconnecting, connecting, linked, Master, Rules, Call, put, take, clear, put_held, called, sync_held, sync, Heard, irrecoverable, heard, count_rule, step_in, hear_connecting, hear_linked, hear_in}
use Rattle.delivery.specs.Runs.{Line, quiet, asks, answers, World, Event, master_owner, slave_owner, order, arrives, lost, hears, silent, refused, concluded, begin, arrive, conclude, step, run, Unsent, nothing, one, Zero, Start, from_here}
use Rattle.delivery.specs.Synchronising.{Synchronising}

sync_unsent : (o : Held) → Unsent (sync_held o)
sync_unsent none = nothing
sync_unsent (unsent m) = one
sync_unsent (sent m) = nothing

sync-zero : (e : End) → Zero (sync e)
sync-zero e = record { ns = refl; nr = refl; held = sync_unsent e.held }

put_unsent : (m : Message) {o : Held} → Unsent o → Unsent (put_held m o)
put_unsent m nothing = one
put_unsent m one = one

call_zero : (k : Call) (e : End) → Zero e → Zero (called k e)
call_zero (put m) e z = record { ns = z.ns; nr = z.nr; held = put_unsent m z.held }
call_zero take e z = record { ns = z.ns; nr = z.nr; held = z.held }
call_zero clear e z = record { ns = z.ns; nr = z.nr; held = z.held }

-- The slave as its UA to SNRM leaves it.
pub record Accepted (s : Slave) : Type 0 where
  pub mode : s.mode ≡ NRM
  pub end : Zero s.end

-- While a connecting master waits: SNRM is on the line, or what answers it; and a UA there is that of a slave that has synchronised.
abbrev Waits : Slave → Line → Type 0
Waits s quiet = Unit {0}
Waits s (asks f) = f ≡ SNRM
Waits s (answers f) = f ≡ UA → Accepted s

pub record Tuning (w : World) : Type 0 where
  pub line : w.master.waiting ≡ true → w.master.mode ≡ connecting → Waits w.slave w.line

call_waits : (s : Slave) (k : Call) (l : Line) → Waits s l → Waits (record { mode = s.mode; end = called k s.end }) l
call_waits s k quiet t = tt
call_waits s k (asks f) t = t
call_waits s k (answers f) t = λ p. record { mode = (t p).mode; end = call_zero k s.end (t p).end }

no_ua : {X : Type 0} → FRMR ≡ UA → X
no_ua p = let z : ◌≡◌ {A = ℕ} 0 1 = cc in absurd (omega arith)

-- A slave that answers SNRM with UA has synchronised.
accepts : (r : Rules) (q : SlaveMode) (e : End) → (step_in r q e SNRM).response ≡ UA → Accepted (step_in r q e SNRM).slave
accepts r NDM e p = record { mode = refl; end = sync-zero e }
accepts r NRM e p = no_ua p

-- A response ends the wait.
linked_ends : (b : Bool) (e : End) (f : Frame) (x : Heard) → (hear_linked b e f x).master.waiting ≡ false
linked_ends b e f irrecoverable = refl
linked_ends b e f (heard e' h c) = refl

response_ends : (r : Rules) (q : MasterMode) (m : Master) (f : Frame) → (hear_in r q m f).master.waiting ≡ false
response_ends r disconnecting m (I n k x) = refl
response_ends r disconnecting m (RR k) = refl
response_ends r disconnecting m (RNR k) = refl
response_ends r disconnecting m SNRM = refl
response_ends r disconnecting m DISC = refl
response_ends r disconnecting m UA = refl
response_ends r disconnecting m FRMR = refl
response_ends r connecting m (I n k x) = refl
response_ends r connecting m (RR k) = refl
response_ends r connecting m (RNR k) = refl
response_ends r connecting m SNRM = refl
response_ends r connecting m DISC = refl
response_ends r connecting m UA = refl
response_ends r connecting m FRMR = refl
response_ends r linked m f = linked_ends m.busy m.end f (count_rule r m.end f)

module _ (r : Rules) (w : World) (t : Tuning w) where
  tuning_begin : (b : Bool) → Tuning (begin r w b)
  tuning_begin true = t
  tuning_begin false = record { line = λ x y. rw y refl }

  tuning_arrive : (l : Line) → (w.master.waiting ≡ true → w.master.mode ≡ connecting → Waits w.slave l) → Tuning (arrive r w l)
  tuning_arrive quiet k = t
  tuning_arrive (asks f) k = record { line = λ x y. go f (k x y) }
    where
      go : (f : Frame) → f ≡ SNRM → (step_in r w.slave.mode w.slave.end f).response ≡ UA → Accepted (step_in r w.slave.mode w.slave.end f).slave
      go f p = rw p (accepts r w.slave.mode w.slave.end)
  tuning_arrive (answers f) k = t

  tuning_conclude : (b : Bool) (l : Line) → Tuning (conclude r w b l)
  tuning_conclude false l = t
  tuning_conclude true quiet = t
  tuning_conclude true (asks f) = t
  tuning_conclude true (answers f) = record { line = λ x y. absurd (false≢true (sym (response_ends r w.master.mode w.master f) ∙ x)) }

  tuning_step : (e : Event) → Tuning (step r w e)
  tuning_step (master_owner k) = record { line = t.line }
  tuning_step (slave_owner k) = record { line = λ x y. call_waits w.slave k w.line (t.line x y) }
  tuning_step order = tuning_begin w.master.waiting
  tuning_step arrives = tuning_arrive w.line t.line
  tuning_step lost = record { line = λ x y. tt }
  tuning_step hears = tuning_conclude w.master.waiting w.line
  tuning_step silent = record { line = λ x y. absurd (false≢true x) }
  tuning_step refused = t

tuning_run : (r : Rules) (w : World) → Tuning w → (es : List Event) → Tuning (run r w es)
tuning_run r w t [] = t
tuning_run r w t (e ∷ es) = tuning_run r (step r w e) (tuning_step r w t e) es

not_linked : {X : Type 0} {q : MasterMode} → q ≡ disconnecting ⊎ q ≡ connecting → q ≡ linked → X
not_linked (inl p) s = let z : ◌≡◌ {A = ℕ} 0 1 = cc in absurd (omega arith)
not_linked (inr p) s = let z : ◌≡◌ {A = ℕ} 0 1 = cc in absurd (omega arith)

-- Of all responses to SNRM it is UA that links.
ua_links : (w : World) (b : Bool) (e : End) (f : Frame) → Waits w.slave (answers f) → (hear_connecting b e f).master.mode ≡ linked
    → Start (from_here (concluded w (hear_connecting b e f)))
ua_links w b e (I n k m) t p = not_linked (inl refl) p
ua_links w b e (RR k) t p = not_linked (inl refl) p
ua_links w b e (RNR k) t p = not_linked (inl refl) p
ua_links w b e SNRM t p = not_linked (inl refl) p
ua_links w b e DISC t p = not_linked (inl refl) p
ua_links w b e UA t p =
    record {
      master_mode = refl;
      slave_mode = (t refl).mode;
      busy = refl;
      waiting = refl;
      line = refl;
      master = sync-zero e;
      slave = (t refl).end;
      down = refl;
      up = refl;
    }
ua_links w b e FRMR t p = not_linked (inl refl) p

links : (r : Rules) (w : World) (b : Bool) (l : Line) → w.master.mode ≡ connecting → (b ≡ true → Waits w.slave l)
    → (conclude r w b l).master.mode ≡ linked → Start (from_here (conclude r w b l))
links r w false l q t p = not_linked (inr q) p
links r w true quiet q t p = not_linked (inr q) p
links r w true (asks f) q t p = not_linked (inr q) p
links r w true (answers f) q t p = rw q (ua_links w w.master.busy w.master.end f (t refl) (rw q at p))

pub synchronising : Synchronising
synchronising r w n es q p =
    let v = run r w es in
    links r v v.master.waiting v.line q (λ x. (tuning_run r w (record { line = λ x y. absurd (n x y) }) es).line x q) p
