-- Safety: the invariant of a run, the ways in which a run goes on from it, and that each keeps it.
-- Assumes nothing.
use mathlib.Core.Path.{◌≡◌, refl}
use mathlib.Core.Logic.{inl, inr}
use mathlib.Core.Bool.{Bool, true, false, cond, not, ◌&&◌}
use mathlib.Core.List.{List, [], ◌∷◌}
use Rattle.delivery.specs.Link.{Message, Frame, FRMR, Held, End, NRM, linked, Rules, Call, Heard, irrecoverable, heard, full, count_rule, says, said, is_rnr, step_nrm, hear_linked, may_i, silence}
use Rattle.delivery.specs.Runs.{Line, quiet, asks, answers, World, Event, master_owner, slave_owner, order, arrives, lost, hears, silent, refused, master_called, slave_called, on_line, answered, concluded, begin, arrive, conclude, step, run, Start}
use Rattle.delivery.specs.Safety.{Lined, Safe, Safety}
use Rattle.delivery.specs.Exchanges.{Turn, begins, ends, neither, is_response, turn}
use Rattle.delivery.proofs.Way.{Due, level, over, Way, Carries, Kept, called-kept, said-kept, kept_from, kept_to, kept_carries, says_carries, Took, Good, heard_good}

-- What is on the line carries its sender's present state.
abbrev pub Travels : End → End → Line → Type 0
Travels m s quiet = Unit {0}
Travels m s (asks f) = Carries m f
Travels m s (answers f) = Carries s f

pub record Inv (w : World) : Type 0 where
  pub master_mode : w.master.mode ≡ linked
  pub slave_mode : w.slave.mode ≡ NRM
  pub down : Way w.master.end w.slave.end w.down.handed w.down.confirmed
  pub up : Way w.slave.end w.master.end w.up.handed w.up.confirmed
  pub line : Travels w.master.end w.slave.end w.line

-- A linked master's order, the answer of a slave in NRM, and a linked master's response: the worlds after them.
abbrev pub ordering : Rules → World → World
ordering r w =
    let m = w.master in
    on_line
    w
    (record { mode = linked; busy = m.busy; waiting = true; end = said (may_i r m) m.end })
    (asks (says (may_i r m) (full r m.end) m.end.ns m.end.nr m.end.held))

abbrev pub answering : Rules → World → Frame → End → List Message → List Message → World
answering r w f e h c = answered w (step_nrm r (not (is_rnr f)) w.slave.end (heard e h c))

abbrev pub concluding : World → Frame → End → List Message → List Message → World
concluding w f e h c = concluded w (hear_linked w.master.busy w.master.end f (heard e h c))

-- What the slave has of an order, and the master of a response.
abbrev pub SlaveTook : Rules → World → Frame → End → List Message → List Message → Type 0
SlaveTook r w f e h c = Took r w.master.end w.slave.end w.down.handed w.down.confirmed w.up.handed w.up.confirmed f e h c

abbrev pub MasterTook : Rules → World → Frame → End → List Message → List Message → Type 0
MasterTook r w f e h c = Took r w.slave.end w.master.end w.up.handed w.up.confirmed w.down.handed w.down.confirmed f e h c

-- What is to be shown of each way in which a run goes on from w, where `Fact` is known of the line.
pub record Handled (r : Rules) (w : World) (Fact : Line → Type 0) (After : Turn → World → Type 0) : Type 0 where
  pub same : After neither w
  pub master_calls : (k : Call) → After neither (master_called w k)
  pub slave_calls : (k : Call) → After neither (slave_called w k)
  pub orders : After begins (ordering r w)
  pub arrives : (f : Frame) → Carries w.master.end f → Fact (asks f) → (e : End) (h c : List Message) → count_rule r w.slave.end f ≡ heard e h c
      → SlaveTook r w f e h c → After neither (answering r w f e h c)
  pub loses : After neither (on_line w w.master quiet)
  pub hears : (f : Frame) → Carries w.slave.end f → Fact (answers f) → (e : End) (h c : List Message) → count_rule r w.master.end f ≡ heard e h c
      → MasterTook r w f e h c → After ends (concluding w f e h c)
  pub silences : After neither (on_line w (silence w.master) w.line)

-- Those are all: refused calls change nothing, both ends keep their modes, and no frame is irrecoverable.
module _ (r : Rules) (w : World) (i : Inv w) {Fact : Line → Type 0} (fact : Fact w.line) {After : Turn → World → Type 0} (k : Handled r w Fact After) where
  on_order : (b : Bool) → After (cond b neither begins) (begin r w b)
  on_order true = k.same
  on_order false = rw i.master_mode k.orders

  on_answer : (f : Frame) → Carries w.master.end f → Fact (asks f) → (x : Heard) → count_rule r w.slave.end f ≡ x
      → Good r w.master.end w.slave.end w.down.handed w.down.confirmed w.up.handed w.up.confirmed f x
      → After neither (answered w (step_nrm r (not (is_rnr f)) w.slave.end x))
  on_answer f l t irrecoverable p g = absurd g
  on_answer f l t (heard e h c) p g = k.arrives f l t e h c p g

  on_arrival : (l : Line) → Travels w.master.end w.slave.end l → Fact l → After neither (arrive r w l)
  on_arrival quiet l t = k.same
  on_arrival (asks f) l t =
      rw i.slave_mode (on_answer f l t (count_rule r w.slave.end f) refl (heard_good r _ _ _ _ _ _ i.down i.up f l))
  on_arrival (answers f) l t = k.same

  on_conclusion : (f : Frame) → Carries w.slave.end f → Fact (answers f) → (x : Heard) → count_rule r w.master.end f ≡ x
      → Good r w.slave.end w.master.end w.up.handed w.up.confirmed w.down.handed w.down.confirmed f x
      → After ends (concluded w (hear_linked w.master.busy w.master.end f x))
  on_conclusion f l t irrecoverable p g = absurd g
  on_conclusion f l t (heard e h c) p g = k.hears f l t e h c p g

  on_response : (b : Bool) (l : Line) → Travels w.master.end w.slave.end l → Fact l → After (cond (b && is_response l) ends neither) (conclude r w b l)
  on_response false l s t = k.same
  on_response true quiet s t = k.same
  on_response true (asks f) s t = k.same
  on_response true (answers f) s t =
      rw i.master_mode (on_conclusion f s t (count_rule r w.master.end f) refl (heard_good r _ _ _ _ _ _ i.up i.down f s))

  pub by_event : (e : Event) → After (turn w e) (step r w e)
  by_event (master_owner c) = k.master_calls c
  by_event (slave_owner c) = k.slave_calls c
  by_event order = on_order w.master.waiting
  by_event arrives = on_arrival w.line i.line fact
  by_event lost = k.loses
  by_event hears = on_response w.master.waiting w.line i.line fact
  by_event silent = k.silences
  by_event refused = k.same

master_travels : {m m' : End} → Kept m m' → (s : End) (l : Line) → Travels m s l → Travels m' s l
master_travels k s quiet t = tt
master_travels k s (asks f) t = kept_carries k f t
master_travels k s (answers f) t = t

slave_travels : {s s' : End} → Kept s s' → (m : End) (l : Line) → Travels m s l → Travels m s' l
slave_travels k m quiet t = tt
slave_travels k m (asks f) t = t
slave_travels k m (answers f) t = kept_carries k f t

inv_handled : (r : Rules) (w : World) → Inv w → Handled r w (λ l. Unit {0}) (λ t v. Inv v)
inv_handled r w i =
    let kept = said-kept (may_i r w.master) w.master.end in
    record {
      same = i;
      master_calls = λ c.
          let k = called-kept c w.master.end in
          record {
            master_mode = i.master_mode;
            slave_mode = i.slave_mode;
            down = kept_from k i.down;
            up = kept_to k i.up;
            line = master_travels k w.slave.end w.line i.line;
          };
      slave_calls = λ c.
          let k = called-kept c w.slave.end in
          record {
            master_mode = i.master_mode;
            slave_mode = i.slave_mode;
            down = kept_to k i.down;
            up = kept_from k i.up;
            line = slave_travels k w.master.end w.line i.line;
          };
      orders = record {
        master_mode = refl;
        slave_mode = i.slave_mode;
        down = kept_from kept i.down;
        up = kept_to kept i.up;
        line = says_carries (may_i r w.master) (full r w.master.end) w.master.end;
      };
      arrives = λ f l t e h c p g.
          let k = said-kept (not (is_rnr f)) e in
          record {
            master_mode = i.master_mode;
            slave_mode = refl;
            down = kept_to k g.inward;
            up = kept_from k g.outward;
            line = says_carries (not (is_rnr f)) (full r e) e;
          };
      loses = record { master_mode = i.master_mode; slave_mode = i.slave_mode; down = i.down; up = i.up; line = tt };
      hears = λ f l t e h c p g. record { master_mode = refl; slave_mode = i.slave_mode; down = g.outward; up = g.inward; line = tt };
      silences = record { master_mode = i.master_mode; slave_mode = i.slave_mode; down = i.down; up = i.up; line = i.line };
    }

pub inv_step : (r : Rules) (w : World) → Inv w → (e : Event) → Inv (step r w e)
inv_step r w i e = by_event r w i tt (inv_handled r w i) e

pub inv_run : (r : Rules) (w : World) → Inv w → (es : List Event) → Inv (run r w es)
inv_run r w i [] = i
inv_run r w i (e ∷ es) = inv_run r (step r w e) (inv_step r w i e) es

pub inv_start : (w : World) → Start w → Inv w
inv_start w s =
    record {
      master_mode = s.master_mode;
      slave_mode = s.slave_mode;
      down = rw s.down (record { sends = s.master.ns; takes = s.slave.nr; due = level refl });
      up = rw s.up (record { sends = s.slave.ns; takes = s.master.nr; due = level refl });
      line = rw s.line tt;
    }

due_lined : {o : Held} {h c : List Message} → Due o h c → Lined h c o
due_lined (level p) = inl p
due_lined (over m s p) = inr (rw s p)

inv_safe : (w : World) → Inv w → Safe w
inv_safe w i =
    record {
      master_mode = i.master_mode;
      slave_mode = i.slave_mode;
      no_frmr = λ p. go w.line p i.line;
      down = due_lined i.down.due;
      up = due_lined i.up.due;
    }
  where
    go : (l : Line) → l ≡ answers FRMR → Travels w.master.end w.slave.end l → ⊥
    go l p t = rw p at t

pub safety : Safety
safety r start s es = inv_safe (run r start es) (inv_run r start (inv_start start s) es)
