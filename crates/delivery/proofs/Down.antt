-- A message that the master holds, through two whole exchanges.
-- Assumes nothing.
use mathlib.Core.Path.{◌≡◌, refl, sym, ◌∙◌}
use mathlib.Core.Logic.{◌⊎◌, inl, inr, ⊎_elim}
use mathlib.Core.Bool.{false, not}
use mathlib.Core.List.{List, [], ◌∷◌, ◌++◌}
use Rattle.delivery.specs.Link.{Message, Frame, I, RR, RNR, sent, End, Rules, Call, holds, is_rnr, may_i}
use Rattle.delivery.specs.Runs.{Line, quiet, asks, answers, World, Event, master_called, slave_called, run}
use Rattle.delivery.specs.Exchanges.{Turn, ends, Under, uncounted, begun, wholes}
use Rattle.delivery.specs.Liveness.{Room, MasterRoom, SlaveRoom, Two, Next}
use Rattle.delivery.proofs.Way.{Carries}
use Rattle.delivery.proofs.Safe.{Inv, ordering, answering, concluding, SlaveTook, MasterTook, Handled, by_event}
use Rattle.delivery.proofs.Honest.{mark_holds}
use Rattle.delivery.proofs.Stages.{Began, FirstAfter, SecondAfter, first_run, grown, next_longer, call_holds, call_room, room-full, says_no_rnr, Brings, says_brings, still_over, confirmed_or_held}

-- A response on the line does not mark the slave busy.
abbrev pub Unbusy : Line → Type 0
Unbusy quiet = Unit {0}
Unbusy (asks f) = Unit {0}
Unbusy (answers f) = is_rnr f ≡ false

module _ (r : Rules) (c : List Message) (m : Message) where
  abbrev pub Done : World → Type 0
  Done w = Next c m w.down.confirmed

  abbrev pub Holding : World → Type 0
  Holding w = record { held : holds w.master.end.held ≡ m ∷ []; log : w.down.confirmed ≡ c }

  -- Handed over, and not yet confirmed.
  abbrev pub Over : World → Type 0
  Over w = w.down.handed ≡ c ++ (m ∷ [])

  -- m is over; or the slave has room, which m alone can fill, so that what it answers meanwhile is not RNR.
  abbrev pub Open : World → Line → Type 0
  Open w l = Over w ⊎ (SlaveRoom r w × Unbusy l)

  pub record First (u : Under) (w : World) : Type 0 where
    pub holding : Holding w
    pub opens : Began (SlaveRoom r) u → Open w w.line

  -- The order on the line brings m; no response is there while m is not over.
  abbrev pub Bringing : Line → Type 0
  Bringing quiet = Unit {0}
  Bringing (asks f) = Brings m f
  Bringing (answers f) = ⊥

  -- m is over; or nothing keeps the master from sending it as soon as it has room itself.
  abbrev pub Ready : Under → World → Line → Type 0
  Ready u w l =
      Over w
      ⊎ (record { busy : w.master.busy ≡ false; room : SlaveRoom r w; unbusy : Unbusy l; brings : Began (MasterRoom r) u → Bringing l })

  pub record Second (u : Under) (w : World) : Type 0 where
    pub holding : Holding w
    pub ready : Ready u w w.line

  abbrev After₁ : World → Under → Turn → World → Type 0
  After₁ w u t v = FirstAfter (SlaveRoom r) Done First Second w u t v

  abbrev After₂ : World → Under → Turn → World → Type 0
  After₂ w u t v = SecondAfter (MasterRoom r) Done Second w u t v

  module _ (w : World) (z : Holding w) where
    holding_calls : (k : Call) → Holding (master_called w k)
    holding_calls k = record { held = call_holds k w.master.end m z.held; log = z.log }

    holding_orders : Holding (ordering r w)
    holding_orders = record { held = mark_holds (may_i r w.master) w.master.end.held ∙ z.held; log = z.log }

    -- The slave answers: what is over stays so; where it has room, m is over then, or there is room still and the response is not RNR.
    over-answers : (f : Frame) (e : End) (h x : List Message) → SlaveTook r w f e h x → Over w → Over (answering r w f e h x)
    over-answers f e h x g o = still_over w.down.handed h c m z.held o (rw z.log at g.inward.due)

    status-answers : (f : Frame) (e : End) (h x : List Message) → e.incoming ≡ w.slave.end.incoming → SlaveRoom r w
        → let v = answering r w f e h x in
        SlaveRoom r v × Unbusy v.line
    status-answers f e h x p y =
        let y' : Room r e = rw p y in
        (y', rw (room-full r e y') (says_no_rnr (not (is_rnr f)) e.ns e.nr e.held))

    room-answers : (f : Frame) → Carries w.master.end f → (e : End) (h x : List Message) → SlaveTook r w f e h x → SlaveRoom r w
        → let v = answering r w f e h x in
        Over v ⊎ ((SlaveRoom r v × Unbusy v.line) × (Brings m f → ⊥))
    room-answers (I n k m') (a, b, s) e h x g y =
        let p : holds (sent m') ≡ m ∷ [] = rw s at z.held in
        let q : m' ≡ m = cc in
        inl (g.gave (room-full r w.slave.end y) ∙ rw (z.log, q) refl)
    room-answers (RR k) l e h x g y = inr (status-answers (RR k) e h x g.gave y, λ b. b)
    room-answers (RNR k) l e h x g y = inr (status-answers (RNR k) e h x g.gave y, λ b. b)
    room-answers Rattle.delivery.specs.Link.SNRM l e h x g y = elim l [ ]
    room-answers Rattle.delivery.specs.Link.DISC l e h x g y = elim l [ ]
    room-answers Rattle.delivery.specs.Link.UA l e h x g y = elim l [ ]
    room-answers Rattle.delivery.specs.Link.FRMR l e h x g y = elim l [ ]

    -- The master takes a response: m is confirmed, as it must be where it was over, or held still.
    over-hears : (f : Frame) (e : End) (h x : List Message) → MasterTook r w f e h x → Over w → Done (concluding w f e h x)
    over-hears f e h x g o = ([], sym g.caught ∙ o)

    holding_hears : (f : Frame) (e : End) (h x : List Message) → MasterTook r w f e h x → let v = concluding w f e h x in Done v ⊎ Holding v
    holding_hears f e h x g = confirmed_or_held w.master.end.held e.held c w.down.confirmed x m z.held z.log g.moved

  -- What becomes of an open slave.
  open_calls : (w : World) (k : Call) (l : Line) → Open w l → Open (slave_called w k) l
  open_calls w k l (inl o) = inl o
  open_calls w k l (inr (y, b)) = inr (call_room r k w.slave.end y, b)

  open_loses : (w : World) (l : Line) → Open w l → Open w quiet
  open_loses w l (inl o) = inl o
  open_loses w l (inr (y, b)) = inr (y, tt)

  open_answers : (w : World) → Holding w → (f : Frame) → Carries w.master.end f → (e : End) (h x : List Message) → SlaveTook r w f e h x → Open w (asks f)
      → let v = answering r w f e h x in
      Open v v.line
  open_answers w z f l e h x g (inl o) = inl (over-answers w z f e h x g o)
  open_answers w z f l e h x g (inr (y, b)) = ⊎_elim inl (λ a. inr a.0) (room-answers w z f l e h x g y)

  open_hears : (w : World) (f : Frame) (e : End) (h x : List Message) → Open w (answers f) → Ready uncounted (concluding w f e h x) quiet
  open_hears w f e h x (inl o) = inl o
  open_hears w f e h x (inr (y, b)) = inr (record { busy = b; room = y; unbusy = tt; brings = λ n. absurd n })

  first_handled : (w : World) (u : Under) → First u w → Handled r w (λ l. Began (SlaveRoom r) u → Open w l) (After₁ w u)
  first_handled w u s =
      let z : Holding w = s.holding in
      record {
        same = inr (s, tt);
        master_calls = λ k. inr (record { holding = holding_calls w z k; opens = s.opens }, tt);
        slave_calls = λ k. inr (record { holding = z; opens = λ y. open_calls w k w.line (s.opens y) }, tt);
        orders = inr (record { holding = holding_orders w z; opens = λ y. inr (y, tt) }, tt);
        arrives = λ f l o e h x p g. inr (record { holding = z; opens = λ y. open_answers w z f l e h x g (o y) }, tt);
        loses = inr (record { holding = z; opens = λ y. open_loses w w.line (s.opens y) }, tt);
        hears = λ f l o e h x p g.
            ⊎_elim
            inl
            (λ a. inr (record { holding = a; opens = λ n. absurd n }, λ y. record { holding = a; ready = open_hears w f e h x (o y) }))
            (holding_hears w z f e h x g);
        silences = inr (record { holding = z; opens = s.opens }, tt);
      }

  -- What becomes of a ready way.
  ready_calls : (w : World) (u : Under) (k : Call) (l : Line) → Ready u w l → Ready u (slave_called w k) l
  ready_calls w u k l (inl o) = inl o
  ready_calls w u k l (inr a) = inr (record { busy = a.busy; room = call_room r k w.slave.end a.room; unbusy = a.unbusy; brings = a.brings })

  ordering_brings : (w : World) → Holding w → w.master.busy ≡ false → MasterRoom r w → Bringing (ordering r w).line
  ordering_brings w z b y =
      rw (room-full r w.master.end y, b) (says_brings m false w.master.end.ns w.master.end.nr w.master.end.held z.held)

  ready_orders : (w : World) (u : Under) (l : Line) → Holding w → Ready u w l → Ready (begun w) (ordering r w) (ordering r w).line
  ready_orders w u l z (inl o) = inl o
  ready_orders w u l z (inr a) = inr (record { busy = a.busy; room = a.room; unbusy = tt; brings = ordering_brings w z a.busy })

  ready_loses : (w : World) (u : Under) (l : Line) → Ready u w l → Ready u w quiet
  ready_loses w u l (inl o) = inl o
  ready_loses w u l (inr a) = inr (record { busy = a.busy; room = a.room; unbusy = tt; brings = λ y. tt })

  ready_answers : (w : World) (u : Under) → Holding w → (f : Frame) → Carries w.master.end f → (e : End) (h x : List Message) → SlaveTook r w f e h x
      → Ready u w (asks f)
      → let v = answering r w f e h x in
      Ready u v v.line
  ready_answers w u z f l e h x g (inl o) = inl (over-answers w z f e h x g o)
  ready_answers w u z f l e h x g (inr a) =
      ⊎_elim
      inl
      (λ b. inr (record { busy = a.busy; room = b.0.0; unbusy = b.0.1; brings = λ y. b.1 (a.brings y) }))
      (room-answers w z f l e h x g a.room)

  ready_hears : (w : World) (u : Under) → Holding w → (f : Frame) (e : End) (h x : List Message) → MasterTook r w f e h x → Ready u w (answers f)
      → After₂ w u ends (concluding w f e h x)
  ready_hears w u z f e h x g (inl o) = inl (over-hears w z f e h x g o)
  ready_hears w u z f e h x g (inr a) =
      ⊎_elim
      inl
      (λ b. inr (record { holding = b; ready = inr (record { busy = a.unbusy; room = a.room; unbusy = tt; brings = λ n. absurd n }) }, a.brings))
      (holding_hears w z f e h x g)

  second_handled : (w : World) (u : Under) → Second u w → Handled r w (Ready u w) (After₂ w u)
  second_handled w u s =
      let z : Holding w = s.holding in
      record {
        same = inr (s, tt);
        master_calls = λ k. inr (record { holding = holding_calls w z k; ready = s.ready }, tt);
        slave_calls = λ k. inr (record { holding = z; ready = ready_calls w u k w.line s.ready }, tt);
        orders = inr (record { holding = holding_orders w z; ready = ready_orders w u w.line z s.ready }, tt);
        arrives = λ f l o e h x p g. inr (record { holding = z; ready = ready_answers w u z f l e h x g o }, tt);
        loses = inr (record { holding = z; ready = ready_loses w u w.line s.ready }, tt);
        hears = λ f l o e h x p g. ready_hears w u z f e h x g o;
        silences = inr (record { holding = z; ready = s.ready }, tt);
      }

  -- The master's message is confirmed.
  pub down_run : (w : World) → Inv w → Holding w → (es : List Event) → Two (SlaveRoom r) (MasterRoom r) (wholes r uncounted w es) → Done (run r w es)
  down_run w i z es t =
      first_run
      r
      (SlaveRoom r)
      (MasterRoom r)
      Done
      First
      Second
      (λ w i d e. next_longer c m (grown r w i e).down d)
      (λ w u i s e. by_event r w i s.opens (first_handled w u s) e)
      (λ w u i s e. by_event r w i s.ready (second_handled w u s) e)
      uncounted
      w
      i
      (record { holding = z; opens = λ n. absurd n })
      es
      t
