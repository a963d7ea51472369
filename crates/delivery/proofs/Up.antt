-- A message that the slave holds, through two whole exchanges.
-- Assumes nothing.
use mathlib.Core.Path.{◌≡◌, refl, sym, ◌∙◌}
use mathlib.Core.Logic.{◌⊎◌, inl, inr, ⊎_elim}
use mathlib.Core.Bool.{false, not, true≢false}
use mathlib.Core.List.{List, [], ◌∷◌, ◌++◌}
use Rattle.delivery.specs.Link.{Message, Frame, I, End, Rules, Call, holds, full, is_rnr}
use Rattle.delivery.specs.Runs.{Line, quiet, asks, answers, World, Event, master_called, slave_called, run}
use Rattle.delivery.specs.Exchanges.{Turn, is_response, Under, uncounted, wholes}
use Rattle.delivery.specs.Liveness.{MasterRoom, Anyhow, Two, Next}
use Rattle.delivery.proofs.Safe.{Inv, ordering, answering, concluding, SlaveTook, MasterTook, Handled, by_event}
use Rattle.delivery.proofs.Honest.{mark_holds}
use Rattle.delivery.proofs.Stages.{Began, FirstAfter, SecondAfter, first_run, grown, next_longer, call_holds, call_room, room-full, says_no_rnr, Brings, says_brings, still_over, confirmed_or_held}

module _ (r : Rules) (c : List Message) (m : Message) where
  abbrev pub Done : World → Type 0
  Done w = Next c m w.up.confirmed

  abbrev pub Holding : World → Type 0
  Holding w = record { held : holds w.slave.end.held ≡ m ∷ []; log : w.up.confirmed ≡ c }

  -- Handed over, and not yet confirmed.
  abbrev pub Over : World → Type 0
  Over w = w.up.handed ≡ c ++ (m ∷ [])

  -- The order lets the slave send, and its response brings m.
  abbrev pub Asking : Line → Type 0
  Asking quiet = Unit {0}
  Asking (asks f) = is_rnr f ≡ false
  Asking (answers f) = Brings m f

  -- m is over; or the master has room, which nothing fills before the response to the order under way.
  abbrev pub Open : World → Line → Type 0
  Open w l = Over w ⊎ (MasterRoom r w × Asking l)

  pub record First (u : Under) (w : World) : Type 0 where
    pub holding : Holding w
    pub opens : Began (MasterRoom r) u → Open w w.line

  -- m is over, and the next order that arrives confirms it.
  pub record Second (u : Under) (w : World) : Type 0 where
    pub holding : Holding w
    pub over : Over w
    pub line : is_response w.line ≡ false

  abbrev After₁ : World → Under → Turn → World → Type 0
  After₁ w u t v = FirstAfter (MasterRoom r) Done First Second w u t v

  abbrev After₂ : World → Under → Turn → World → Type 0
  After₂ w u t v = SecondAfter Anyhow Done Second w u t v

  -- A master with room orders, not by RNR.
  open_orders : (w : World) → MasterRoom r w → Open (ordering r w) (ordering r w).line
  open_orders w y =
      let p : Asking (ordering r w).line = rw (room-full r w.master.end y) (says_no_rnr (not w.master.busy) w.master.end.ns w.master.end.nr w.master.end.held) in
      inr (y, p)

  open_calls : (w : World) (k : Call) (l : Line) → Open w l → Open (master_called w k) l
  open_calls w k l (inl o) = inl o
  open_calls w k l (inr (y, a)) = inr (call_room r k w.master.end y, a)

  open_loses : (w : World) (l : Line) → Open w l → Open w quiet
  open_loses w l (inl o) = inl o
  open_loses w l (inr (y, a)) = inr (y, tt)

  module _ (w : World) (z : Holding w) where
    holding_calls : (k : Call) → Holding (slave_called w k)
    holding_calls k = record { held = call_holds k w.slave.end m z.held; log = z.log }

    -- The slave answers: m is confirmed, as it must be where it was over; or it is held still, and given out if the order was not RNR.
    over-answers : (f : Frame) (e : End) (h x : List Message) → SlaveTook r w f e h x → Over w → Done (answering r w f e h x)
    over-answers f e h x g o = ([], sym g.caught ∙ o)

    holding_answers : (f : Frame) (e : End) (h x : List Message) → SlaveTook r w f e h x
        → let v = answering r w f e h x in
        Done v ⊎ (Holding v × (is_rnr f ≡ false → Asking v.line))
    holding_answers f e h x g = go (confirmed_or_held w.slave.end.held e.held c w.up.confirmed x m z.held z.log g.moved)
      where
        go : Next c m (w.up.confirmed ++ x) ⊎ (record { held : holds e.held ≡ m ∷ []; log : w.up.confirmed ++ x ≡ c })
            → let v = answering r w f e h x in
            Done v ⊎ (Holding v × (is_rnr f ≡ false → Asking v.line))
        go (inl d) = inl d
        go (inr k) =
            let z' : Holding (answering r w f e h x) = record { held = mark_holds (not (is_rnr f)) e.held ∙ k.held; log = k.log } in
            inr (z', λ n. rw n (says_brings m (full r e) e.ns e.nr e.held k.held))

    -- The master takes a response: what is over stays so, and what it brings into its room is handed over.
    brought_hears : (f : Frame) (e : End) (h x : List Message) → MasterTook r w f e h x → MasterRoom r w → Brings m f → Over (concluding w f e h x)
    brought_hears (I n k m') e h x g y p = g.gave (room-full r w.master.end y) ∙ rw (z.log, p) refl
    brought_hears (Rattle.delivery.specs.Link.RR _) e h x g y p = elim p [ ]
    brought_hears (Rattle.delivery.specs.Link.RNR _) e h x g y p = elim p [ ]
    brought_hears Rattle.delivery.specs.Link.SNRM e h x g y p = elim p [ ]
    brought_hears Rattle.delivery.specs.Link.DISC e h x g y p = elim p [ ]
    brought_hears Rattle.delivery.specs.Link.UA e h x g y p = elim p [ ]
    brought_hears Rattle.delivery.specs.Link.FRMR e h x g y p = elim p [ ]

    open_hears : (f : Frame) (e : End) (h x : List Message) → MasterTook r w f e h x → Open w (answers f) → Over (concluding w f e h x)
    open_hears f e h x g (inl o) = still_over w.up.handed h c m z.held o (rw z.log at g.inward.due)
    open_hears f e h x g (inr (y, a)) = brought_hears f e h x g y a

  open_answers : (w : World) (f : Frame) (e : End) (h x : List Message)
      → let v = answering r w f e h x in
      (is_rnr f ≡ false → Asking v.line) → Open w (asks f) → Open v v.line
  open_answers w f e h x b (inl o) = inl o
  open_answers w f e h x b (inr (y, a)) = inr (y, b a)

  first_handled : (w : World) (u : Under) → First u w → Handled r w (λ l. Began (MasterRoom r) u → Open w l) (After₁ w u)
  first_handled w u s =
      let z : Holding w = s.holding in
      record {
        same = inr (s, tt);
        master_calls = λ k. inr (record { holding = z; opens = λ y. open_calls w k w.line (s.opens y) }, tt);
        slave_calls = λ k. inr (record { holding = holding_calls w z k; opens = s.opens }, tt);
        orders = inr (record { holding = z; opens = open_orders w }, tt);
        arrives = λ f l o e h x p g.
            ⊎_elim
            inl
            (λ a. inr (record { holding = a.0; opens = λ y. open_answers w f e h x a.1 (o y) }, tt))
            (holding_answers w z f e h x g);
        loses = inr (record { holding = z; opens = λ y. open_loses w w.line (s.opens y) }, tt);
        hears = λ f l o e h x p g.
            inr
            (record { holding = z; opens = λ n. absurd n }, λ y. record { holding = z; over = open_hears w z f e h x g (o y); line = refl });
        silences = inr (record { holding = z; opens = s.opens }, tt);
      }

  second_handled : (w : World) (u : Under) → Second u w → Handled r w (λ l. is_response l ≡ false) (After₂ w u)
  second_handled w u s =
      let z : Holding w = s.holding in
      record {
        same = inr (s, tt);
        master_calls = λ k. inr (record { holding = z; over = s.over; line = s.line }, tt);
        slave_calls = λ k. inr (record { holding = holding_calls w z k; over = s.over; line = s.line }, tt);
        orders = inr (record { holding = z; over = s.over; line = refl }, tt);
        arrives = λ f l o e h x p g. inl (over-answers w z f e h x g s.over);
        loses = inr (record { holding = z; over = s.over; line = refl }, tt);
        hears = λ f l o e h x p g. absurd (true≢false o);
        silences = inr (record { holding = z; over = s.over; line = s.line }, tt);
      }

  -- The slave's message is confirmed.
  pub up_run : (w : World) → Inv w → Holding w → (es : List Event) → Two (MasterRoom r) Anyhow (wholes r uncounted w es) → Done (run r w es)
  up_run w i z es t =
      first_run
      r
      (MasterRoom r)
      Anyhow
      Done
      First
      Second
      (λ w i d e. next_longer c m (grown r w i e).up d)
      (λ w u i s e. by_event r w i s.opens (first_handled w u s) e)
      (λ w u i s e. by_event r w i s.line (second_handled w u s) e)
      uncounted
      w
      i
      (record { holding = z; opens = λ n. absurd n })
      es
      t
