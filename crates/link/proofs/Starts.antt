-- A start of the code's ends is a start over lists, and a start over lists is one of theirs.
-- Assumes nothing.
use Prim.Native.Nat.{ℕ}
use mathlib.Core.Path.{◌≡◌, refl, ap}
use mathlib.Core.Bool.{Bool, true, false}
use native.Mathlib.Omega.{arith}
use lib.Dec.{eqb}
use lib.ListN.{take}
use borrow.Author.Tests.{eqb-true, eqb-false}
use Rattle.frame.specs.Pick.{pick}
use Rattle.side.specs.declared.Side.{Side}
use Rattle.slave.specs.declared.Mode.{Mode as SlaveMode}
use Rattle.slave.specs.declared.Mode.TheVariants.{Ndm, Nrm}
use Rattle.master.specs.declared.Mode.{Mode as MasterMode}
use Rattle.master.specs.declared.Mode.TheVariants.{Disconnecting, Connecting, Linked}
use Rattle.delivery.specs.Link.{Message, Held, none, unsent, sent, linked, connecting, NRM}
use Rattle.delivery.specs.Runs as lists
use Rattle.link.specs.Ends.{end_of, slave_mode_of, master_mode_of}
use Rattle.link.specs.Runs.{OnLine, quiet, asks, answers, World, line_of, over_lists}
use Rattle.link.specs.Start.{Zero, Start}

pub is_linked : (q : MasterMode) → master_mode_of q ≡ linked → q ≡ Linked
is_linked Disconnecting e = cc
is_linked Connecting e = cc
is_linked Linked e = refl

pub is_connecting : (q : MasterMode) → master_mode_of q ≡ connecting → q ≡ Connecting
is_connecting Disconnecting e = cc
is_connecting Connecting e = refl
is_connecting Linked e = cc

pub is_nrm : (q : SlaveMode) → slave_mode_of q ≡ NRM → q ≡ Nrm
is_nrm Ndm e = cc
is_nrm Nrm e = refl

is_quiet : (l : OnLine) → line_of l ≡ lists.quiet → l ≡ quiet
is_quiet quiet e = refl
is_quiet (asks c) e = cc
is_quiet (answers c) e = cc

abbrev NotSent : Held → Type 0
NotSent none = Unit {0}
NotSent (unsent m) = Unit {0}
NotSent (sent m) = ⊥

not_sent : {h : Held} → lists.Unsent h → NotSent h
not_sent lists.nothing = tt
not_sent lists.one = tt

zero-over : (s : Side) → Zero s → lists.Zero (end_of s)
zero-over s z = record { ns = z.ns; nr = z.nr; held = go (eqb s.holds 0) s.sent refl refl }
  where
    m : Message
    m = take s.holds s.held

    go : (b t : Bool) → eqb s.holds 0 ≡ b → s.sent ≡ t → lists.Unsent (pick b none (pick t (sent m) (unsent m)))
    go true t p q = lists.nothing
    go false true p q = absurd (eqb-false s.holds 0 p (z.unsent q))
    go false false p q = lists.one

zero_back : (s : Side) → lists.Zero (end_of s) → Zero s
zero_back s z = record { ns = z.ns; nr = z.nr; unsent = go (eqb s.holds 0) s.sent refl (not_sent z.held) }
  where
    m : Message
    m = take s.holds s.held

    go : (b t : Bool) → eqb s.holds 0 ≡ b → NotSent (pick b none (pick t (sent m) (unsent m))) → t ≡ true → s.holds ≡ 0
    go true t p n q = eqb-true s.holds 0 p
    go false true p n q = absurd n
    go false false p n q = let k : ◌≡◌ {A = ℕ} 0 1 = cc in absurd (omega arith)

pub start_over : (w : World) → Start w → lists.Start (over_lists w)
start_over w s =
    record {
      master_mode = ap master_mode_of s.master_mode;
      slave_mode = ap slave_mode_of s.slave_mode;
      busy = s.busy;
      waiting = s.waiting;
      line = ap line_of s.line;
      master = zero-over w.master.side s.master;
      slave = zero-over w.slave.side s.slave;
      down = s.down;
      up = s.up;
    }

pub start_back : (w : World) → lists.Start (over_lists w) → Start w
start_back w s =
    record {
      master_mode = is_linked w.master.mode s.master_mode;
      slave_mode = is_nrm w.slave.mode s.slave_mode;
      busy = s.busy;
      waiting = s.waiting;
      line = is_quiet w.line s.line;
      master = zero_back w.master.side s.master;
      slave = zero_back w.slave.side s.slave;
      down = s.down;
      up = s.up;
    }
