-- The ends of the code as `delivery` sees them: bytes and sizes read as messages.
use Rattle.std.specs.Prelude.{ℕ, false, List, [], ◌∷◌, eqb, take}
use Rattle.frame.specs.Pick.{pick}
use Rattle.frame.specs.declared.Meaning.{Meaning}
use Rattle.frame.specs.declared.Meaning.TheVariants.{I, Rr, Rnr, Snrm, Disc, Ua, Frmr}
use Rattle.side.specs.declared.Side.{Side}
use Rattle.slave.specs.declared.Mode.{Mode as SlaveMode}
use Rattle.slave.specs.declared.Mode.TheVariants.{Ndm, Nrm}
use Rattle.slave.specs.declared.Slave.{Slave}
use Rattle.master.specs.declared.Mode.{Mode as MasterMode}
use Rattle.master.specs.declared.Mode.TheVariants.{Disconnecting, Connecting, Linked}
use Rattle.master.specs.declared.Master.{Master}
use Rattle.delivery.specs.Link as lists
use Rattle.delivery.specs.Link.{Message, Held, none, unsent, sent, End, Frame, Rules}

-- 01 as it stands: one incoming slot, and Nr one ahead confirms whatever is held.
abbrev pub rules : Rules
rules = record { capacity = 1; sent_only = false }

-- The message in a slot: its first n bytes; a size of 0 means that there is none.
abbrev pub message : List ℕ → ℕ → List Message
message slot n = pick (eqb n 0) [] (take n slot ∷ [])

-- 01, "One end of a link": "one outgoing message .. or none, whether that message has been sent"
abbrev pub held_of : Side → Held
held_of s = pick (eqb s.holds 0) none (pick s.sent (sent (take s.holds s.held)) (unsent (take s.holds s.held)))

abbrev pub end_of : Side → End
end_of s =
    record {
      ns = s.ns.0;
      nr = s.nr.0;
      held = held_of s;
      incoming = message s.incoming s.waits;
      doubt = s.doubt;
    }

-- A frame is its meaning with its information.
abbrev pub frame_of : Meaning → List ℕ → Frame
frame_of (I ns nr) m = lists.I ns.0 nr.0 m
frame_of (Rr nr) m = lists.RR nr.0
frame_of (Rnr nr) m = lists.RNR nr.0
frame_of Snrm m = lists.SNRM
frame_of Disc m = lists.DISC
frame_of Ua m = lists.UA
frame_of Frmr m = lists.FRMR

abbrev pub slave_mode_of : SlaveMode → lists.SlaveMode
slave_mode_of Ndm = lists.NDM
slave_mode_of Nrm = lists.NRM

abbrev pub slave_of : Slave → lists.Slave
slave_of s = record { mode = slave_mode_of s.mode; end = end_of s.side }

abbrev pub master_mode_of : MasterMode → lists.MasterMode
master_mode_of Disconnecting = lists.disconnecting
master_mode_of Connecting = lists.connecting
master_mode_of Linked = lists.linked

-- Ticks, limit and address are left to the code: they decide whether a call is refused, and whether a response is heard.
abbrev pub master_of : Master → lists.Master
master_of m = record { mode = master_mode_of m.mode; busy = m.busy; waiting = m.waiting; end = end_of m.side }
