-- Two ends with the line between them, and runs of calls at any moment: what demand 3 supposes.
use Rattle.std.specs.Prelude.{◌≡◌, Bool, true, false, List, [], ◌∷◌, ◌++◌}
use Rattle.delivery.specs.Link.{Message, Frame, Held, none, unsent, End, NRM, Slave, linked, Master, Rules, Call, called, put_by, taken_by, Answer, Taken, slave_step, order_frame, ordered, response, silence}

-- The line: nothing on it, the order just sent, or the response to it.
pub data Line : Type 0 where
  quiet : Line
  asks answers : Frame → Line

-- One way of the link, since the start: the messages put, those confirmed to their sender,
-- those handed over (into the receiver's incoming side), and those taken by the receiver's owner; the earliest first.
pub record Logs : Type 0 where
  pub put : List Message
  pub confirmed : List Message
  pub handed : List Message
  pub taken : List Message

abbrev pub blank : Logs
blank = record { put = []; confirmed = []; handed = []; taken = [] }

abbrev pub log_put : Logs → List Message → Logs
log_put l x = record { put = l.put ++ x; confirmed = l.confirmed; handed = l.handed; taken = l.taken }

abbrev pub log_confirmed : Logs → List Message → Logs
log_confirmed l x = record { put = l.put; confirmed = l.confirmed ++ x; handed = l.handed; taken = l.taken }

abbrev pub log_handed : Logs → List Message → Logs
log_handed l x = record { put = l.put; confirmed = l.confirmed; handed = l.handed ++ x; taken = l.taken }

abbrev pub log_taken : Logs → List Message → Logs
log_taken l x = record { put = l.put; confirmed = l.confirmed; handed = l.handed; taken = l.taken ++ x }

-- 01, "Late or strange responses": "each end is handed in as it last came back".
-- Down is the way from the master to the slave, up the other one.
pub record World : Type 0 where
  pub master : Master
  pub slave : Slave
  pub line : Line
  pub down : Logs
  pub up : Logs

-- What can happen next. `arrives` is a slave step with the order on the line; `hears` a response in time; `silent` silence reported, a late
-- response or one from elsewhere; `lost` loses what is on the line, and is a slave step refused 11 too; `refused` is any other refused call.
pub data Event : Type 0 where
  master_owner slave_owner : Call → Event
  order arrives lost hears silent refused : Event

-- Demand 3: "Owners may put and take messages at any moment".
abbrev pub master_called : World → Call → World
master_called w c =
    record {
      master = record { mode = w.master.mode; busy = w.master.busy; waiting = w.master.waiting; end = called c w.master.end };
      slave = w.slave;
      line = w.line;
      down = log_put w.down (put_by c w.master.end);
      up = log_taken w.up (taken_by c w.master.end);
    }

abbrev pub slave_called : World → Call → World
slave_called w c =
    record {
      master = w.master;
      slave = record { mode = w.slave.mode; end = called c w.slave.end };
      line = w.line;
      down = log_taken w.down (taken_by c w.slave.end);
      up = log_put w.up (put_by c w.slave.end);
    }

abbrev pub on_line : World → Master → Line → World
on_line w m l = record { master = m; slave = w.slave; line = l; down = w.down; up = w.up }

-- The slave has answered: what it handed over came down, what it confirmed had gone up.
abbrev pub answered : World → Answer → World
answered w a =
    record {
      master = w.master;
      slave = a.slave;
      line = answers a.response;
      down = log_handed w.down a.handed;
      up = log_confirmed w.up a.confirmed;
    }

-- The master has taken the response.
abbrev pub concluded : World → Taken → World
concluded w t =
    record {
      master = t.master;
      slave = w.slave;
      line = quiet;
      down = log_confirmed w.down t.confirmed;
      up = log_handed w.up t.handed;
    }

module _ (r : Rules) where
  -- An order is refused (17) while one waits. It takes the line from whatever was left there:
  -- "an order reaches the slave before the next one begins or never" (01, "Late or strange responses").
  abbrev pub begin : World → Bool → World
  begin w true = w
  begin w false = on_line w (ordered r w.master) (asks (order_frame r w.master))

  abbrev pub arrive : World → Line → World
  arrive w quiet = w
  arrive w (asks f) = answered w (slave_step r w.slave f)
  arrive w (answers f) = w

  -- A response is refused (16) where no order waits; so "a response to an order given up is not taken for the next one's".
  abbrev pub conclude : World → Bool → Line → World
  conclude w false l = w
  conclude w true quiet = w
  conclude w true (asks f) = w
  conclude w true (answers f) = concluded w (response r w.master f)

  abbrev pub step : World → Event → World
  step w (master_owner c) = master_called w c
  step w (slave_owner c) = slave_called w c
  step w order = begin w w.master.waiting
  step w arrives = arrive w w.line
  step w lost = on_line w w.master quiet
  step w hears = conclude w w.master.waiting w.line
  step w silent = on_line w (silence w.master) w.line
  step w refused = w

  abbrev pub run : World → List Event → World
  run w [] = w
  run w (e ∷ es) = run (step w e) es

-- A held message that has not been sent, or none.
pub data Unsent : Held → Type 0 where
  nothing : Unsent none
  one : {m : Message} → Unsent (unsent m)

-- An end that has just synchronised (01, "Synchronising"): its incoming side and its doubt mark are as they may be.
pub record Zero (e : End) : Type 0 where
  pub ns : e.ns ≡ 0
  pub nr : e.nr ≡ 0
  pub held : Unsent e.held

-- Demand 3: "Start from a completed synchronisation"; the logs begin there.
pub record Start (w : World) : Type 0 where
  pub master_mode : w.master.mode ≡ linked
  pub slave_mode : w.slave.mode ≡ NRM
  pub busy : w.master.busy ≡ false
  pub waiting : w.master.waiting ≡ false
  pub line : w.line ≡ quiet
  pub master : Zero w.master.end
  pub slave : Zero w.slave.end
  pub down : w.down ≡ blank
  pub up : w.up ≡ blank

-- A world with its logs begun anew.
abbrev pub from_here : World → World
from_here w = record { master = w.master; slave = w.slave; line = w.line; down = blank; up = blank }
