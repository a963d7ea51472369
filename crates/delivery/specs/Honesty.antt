-- Beside demand 3, honesty: the lists of safety are what the owners put and took.
use Rattle.std.specs.Prelude.{◌≡◌, List, ◌++◌}
use Rattle.delivery.specs.Link.{Message, End, Rules, holds}
use Rattle.delivery.specs.Runs.{Logs, World, Event, run, Start}

-- One way: what was held at the start and put since is what was confirmed since and is held;
-- what waited at the start and was handed over since is what was taken since and waits. All in order, each message once.
pub record Balanced (held waits : List Message) (sender receiver : End) (l : Logs) : Type 0 where
  pub sent : held ++ l.put ≡ l.confirmed ++ holds sender.held
  pub received : waits ++ l.handed ≡ l.taken ++ receiver.incoming

pub record Honest (start w : World) : Type 0 where
  pub down : Balanced (holds start.master.end.held) start.slave.end.incoming w.master.end w.slave.end w.down
  pub up : Balanced (holds start.slave.end.held) start.master.end.incoming w.slave.end w.master.end w.up

-- Demand 3 read literally lets an end confirm a message, keep it and send it again under the next count: the lists of safety still agree.
-- It is the fault that the house wants cured (a charge booked twice), so it is ruled out here.
abbrev pub Honesty : Type 0
Honesty = (r : Rules) (start : World) → Start start → (es : List Event) → Honest start (run r start es)
