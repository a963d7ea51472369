-- Beside demand 3, honesty: the lists of safety are what the owners put and took.
use Rattle.std.specs.Prelude.{◌≡◌, List, ◌++◌}
use Rattle.side.specs.declared.Side.{Side}
use Rattle.delivery.specs.Runs.{Logs}
use Rattle.link.specs.Ends.{message}
use Rattle.link.specs.Runs.{World, Event, run, Sized}
use Rattle.link.specs.Start.{Start}

-- One way, from its sender and receiver at the start to both now: what was held at the start and put since is what was confirmed since and is held;
-- what waited at the start and was handed over since is what was taken since, byte for byte in the lent buffers, and waits. All in order, each message once.
pub record Balanced (sender₀ receiver₀ sender receiver : Side) (l : Logs) : Type 0 where
  pub sent : message sender₀.held sender₀.holds ++ l.put ≡ l.confirmed ++ message sender.held sender.holds
  pub received : message receiver₀.incoming receiver₀.waits ++ l.handed ≡ l.taken ++ message receiver.incoming receiver.waits

pub record Honest (start w : World) : Type 0 where
  pub down : Balanced start.master.side start.slave.side w.master.side w.slave.side w.down
  pub up : Balanced start.slave.side start.master.side w.slave.side w.master.side w.up

-- Demand 3 read literally lets an end confirm a message, keep it and send it again under the next count: the lists of safety still agree.
-- It is the fault that the house wants cured (a charge booked twice), so it is ruled out here.
abbrev pub Honesty : Type 0
Honesty = (start : World) → Sized start → Start start → (es : List Event) → Honest start (run start es)
