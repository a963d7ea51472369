-- The master's order (01, "Master").
use Rattle.std.specs.Prelude.{ℕ, Bool, true, false, not, List, length}
use Rattle.frame.specs.Pick.{pick, ◌then◌}
use Rattle.frame.specs.declared.Meaning.{Meaning}
use Rattle.frame.specs.declared.Meaning.TheVariants.{Snrm, Disc}
use Rattle.side.specs.Given.{Given, giving, refusing, size_given}
use Rattle.side.specs.Slot.{laid, room_refusal, full}
use Rattle.side.specs.Say.{says}
use Rattle.side.specs.declared.Side.{Side}
use Rattle.frame.specs.declared.Line.{Line}
use Rattle.master.specs.Master.{master_wrong}
use Rattle.master.specs.declared.Mode.{Mode}
use Rattle.master.specs.declared.Mode.TheVariants.{Disconnecting, Connecting, Linked}
use Rattle.master.specs.declared.Master.{Master}
use Rattle.master.specs.declared.order.Ordered.{Ordered}

-- 17: "order asked for while one waits"
abbrev pub waiting_refusal : Bool → ℕ
waiting_refusal waiting = pick waiting 17 0

-- 30 before all others; "Order: 17, 11."
unfoldable pub order_refusal : Master → ℕ → ℕ
order_refusal m room = master_wrong m then waiting_refusal m.waiting then room_refusal room

-- "An order starts the wait"
abbrev pub waits : Master → Side → ℕ → Master
waits m t tick =
    record {
      side = t;
      mode = m.mode;
      busy = m.busy;
      waiting = true;
      tick = tick;
      limit = m.limit;
      address = m.address;
    }

-- an order without count and information
abbrev pub plain : Master → Meaning → ℕ → Ordered
plain m f tick = record { line = record { address = m.address; meaning = f; size = 0 }; master = waits m m.side tick }

-- "sends RNR if its incoming slot is full, else I if a message is held and the peer isn't marked busy, else RR"
unfoldable pub may_inform : Master → Bool
may_inform m = pick (full m.side) false (not m.busy)

-- a linked master says I, RNR or RR, with the counts as they stand
unfoldable pub in_linked : Master → ℕ → Ordered
in_linked m tick =
    record {
      line = record { address = m.address; meaning = (says (may_inform m) m.side).meaning; size = (says (may_inform m) m.side).size };
      master = waits m (says (may_inform m) m.side).side tick;
    }

-- "Disconnecting: sends DISC"; "Connecting: sends SNRM"
abbrev pub orders_in : Mode → Master → ℕ → Ordered
orders_in Disconnecting m tick = plain m Disc tick
orders_in Connecting m tick = plain m Snrm tick
orders_in Linked m tick = in_linked m tick

-- what an order that is not refused does
unfoldable pub orders : Master → ℕ → Ordered
orders m tick = orders_in m.mode m tick

-- an order gives what goes on the line
unfoldable pub order_of : Master → ℕ → ℕ → Given Line Master
order_of m tick room = refusing (order_refusal m room) m (giving (orders m tick).line (orders m tick).master)

-- the lent buffer: the held message where the order is an I frame, and the rest as it was
abbrev pub order_bytes : Master → ℕ → List ℕ → List ℕ
order_bytes m tick out = laid (size_given (λ (l : Line). l.size) (order_of m tick (length out)).answer) m.side.held out
