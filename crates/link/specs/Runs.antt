-- The two ends of the code with the line between them, and runs of their calls with any arguments: what demand 3 supposes.
-- Each call is what its contract says: `put_of`, `take_of`, `clear_of`, `order_of`, `step_of`, `response_of`, `silence_of`, and the lent buffers after them.
use Rattle.std.specs.Prelude.{ℕ, Bool, List, [], ◌∷◌, eqb, length, take}
use Rattle.frame.specs.Pick.{pick}
use Rattle.frame.specs.Answer.{Answer, gives, refuses}
use Rattle.frame.specs.Carried.{Carried}
use Rattle.frame.specs.declared.Meaning.{Meaning}
use Rattle.side.specs.Given.{Given}
use Rattle.side.specs.Side.{Arrays}
use Rattle.side.specs.declared.answer.Change.TheVariants.{Same}
use Rattle.frame.specs.declared.Line.{Line}
use Rattle.side.specs.declared.answer.News.{News}
use Rattle.slave.specs.Slave as slave
use Rattle.slave.specs.Step.{step_of, step_bytes}
use Rattle.slave.specs.declared.Slave.{Slave}
use Rattle.master.specs.Master as master
use Rattle.master.specs.Order.{order_of, order_bytes}
use Rattle.master.specs.Response.{Report, brings, silent, response_of, silence_of}
use Rattle.master.specs.declared.Master.{Master}
use Rattle.delivery.specs.Link.{Message}
use Rattle.delivery.specs.Runs as lists
use Rattle.delivery.specs.Runs.{Logs, blank, log_put, log_confirmed, log_handed, log_taken}
use Rattle.link.specs.Ends.{message, frame_of, slave_of, master_of}

-- What a call has put on the line: the address and the meaning that it told, and its information, which is as many bytes as it told from the front
-- of the buffer lent to it.
abbrev pub carried : Line → List ℕ → Carried
carried l buffer = record { address = l.address; meaning = l.meaning; information = take l.size buffer }

-- The line: nothing on it, the order just sent, or the response to it.
pub data OnLine : Type 0 where
  quiet : OnLine
  asks answers : Carried → OnLine

-- 01, "Late or strange responses": "each end is handed in as it last came back". The logs say what the owners were told (below).
-- Down is the way from the master to the slave, up the other one.
pub record World : Type 0 where
  pub master : Master
  pub slave : Slave
  pub line : OnLine
  pub down : Logs
  pub up : Logs

-- What can happen next: any call but a restart, at any moment and with any arguments.
pub data Event : Type 0 where
  -- "Owners may put and take messages at any moment" (demand 3): any bytes as the message, any buffer lent to take.
  master_put slave_put master_take slave_take : List ℕ → Event
  master_clear slave_clear : Event
  -- An order at a tick, with a lent buffer.
  order : ℕ → List ℕ → Event
  -- "let each order and each response arrive as sent or be lost" (demand 3): the order on the line is handed to the slave, with a lent buffer;
  -- the response on the line is handed to the master at a tick; what is on the line is lost.
  arrives : List ℕ → Event
  hears : ℕ → Event
  lost : Event
  -- The line is shared: whatever another station says is handed to the master as a response (address, meaning, information, tick), and whatever is
  -- said to another station is handed to the slave (address, meaning, information, lent buffer).
  foreign : ℕ → Meaning → List ℕ → ℕ → Event
  overhears : ℕ → Meaning → List ℕ → List ℕ → Event
  -- The master's owner reports silence.
  silence : Event

-- What the owners are told. Put: the message is taken, unless the call is refused.
abbrev pub put_told : List ℕ → Answer (Unit {0}) → List Message
put_told m (gives v) = m ∷ []
put_told m (refuses n) = []

-- Take: the message stands at the front of the lent buffer, as many bytes as the answer tells.
abbrev pub taken_told : List ℕ → Answer ℕ → List Message
taken_told buffer (gives n) = take n buffer ∷ []
taken_told buffer (refuses n) = []

-- A step or a response tells how many bytes of the held message it confirmed and how many it handed over: 0 means none, and a refusal or silence brings nothing.
abbrev pub nothing : News
nothing = record { confirmed = 0; handed = 0; link = Same }

abbrev pub step_news : Answer (Line × News) → News
step_news (gives v) = v.1
step_news (refuses n) = nothing

abbrev pub report_news : Answer Report → News
report_news (gives (brings n)) = n
report_news (gives silent) = nothing
report_news (refuses n) = nothing

-- The owners' calls: the end as it came back, and what was put and taken.
abbrev pub master_called : World → Master → List Message → List Message → World
master_called w m put taken = record { master = m; slave = w.slave; line = w.line; down = log_put w.down put; up = log_taken w.up taken }

abbrev pub slave_called : World → Slave → List Message → List Message → World
slave_called w s put taken = record { master = w.master; slave = s; line = w.line; down = log_taken w.down taken; up = log_put w.up put }

abbrev pub on_line : World → Master → OnLine → World
on_line w m l = record { master = m; slave = w.slave; line = l; down = w.down; up = w.up }

-- An order takes the line from whatever was left there: "an order reaches the slave before the next one begins or never". A refused one leaves it.
abbrev pub order_line : OnLine → List ℕ → Answer Line → OnLine
order_line l buffer (gives x) = asks (carried x buffer)
order_line l buffer (refuses n) = l

-- "A late response counts as lost, and so does an order whose step was refused 11"; any other refused step too "sends no response".
abbrev pub step_line : List ℕ → Answer (Line × News) → OnLine
step_line buffer (gives v) = answers (carried v.0 buffer)
step_line buffer (refuses n) = quiet

-- The slave has been handed the order. A message that it hands over stands in its incoming slot; one that it confirms stood in its outgoing one.
abbrev pub answered : World → List ℕ → Given (Line × News) Slave → World
answered w buffer g =
    record {
      master = w.master;
      slave = g.end;
      line = step_line buffer g.answer;
      down = log_handed w.down (message g.end.side.incoming (step_news g.answer).handed);
      up = log_confirmed w.up (message w.slave.side.held (step_news g.answer).confirmed);
    }

abbrev pub arrive : World → OnLine → List ℕ → World
arrive w quiet out = w
arrive w (asks c) out =
    answered w (step_bytes w.slave c.address c.meaning c.information out) (step_of w.slave c.address c.meaning c.information (length out))
arrive w (answers c) out = w

-- A response that was heard has left the line; one that counts as silence or is refused changes nothing there, and may be handed in again.
abbrev pub heard_line : OnLine → Answer Report → OnLine
heard_line l (gives (brings n)) = quiet
heard_line l (gives silent) = l
heard_line l (refuses n) = l

-- The master has been handed a response.
abbrev pub concluded : World → Given Report Master → World
concluded w g =
    record {
      master = g.end;
      slave = w.slave;
      line = heard_line w.line g.answer;
      down = log_confirmed w.down (message w.master.side.held (report_news g.answer).confirmed);
      up = log_handed w.up (message g.end.side.incoming (report_news g.answer).handed);
    }

abbrev pub hear : World → OnLine → ℕ → World
hear w quiet tick = w
hear w (asks c) tick = w
hear w (answers c) tick = concluded w (response_of w.master c.address c.meaning c.information tick)

-- What bears an end's own address is not another station's: it comes as the order or the response on the line only, so that nothing happens here.
abbrev pub bears : ℕ → ℕ → Bool
bears own a = eqb a own

abbrev pub step : World → Event → World
step w (master_put m) = let g = master.put_of w.master m in master_called w g.end (put_told m g.answer) []
step w (slave_put m) = let g = slave.put_of w.slave m in slave_called w g.end (put_told m g.answer) []
step w (master_take out) =
    let g = master.take_of w.master (length out) in master_called w g.end [] (taken_told (master.take_bytes w.master out) g.answer)
step w (slave_take out) =
    let g = slave.take_of w.slave (length out) in slave_called w g.end [] (taken_told (slave.take_bytes w.slave out) g.answer)
step w master_clear = master_called w (master.clear_of w.master).end [] []
step w slave_clear = slave_called w (slave.clear_of w.slave).end [] []
step w (order tick out) =
    let g = order_of w.master tick (length out) in on_line w g.end (order_line w.line (order_bytes w.master tick out) g.answer)
step w (arrives out) = arrive w w.line out
step w (hears tick) = hear w w.line tick
step w lost = on_line w w.master quiet
step w (foreign a f k tick) = pick (bears w.master.address a) w (concluded w (response_of w.master a f k tick))
step w (overhears a f k out) = pick (bears w.slave.address a) w (slave_called w (step_of w.slave a f k (length out)).end [] [])
step w silence = on_line w (silence_of w.master).end w.line

abbrev pub run : World → List Event → World
run w [] = w
run w (e ∷ es) = run (step w e) es

-- Two ends as their constructors give them (the master's address and limit, the slave's address), with nothing on the line.
abbrev pub made : ℕ → ℕ → ℕ → World
made a l b = record { master = (master.make_of a l).end; slave = (slave.make_of b).end; line = quiet; down = blank; up = blank }

-- A world with its logs begun anew.
abbrev pub from_here : World → World
from_here w = record { master = w.master; slave = w.slave; line = w.line; down = blank; up = blank }

-- The arrays of both ends have 253 bytes, as the type of every struct of the code says.
pub record Sized (w : World) : Type 0 where
  pub master : Arrays w.master.side
  pub slave : Arrays w.slave.side

-- The same world over lists, where `delivery` says what is safe, honest and live: bytes are read as messages, and the logs are these very logs.
abbrev pub line_of : OnLine → lists.Line
line_of quiet = lists.quiet
line_of (asks c) = lists.asks (frame_of c.meaning c.information)
line_of (answers c) = lists.answers (frame_of c.meaning c.information)

abbrev pub over_lists : World → lists.World
over_lists w = record { master = master_of w.master; slave = slave_of w.slave; line = line_of w.line; down = w.down; up = w.up }
