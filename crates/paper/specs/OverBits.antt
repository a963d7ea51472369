-- Demand 3's safety over the bits: every order and every response goes through the writer and the reader, and each line arrives as written or is lost.
-- The calls of both ends are those of `link`'s runs; on the line here are bits and not frames.
use Rattle.std.specs.Prelude.{ℕ, ◌≡◌, List, [], ◌∷◌, length}
use Rattle.frame.specs.Bytes.{Bytes}
use Rattle.frame.specs.Answer.{Answer, gives, refuses}
use Rattle.frame.specs.Carried.{Carried}
use Rattle.writer.specs.Write.{write_of, write_bytes}
use Rattle.writer.specs.declared.Report.{Report}
use Rattle.reader.specs.Read.{read_of}
use Rattle.slave.specs.declared.Slave.{Slave}
use Rattle.master.specs.declared.Master.{Master}
use Rattle.delivery.specs.Runs.{Logs}
use Rattle.link.specs.Runs as frames
use Rattle.link.specs.Runs.{OnLine}
use Rattle.link.specs.Start.{Start}
use Rattle.link.specs.Safety.{Safe}
use Rattle.paper.specs.Fit.{Typed}

-- The line: nothing on it, the bits of the order just sent, or those of the response to it: the buffer as the writer left it, with the bits that it reported.
pub data OnWire : Type 0 where
  quiet : OnWire
  asks answers : List ℕ → ℕ → OnWire

pub record World : Type 0 where
  pub master : Master
  pub slave : Slave
  pub wire : OnWire
  pub down : Logs
  pub up : Logs

-- What can happen next, as in `link`, with the buffers that are lent to the writer and to the reader.
pub data Event : Type 0 where
  master_put slave_put master_take slave_take : List ℕ → Event
  master_clear slave_clear : Event
  -- An order at a tick: a buffer lent to the order, one to the writer.
  order : ℕ → List ℕ → List ℕ → Event
  -- The order's bits reach the slave: a buffer lent to the reader, one to the step, one to the writer of the response.
  arrives : List ℕ → List ℕ → List ℕ → Event
  -- The response's bits reach the master at a tick: a buffer lent to the reader.
  hears : List ℕ → ℕ → Event
  lost : Event
  -- Whatever another station's bits are (buffer and count, and a buffer lent to the reader): what is read of them is handed to the master as a
  -- response at a tick, or to the slave with a lent buffer.
  foreign : List ℕ → ℕ → List ℕ → ℕ → Event
  overhears : List ℕ → ℕ → List ℕ → List ℕ → Event
  silence : Event

-- The same moment with a frame on the line, and with bits on it.
abbrev pub framed : OnLine → World → frames.World
framed l w = record { master = w.master; slave = w.slave; line = l; down = w.down; up = w.up }

abbrev pub wired : OnWire → frames.World → World
wired x v = record { master = v.master; slave = v.slave; wire = x; down = v.down; up = v.up }

-- Writing into a lent buffer; a writing that is refused puts nothing on the line.
abbrev pub on_wire : (List ℕ → ℕ → OnWire) → List ℕ → Answer Report → OnWire
on_wire way buffer (gives r) = way buffer r.bits
on_wire way buffer (refuses n) = quiet

abbrev pub written : (List ℕ → ℕ → OnWire) → Carried → List ℕ → OnWire
written way c lent =
    on_wire way (write_bytes c.address c.meaning c.information lent) (write_of c.address c.meaning c.information (length lent))

-- What an end has said; where it said nothing, the line is as given.
abbrev pub said : OnWire → OnLine → List ℕ → OnWire
said x frames.quiet lent = x
said x (frames.asks c) lent = written asks c lent
said x (frames.answers c) lent = written answers c lent

-- Reading into an output of that room; a reading that is refused is a line lost.
abbrev pub on_line : (Carried → OnLine) → Answer Carried → OnLine
on_line way (gives c) = way c
on_line way (refuses n) = frames.quiet

abbrev pub heard : OnWire → ℕ → OnLine
heard quiet room = frames.quiet
heard (asks buffer bits) room = on_line frames.asks (read_of buffer bits room)
heard (answers buffer bits) room = on_line frames.answers (read_of buffer bits room)

-- A call that leaves the line alone.
abbrev pub called : World → frames.Event → World
called w e = wired w.wire (frames.step (framed frames.quiet w) e)

abbrev pub ordered : World → List ℕ → frames.World → World
ordered w lent v = wired (said w.wire v.line lent) v

abbrev pub arrive : World → OnWire → List ℕ → List ℕ → List ℕ → World
arrive w quiet room out lent = w
arrive w (asks buffer bits) room out lent =
    let v = frames.step (framed (heard (asks buffer bits) (length room)) w) (frames.arrives out) in wired (said quiet v.line lent) v
arrive w (answers buffer bits) room out lent = w

-- A response that counts as silence or is refused stays on the line.
abbrev pub left : OnWire → OnLine → OnWire
left x frames.quiet = quiet
left x (frames.asks c) = x
left x (frames.answers c) = x

abbrev pub hear : World → OnWire → List ℕ → ℕ → World
hear w quiet room tick = w
hear w (asks buffer bits) room tick = w
hear w (answers buffer bits) room tick =
    let v = frames.step (framed (heard (answers buffer bits) (length room)) w) (frames.hears tick) in wired (left (answers buffer bits) v.line) v

abbrev pub told : World → (Carried → frames.Event) → Answer Carried → World
told w e (gives c) = called w (e c)
told w e (refuses n) = w

abbrev pub step : World → Event → World
step w (master_put m) = called w (frames.master_put m)
step w (slave_put m) = called w (frames.slave_put m)
step w (master_take out) = called w (frames.master_take out)
step w (slave_take out) = called w (frames.slave_take out)
step w master_clear = called w frames.master_clear
step w slave_clear = called w frames.slave_clear
step w (order tick out lent) = ordered w lent (frames.step (framed frames.quiet w) (frames.order tick out))
step w (arrives room out lent) = arrive w w.wire room out lent
step w (hears room tick) = hear w w.wire room tick
step w lost = wired quiet (framed frames.quiet w)
step w (foreign buffer bits room tick) =
    told w (λ c. frames.foreign c.address c.meaning c.information tick) (read_of buffer bits (length room))
step w (overhears buffer bits room out) =
    told w (λ c. frames.overhears c.address c.meaning c.information out) (read_of buffer bits (length room))
step w silence = called w frames.silence

abbrev pub run : World → List Event → World
run w [] = w
run w (e ∷ es) = run (step w e) es

-- The world of frames that a reader with 253 bytes to write to sees.
abbrev pub as_frames : World → frames.World
as_frames w = framed (heard w.wire 253) w

-- The types say so: both ends' arrays are of 253 bytes, and every message that is put is of bytes. Nothing is on the line at the start.
pub record Typable (start : World) : Type 0 where
  pub master : Typed start.master.side
  pub slave : Typed start.slave.side
  pub wire : start.wire ≡ quiet

abbrev pub OfBytes : Event → Type 0
OfBytes (master_put m) = Bytes m
OfBytes (slave_put m) = Bytes m
OfBytes (master_take out) = Unit {0}
OfBytes (slave_take out) = Unit {0}
OfBytes master_clear = Unit {0}
OfBytes slave_clear = Unit {0}
OfBytes (order tick out lent) = Unit {0}
OfBytes (arrives room out lent) = Unit {0}
OfBytes (hears room tick) = Unit {0}
OfBytes lost = Unit {0}
OfBytes (foreign buffer bits room tick) = Unit {0}
OfBytes (overhears buffer bits room out) = Unit {0}
OfBytes silence = Unit {0}

abbrev pub AllOfBytes : List Event → Type 0
AllOfBytes [] = Unit {0}
AllOfBytes (e ∷ es) = OfBytes e × AllOfBytes es

-- A run over the bits is a run over frames: whatever the buffers lent, some events of `link` lead from the same start to the same ends and logs,
-- and to the frame whose bits are on the line. So all that `link` promises of its runs holds of these.
abbrev pub RunsOfFrames : Type 0
RunsOfFrames =
    (start : World) → Typable start → (es : List Event) → AllOfBytes es
    → (fs : List frames.Event) × (as_frames (run start es) ≡ frames.run (as_frames start) fs)

-- Demand 3's safety once more: "Then, each way, the messages handed over since that moment are those confirmed to their sender since, in order,
-- followed at most by the one still held. Neither end calls for resynchronisation."
abbrev pub SafetyOverBits : Type 0
SafetyOverBits = (start : World) → Typable start → Start (as_frames start) → (es : List Event) → AllOfBytes es → Safe (as_frames (run start es))
