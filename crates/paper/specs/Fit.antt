-- The layers fit: what an end says the writer takes and the reader gives back as it was, and what the reader gives no end refuses for its form.
use Rattle.std.specs.Prelude.{ℕ, ◌≤◌, ◌≡◌, List, [], ◌∷◌, length}
use Rattle.frame.specs.Bytes.{Bytes}
use Rattle.frame.specs.Answer.{gives, Lists}
use Rattle.frame.specs.Carried.{Carried}
use Rattle.frame.specs.declared.Meaning.{Meaning}
use Rattle.writer.specs.Write.{write_of, write_bytes}
use Rattle.writer.specs.declared.Report.{Report}
use Rattle.reader.specs.Read.{fitting, read_of}
use Rattle.side.specs.Side.{Slots}
use Rattle.side.specs.declared.Side.{Side}
use Rattle.frame.specs.declared.Line.{Line}
use Rattle.side.specs.declared.answer.News.{News}
use Rattle.slave.specs.Step.{step_of, step_bytes}
use Rattle.slave.specs.declared.Slave.{Slave}
use Rattle.master.specs.Order.{order_of, order_bytes}
use Rattle.master.specs.Response.{response_of}
use Rattle.master.specs.declared.Master.{Master}
use Rattle.link.specs.Runs.{carried}

-- A frame that goes over the line. The writer takes it whenever its buffer has 311 bytes (01, "Bits between flags": "311 buffer bytes");
-- and wherever the writer takes it, the reader gives it back: this frame, or 11 where the output is smaller than its information.
pub record Fits (c : Carried) : Type 0 where
  pub taken : (room : ℕ) → 311 ≤ room → (r : Report) × (write_of c.address c.meaning c.information room ≡ gives r)
  pub back : (lent : List ℕ) (r : Report) → write_of c.address c.meaning c.information (length lent) ≡ gives r
      → (room : ℕ) → read_of (write_bytes c.address c.meaning c.information lent) r.bits room ≡ fitting room (gives c)
  -- 253 bytes are room enough
  pub few : length c.information ≤ 253

-- an array of 253 bytes
abbrev pub Array : List ℕ → Type 0
Array x = (length x ≡ 253) × Bytes x

-- The struct's type says so: arrays of 253 bytes, each of them a byte; that is asked of the held message's array only.
abbrev pub Typed : Side → Type 0
Typed s = Slots Array (λ x. length x ≡ 253) s

-- What a master orders and what a slave answers goes over the line. An order or an answer that is given is a right end's: 30 is tested before all others.
abbrev pub OrdersFit : Type 0
OrdersFit =
    (m : Master) → Typed m.side → (tick : ℕ) (out : List ℕ) (l : Line) → (order_of m tick (length out)).answer ≡ gives l
    → Fits (carried l (order_bytes m tick out))

abbrev pub StepsFit : Type 0
StepsFit =
    (s : Slave) → Typed s.side → (a : ℕ) (f : Meaning) (k out : List ℕ) (l : Line) (n : News) → (step_of s a f k (length out)).answer ≡ gives (l, n)
    → Fits (carried l (step_bytes s a f k out))

-- What the reader gives, no end refuses by 9, 10 or 12: of the step's numbers 30, 11 and 19 are left, of the response's 30 and 16.
abbrev pub ReadingsFit : Type 0
ReadingsFit =
    (buffer : List ℕ) (bits room : ℕ) (c : Carried) → read_of buffer bits room ≡ gives c
    → ((s : Slave) (lent : ℕ) → Lists (30 ∷ 11 ∷ 19 ∷ []) (step_of s c.address c.meaning c.information lent).answer)
    × ((m : Master) (tick : ℕ) → Lists (30 ∷ 16 ∷ []) (response_of m c.address c.meaning c.information tick).answer)
