-- The slave's step (01, "Slave"; 000, table 3).
use Rattle.std.specs.Prelude.{ℕ, not, List, eqb, length, Option, None, Some}
use Rattle.frame.specs.Pick.{pick, ◌then◌}
use Rattle.frame.specs.Refusal.{frame_refusal}
use Rattle.frame.specs.declared.Meaning.{Meaning}
use Rattle.frame.specs.declared.Meaning.TheVariants.{I, Rr, Rnr, Snrm, Disc, Ua, Frmr}
use Rattle.side.specs.Given.{Given, giving, refusing, size_given}
use Rattle.side.specs.Side.{synchronised}
use Rattle.side.specs.Slot.{laid, room_refusal}
use Rattle.side.specs.Rule.{count_rule, is_rnr}
use Rattle.side.specs.Say.{says}
use Rattle.side.specs.declared.Side.{Side}
use Rattle.side.specs.declared.answer.Change.{Change}
use Rattle.side.specs.declared.answer.Change.TheVariants.{Same, Gained, Lost}
use Rattle.frame.specs.declared.Line.{Line}
use Rattle.side.specs.declared.answer.News.{News}
use Rattle.side.specs.declared.rule.Accepted.{Accepted}
use Rattle.slave.specs.Slave.{slave_wrong}
use Rattle.slave.specs.declared.Mode.{Mode}
use Rattle.slave.specs.declared.Mode.TheVariants.{Ndm, Nrm}
use Rattle.slave.specs.declared.Slave.{Slave}
use Rattle.slave.specs.declared.step.Moved.{Moved}

-- 19: "frame for another address"
abbrev pub other_refusal : ℕ → ℕ → ℕ
other_refusal own a = pick (eqb a own) 0 19

-- 30 before all others; "Slave step: 11, 9, 10, 12, 19."
unfoldable pub step_refusal : Slave → ℕ → Meaning → List ℕ → ℕ → ℕ
step_refusal s a f m room = slave_wrong s then room_refusal room then frame_refusal f m then other_refusal s.address a

-- a response without count and information, and the slave after it
abbrev pub answers : Slave → Side → Mode → Meaning → Change → Moved
answers s t q f l =
    record {
      line = record { address = s.address; meaning = f; size = 0 };
      news = record { confirmed = 0; handed = 0; link = l };
      slave = record { side = t; mode = q; address = s.address };
    }

-- "NDM: DISC gives UA; SNRM gives UA and NRM; others FRMR."
unfoldable pub in_ndm : Slave → Meaning → Moved
in_ndm s (I ns nr) = answers s s.side Ndm Frmr Same
in_ndm s (Rr nr) = answers s s.side Ndm Frmr Same
in_ndm s (Rnr nr) = answers s s.side Ndm Frmr Same
in_ndm s Snrm = answers s (synchronised s.side) Nrm Ua Gained
in_ndm s Disc = answers s s.side Ndm Ua Same
in_ndm s Ua = answers s s.side Ndm Frmr Same
in_ndm s Frmr = answers s s.side Ndm Frmr Same

-- "answered I if a message is held and the order was not RNR; else RNR if the incoming slot is now full; else RR"
unfoldable pub responds : Slave → Meaning → Side → ℕ → ℕ → Moved
responds s f t confirmed handed =
    record {
      line = record { address = s.address; meaning = (says (not (is_rnr f)) t).meaning; size = (says (not (is_rnr f)) t).size };
      news = record { confirmed = confirmed; handed = handed; link = Same };
      slave = record { side = (says (not (is_rnr f)) t).side; mode = Nrm; address = s.address };
    }

-- "Irrecoverable or any other frame: FRMR and NDM."
abbrev pub on_heard : Slave → Meaning → Side → Option Accepted → Moved
on_heard s f t None = answers s s.side Ndm Frmr Lost
on_heard s f t (Some a) = responds s f t a.confirmed a.handed

-- "NRM: I, RR, RNR by the count rule"
unfoldable pub in_nrm : Slave → Meaning → List ℕ → Moved
in_nrm s f m = on_heard s f (count_rule s.side f m).side (count_rule s.side f m).heard

-- table 3, row by row
abbrev pub moved_in : Mode → Slave → Meaning → List ℕ → Moved
moved_in Ndm s f m = in_ndm s f
moved_in Nrm s f m = in_nrm s f m

-- what an order that is not refused does
unfoldable pub moved : Slave → Meaning → List ℕ → Moved
moved s f m = moved_in s.mode s f m

-- "A slave step refused by 9, 10, 12 or 19 sends no response and changes no mode"
unfoldable pub step_of : Slave → ℕ → Meaning → List ℕ → ℕ → Given (Line × News) Slave
step_of s a f m room = refusing (step_refusal s a f m room) s (giving ((moved s f m).line, (moved s f m).news) (moved s f m).slave)

-- the lent buffer: the held message where the response is an I frame, and the rest as it was
abbrev pub step_bytes : Slave → ℕ → Meaning → List ℕ → List ℕ → List ℕ
step_bytes s a f m out =
    laid (size_given (λ (v : Line × News). v.0.size) (step_of s a f m (length out)).answer) s.side.held out
