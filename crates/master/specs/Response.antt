-- The response to an order, or the silence in its place (01, "Master", "Synchronising", "Late or strange responses").
use Rattle.std.specs.Prelude.{ℕ, ◌+◌, ◌-◌, ◌%◌, ◌^◌, Bool, true, false, List, ◌==◌, nat_le, Result, Ok, Err, Option, None, Some}
use Rattle.frame.specs.Pick.{pick, ◌then◌}
use Rattle.frame.specs.Answer.{Answer, gives, refuses, number_of}
use Rattle.frame.specs.Refusal.{frame_refusal}
use Rattle.frame.specs.declared.number.Refusal.{Refusal}
use Rattle.frame.specs.declared.Meaning.{Meaning}
use Rattle.frame.specs.declared.Meaning.TheVariants.{I, Rr, Rnr, Snrm, Disc, Ua, Frmr}
use Rattle.side.specs.Given.{Given, giving, refusing}
use Rattle.side.specs.Side.{synchronised}
use Rattle.side.specs.Rule.{count_rule, is_rnr}
use Rattle.side.specs.declared.Side.{Side}
use Rattle.side.specs.declared.answer.Change.{Change}
use Rattle.side.specs.declared.answer.Change.TheVariants.{Same, Gained, Lost}
use Rattle.side.specs.declared.answer.News.{News}
use Rattle.side.specs.declared.rule.Accepted.{Accepted}
use Rattle.master.specs.Master.{master_wrong}
use Rattle.master.specs.declared.Mode.{Mode}
use Rattle.master.specs.declared.Mode.TheVariants.{Disconnecting, Connecting, Linked}
use Rattle.master.specs.declared.Master.{Master}
use Rattle.master.specs.declared.response.Brought.{Brought}

-- 16: "response or silence reported while no order waits"
abbrev pub idle_refusal : Bool → ℕ
idle_refusal waiting = pick waiting 0 16

-- 30 before all others; "Silence: 16."
unfoldable pub silence_refusal : Master → ℕ
silence_refusal m = master_wrong m then idle_refusal m.waiting

-- "Response: 16, 9, 10, 12."
unfoldable pub response_refusal : Master → Meaning → List ℕ → ℕ
response_refusal m f k = silence_refusal m then frame_refusal f k

-- "The age of a response is the 32-bit tick now less the tick of its order, taken modulo 2 to the 32nd."
abbrev pub age_of : ℕ → ℕ → ℕ
age_of tick since = (tick + 2 ^ 32 - since) % 2 ^ 32

-- "An age at or above the limit, or another address, counts as silence."
unfoldable pub counts_as_silence : Master → ℕ → ℕ → Bool
counts_as_silence m a tick = pick (a == m.address) (nat_le m.limit (age_of tick m.tick)) true

-- "a response not refused ends" the wait
abbrev pub goes : Master → Mode → Bool → Side → Master
goes m q busy t =
    record {
      side = t;
      mode = q;
      busy = busy;
      waiting = false;
      tick = m.tick;
      limit = m.limit;
      address = m.address;
    }

-- "silence ends it and changes nothing else"
abbrev pub silenced : Master → Master
silenced m = goes m m.mode m.busy m.side

-- a response that touches the mode and the wait only
abbrev pub turns : Master → Mode → Change → Brought
turns m q l = record { news = record { confirmed = 0; handed = 0; link = l }; master = goes m q m.busy m.side }

-- "Synchronising (.. master hears UA to SNRM): counts to zero, busy cleared."
abbrev pub links : Master → Brought
links m = record { news = record { confirmed = 0; handed = 0; link = Gained }; master = goes m Linked false (synchronised m.side) }

-- "RNR heard marks busy; RR or I clears it."
unfoldable pub accepts : Master → Meaning → Side → ℕ → ℕ → Brought
accepts m f t confirmed handed =
    record { news = record { confirmed = confirmed; handed = handed; link = Same }; master = goes m Linked (is_rnr f) t }

-- UA is the only response that leads on while the link is made
unfoldable pub is_ua : Meaning → Bool
is_ua (I ns nr) = false
is_ua (Rr nr) = false
is_ua (Rnr nr) = false
is_ua Snrm = false
is_ua Disc = false
is_ua Ua = true
is_ua Frmr = false

-- "UA leads to connecting; other responses change nothing but the wait"
unfoldable pub hear_disconnecting : Master → Meaning → Brought
hear_disconnecting m f = pick (is_ua f) (turns m Connecting Same) (turns m Disconnecting Same)

-- "UA leads to linked, any other response to disconnecting"
unfoldable pub hear_connecting : Master → Meaning → Brought
hear_connecting m f = pick (is_ua f) (links m) (turns m Disconnecting Same)

-- "Irrecoverable, or UA, FRMR, SNRM, DISC heard: disconnecting."
abbrev pub on_heard : Master → Meaning → Side → Option Accepted → Brought
on_heard m f t None = turns m Disconnecting Lost
on_heard m f t (Some a) = accepts m f t a.confirmed a.handed

-- "Count rule, .. master linked, for I, RR, RNR"
unfoldable pub hear_linked : Master → Meaning → List ℕ → Brought
hear_linked m f k = on_heard m f (count_rule m.side f k).side (count_rule m.side f k).heard

-- what is heard goes by the mode
abbrev pub hears_in : Mode → Master → Meaning → List ℕ → Brought
hears_in Disconnecting m f k = hear_disconnecting m f
hears_in Connecting m f k = hear_connecting m f
hears_in Linked m f k = hear_linked m f k

-- a response in time from the station that was ordered
unfoldable pub hears : Master → Meaning → List ℕ → Brought
hears m f k = hears_in m.mode m f k

-- what a response that is not refused tells: what it brought, or that it counts as silence
pub data Report : Type 0 where
  brings : News → Report
  silent : Report

-- the number and the values of each case
abbrev pub reported : Result (Option News) Refusal → Answer Report
reported (Ok (Some n)) = gives (brings n)
reported (Ok None) = gives silent
reported (Err r) = refuses (number_of r)

-- the same with the end as the call leaves it
abbrev pub response_given : Result (Option News) Refusal → Master → Given Report Master
response_given r m = record { answer = reported r; end = m }

-- "An age at or above the limit, or another address, counts as silence": judged after 16, 9, 10, 12
unfoldable pub response_of : Master → ℕ → Meaning → List ℕ → ℕ → Given Report Master
response_of m a f k tick =
    refusing (response_refusal m f k) m
    (pick (counts_as_silence m a tick) (giving silent (silenced m)) (giving (brings (hears m f k).news) (hears m f k).master))

-- "silence ends it and changes nothing else"
unfoldable pub silence_of : Master → Given (Unit {0}) Master
silence_of m = refusing (silence_refusal m) m (giving tt (silenced m))
