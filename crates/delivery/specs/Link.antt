-- One link over lists: messages, frames, the two ends, and what each call does to them.
-- A refused call leaves its end as it was; so each call here is a total function, and a refusal is no change.
use Rattle.std.specs.Prelude.{ℕ, ◌+◌, ◌%◌, Bool, true, false, cond, not, ◌&&◌, eqb, leb, length}
use mathlib.Core.List.{List, [], ◌∷◌, ◌++◌, tail}

-- A message's bytes (01, "Messages"); nothing here looks inside it.
abbrev pub Message : Type 0
Message = List ℕ

-- 01, "Control bytes": I carries Ns, Nr and its information, RR and RNR carry Nr, the rest nothing.
pub data Frame : Type 0 where
  I : ℕ → ℕ → Message → Frame
  RR RNR : ℕ → Frame
  SNRM DISC UA FRMR : Frame

-- 01, "One end of a link": "one outgoing message .. or none, whether that message has been sent".
pub data Held : Type 0 where
  none : Held
  unsent sent : Message → Held

-- 01, "One end of a link": "An end holds its counts, one outgoing message .., one incoming slot, and a mark for messages in doubt".
-- The incoming side is a list, the oldest message first.
pub record End : Type 0 where
  pub ns : ℕ
  pub nr : ℕ
  pub held : Held
  pub incoming : List Message
  pub doubt : Bool

-- 01, "Slave": its two modes.
pub data SlaveMode : Type 0 where
  NDM NRM : SlaveMode

pub record Slave : Type 0 where
  pub mode : SlaveMode
  pub end : End

-- 01, "Master": its three modes.
pub data MasterMode : Type 0 where
  disconnecting connecting linked : MasterMode

-- 01, "Master": the peer-busy mark, and whether an order waits.
pub record Master : Type 0 where
  pub mode : MasterMode
  pub busy : Bool
  pub waiting : Bool
  pub end : End

-- What later requests change: how many messages the incoming side takes (01: 1; request 118: 8),
-- and whether Nr one ahead confirms a sent message only (01: false; request 109: true).
pub record Rules : Type 0 where
  pub capacity : ℕ
  pub sent_only : Bool

-- 01, "Control bytes": each count "runs 0 to 7 and is followed by 0 after 7".
abbrev pub next : ℕ → ℕ
next n = (n + 1) % 8

-- The held message, as a list of none or one.
abbrev pub holds : Held → List Message
holds none = []
holds (unsent m) = m ∷ []
holds (sent m) = m ∷ []

-- The calls of an end's owner (01, "One end of a link").
pub data Call : Type 0 where
  put : Message → Call
  take clear : Call

-- "Put makes the message the held one, unsent"; it is refused (13) while one is held.
abbrev pub put_held : Message → Held → Held
put_held m none = unsent m
put_held m (unsent k) = unsent k
put_held m (sent k) = sent k

-- The end after its owner's call: "take .. empties the slot"; the doubt mark "stays until its owner clears it".
abbrev pub called : Call → End → End
called (put m) e = record { ns = e.ns; nr = e.nr; held = put_held m e.held; incoming = e.incoming; doubt = e.doubt }
called take e = record { ns = e.ns; nr = e.nr; held = e.held; incoming = tail e.incoming; doubt = e.doubt }
called clear e = record { ns = e.ns; nr = e.nr; held = e.held; incoming = e.incoming; doubt = false }

-- The message that put makes the held one: none or one.
abbrev pub accepted : Message → Held → List Message
accepted m none = m ∷ []
accepted m (unsent k) = []
accepted m (sent k) = []

abbrev pub put_by : Call → End → List Message
put_by (put m) e = accepted m e.held
put_by take e = []
put_by clear e = []

-- The message that take gives its owner, the oldest: none or one.
abbrev pub oldest : List Message → List Message
oldest [] = []
oldest (m ∷ l) = m ∷ []

abbrev pub taken_by : Call → End → List Message
taken_by (put m) e = []
taken_by take e = oldest e.incoming
taken_by clear e = []

-- 01, "Synchronising": "A held message already sent is dropped and the doubt mark set; an unsent one stays".
abbrev pub sync_held : Held → Held
sync_held none = none
sync_held (unsent m) = unsent m
sync_held (sent m) = none

abbrev pub sync_doubt : Held → Bool → Bool
sync_doubt none d = d
sync_doubt (unsent m) d = d
sync_doubt (sent m) d = true

-- 01, "Synchronising": "counts to zero".
abbrev pub sync : End → End
sync e = record { ns = 0; nr = 0; held = sync_held e.held; incoming = e.incoming; doubt = sync_doubt e.held e.doubt }

-- 01, "Count rule": "First Nr: equal to own Ns, nothing is confirmed; one more than own Ns, the held message if any is released ..; else irrecoverable".
pub data Ack : Type 0 where
  confirms_nothing confirms astray : Ack

-- Nr one ahead of own Ns; request 109 takes it only where the held message has been sent.
abbrev pub one_ahead : Bool → Held → Ack
one_ahead false h = confirms
one_ahead true none = astray
one_ahead true (unsent m) = astray
one_ahead true (sent m) = confirms

abbrev pub ack : Rules → End → ℕ → Ack
ack r e nr = cond (eqb nr e.ns) confirms_nothing (cond (eqb nr (next e.ns)) (one_ahead r.sent_only e.held) astray)

-- 01, "Count rule": "Then for I: Ns equal to own Nr is new ..; Ns one less than own Nr is a duplicate ..; else irrecoverable".
pub data Seen : Type 0 where
  new duplicate strange : Seen

abbrev pub seen : End → ℕ → Seen
seen e ns = cond (eqb ns e.nr) new (cond (eqb (next ns) e.nr) duplicate strange)

-- What comes of a frame: irrecoverable, or the end after it with what it handed over and what it confirmed, each none or one.
pub data Heard : Type 0 where
  irrecoverable : Heard
  heard : End → List Message → List Message → Heard

-- 01, "Count rule": "the held message if any is released and Ns goes up by one".
abbrev pub released : End → End
released e = record { ns = next e.ns; nr = e.nr; held = none; incoming = e.incoming; doubt = e.doubt }

-- 01, "Count rule": "it is handed over and Nr goes up".
abbrev pub handed_over : Message → End → End
handed_over m e = record { ns = e.ns; nr = next e.nr; held = e.held; incoming = e.incoming ++ (m ∷ []); doubt = e.doubt }

abbrev pub on_nr : End → Ack → Heard
on_nr e confirms_nothing = heard e [] []
on_nr e confirms = heard (released e) [] (holds e.held)
on_nr e astray = irrecoverable

-- 01, "Count rule": a new message, by whether the incoming side is full: "if the incoming slot is empty it is handed over .., else it is not taken".
abbrev pub on_new : Message → End → List Message → Bool → Heard
on_new m e c true = heard e [] c
on_new m e c false = heard (handed_over m e) (m ∷ []) c

module _ (r : Rules) where
  abbrev pub full : End → Bool
  full e = leb r.capacity (length e.incoming)

  -- 01, "Count rule": a duplicate "is dropped".
  abbrev pub on_ns : Message → End → List Message → Seen → Heard
  on_ns m e c new = on_new m e c (full e)
  on_ns m e c duplicate = heard e [] c
  on_ns m e c strange = irrecoverable

  -- 01, "Count rule": "An irrecoverable frame confirms nothing, hands over nothing and leaves every mark".
  abbrev pub on_i : ℕ → Message → Heard → Heard
  on_i ns m irrecoverable = irrecoverable
  on_i ns m (heard e h c) = on_ns m e c (seen e ns)

  -- 01, "Count rule", for the slave in NRM and the linked master; to both any other frame is as bad as an irrecoverable one.
  abbrev pub count_rule : End → Frame → Heard
  count_rule e (I ns nr m) = on_i ns m (on_nr e (ack r e nr))
  count_rule e (RR nr) = on_nr e (ack r e nr)
  count_rule e (RNR nr) = on_nr e (ack r e nr)
  count_rule e SNRM = irrecoverable
  count_rule e DISC = irrecoverable
  count_rule e UA = irrecoverable
  count_rule e FRMR = irrecoverable

-- 01, "Slave" and "Master": RNR if the incoming slot is full, else RR.
abbrev pub status : Bool → ℕ → Frame
status true nr = RNR nr
status false nr = RR nr

-- 01, "Slave" and "Master": I where the end may send it (the first argument) and a message is held, else RNR or RR.
abbrev pub says : Bool → Bool → ℕ → ℕ → Held → Frame
says false full ns nr h = status full nr
says true full ns nr none = status full nr
says true full ns nr (unsent m) = I ns nr m
says true full ns nr (sent m) = I ns nr m

-- 01, "Sent": "Either end marks its held message sent when it gives it out in an I frame, arrived or lost".
abbrev pub mark_sent : Bool → Held → Held
mark_sent false h = h
mark_sent true none = none
mark_sent true (unsent m) = sent m
mark_sent true (sent m) = sent m

abbrev pub said : Bool → End → End
said may e = record { ns = e.ns; nr = e.nr; held = mark_sent may e.held; incoming = e.incoming; doubt = e.doubt }

abbrev pub is_rnr : Frame → Bool
is_rnr (I ns nr m) = false
is_rnr (RR nr) = false
is_rnr (RNR nr) = true
is_rnr SNRM = false
is_rnr DISC = false
is_rnr UA = false
is_rnr FRMR = false

-- A slave step: the slave after it, its response, and what it handed over and confirmed, each none or one.
pub record Answer : Type 0 where
  pub slave : Slave
  pub response : Frame
  pub handed : List Message
  pub confirmed : List Message

abbrev pub answer : SlaveMode → End → Frame → Answer
answer q e f = record { slave = record { mode = q; end = e }; response = f; handed = []; confirmed = [] }

-- 01, "Slave": "NDM: DISC gives UA; SNRM gives UA and NRM; others FRMR".
abbrev pub step_ndm : End → Frame → Answer
step_ndm e (I ns nr m) = answer NDM e FRMR
step_ndm e (RR nr) = answer NDM e FRMR
step_ndm e (RNR nr) = answer NDM e FRMR
step_ndm e SNRM = answer NRM (sync e) UA
step_ndm e DISC = answer NDM e UA
step_ndm e UA = answer NDM e FRMR
step_ndm e FRMR = answer NDM e FRMR

-- The master's response: the master after it, and what it handed over and confirmed, each none or one.
pub record Taken : Type 0 where
  pub master : Master
  pub handed : List Message
  pub confirmed : List Message

-- 01, "Master": "a response not refused ends" the wait.
abbrev pub goes : MasterMode → Bool → End → Taken
goes q busy e = record { master = record { mode = q; busy = busy; waiting = false; end = e }; handed = []; confirmed = [] }

-- 01, "Master": "Disconnecting: .. UA leads to connecting; other responses change nothing but the wait".
abbrev pub hear_disconnecting : Bool → End → Frame → Taken
hear_disconnecting busy e (I ns nr m) = goes disconnecting busy e
hear_disconnecting busy e (RR nr) = goes disconnecting busy e
hear_disconnecting busy e (RNR nr) = goes disconnecting busy e
hear_disconnecting busy e SNRM = goes disconnecting busy e
hear_disconnecting busy e DISC = goes disconnecting busy e
hear_disconnecting busy e UA = goes connecting busy e
hear_disconnecting busy e FRMR = goes disconnecting busy e

-- 01, "Master": "Connecting: .. UA leads to linked, any other response to disconnecting"; "Synchronising: .. busy cleared".
abbrev pub hear_connecting : Bool → End → Frame → Taken
hear_connecting busy e (I ns nr m) = goes disconnecting busy e
hear_connecting busy e (RR nr) = goes disconnecting busy e
hear_connecting busy e (RNR nr) = goes disconnecting busy e
hear_connecting busy e SNRM = goes disconnecting busy e
hear_connecting busy e DISC = goes disconnecting busy e
hear_connecting busy e UA = goes linked false (sync e)
hear_connecting busy e FRMR = goes disconnecting busy e

-- 01, "Master": "RNR heard marks busy; RR or I clears it. Irrecoverable, or UA, FRMR, SNRM, DISC heard: disconnecting".
abbrev pub hear_linked : Bool → End → Frame → Heard → Taken
hear_linked busy e f irrecoverable = goes disconnecting busy e
hear_linked busy e f (heard e' h c) =
    record { master = record { mode = linked; busy = is_rnr f; waiting = false; end = e' }; handed = h; confirmed = c }

module _ (r : Rules) where
  -- 01, "Slave": "NRM: I, RR, RNR by the count rule, answered I if a message is held and the order was not RNR; else RNR if the
  -- incoming slot is now full; else RR. Irrecoverable or any other frame: FRMR and NDM. A response carries the counts as they stand after the order".
  abbrev pub step_nrm : Bool → End → Heard → Answer
  step_nrm may e irrecoverable = answer NDM e FRMR
  step_nrm may e (heard e' h c) =
      record {
        slave = record { mode = NRM; end = said may e' };
        response = says may (full r e') e'.ns e'.nr e'.held;
        handed = h;
        confirmed = c;
      }

  abbrev pub step_in : SlaveMode → End → Frame → Answer
  step_in NDM e f = step_ndm e f
  step_in NRM e f = step_nrm (not (is_rnr f)) e (count_rule r e f)

  abbrev pub slave_step : Slave → Frame → Answer
  slave_step s f = step_in s.mode s.end f

  -- 01, "Master": "Linked: sends RNR if its incoming slot is full, else I if a message is held and the peer isn't marked busy, else RR".
  abbrev pub may_i : Master → Bool
  may_i m = not (full r m.end) && not m.busy

  abbrev pub order_in : MasterMode → Master → Frame
  order_in disconnecting m = DISC
  order_in connecting m = SNRM
  order_in linked m = says (may_i m) (full r m.end) m.end.ns m.end.nr m.end.held

  abbrev pub order_frame : Master → Frame
  order_frame m = order_in m.mode m

  abbrev pub sent_in : MasterMode → Master → End
  sent_in disconnecting m = m.end
  sent_in connecting m = m.end
  sent_in linked m = said (may_i m) m.end

  -- 01, "Master": "An order starts the wait".
  abbrev pub ordered : Master → Master
  ordered m = record { mode = m.mode; busy = m.busy; waiting = true; end = sent_in m.mode m }

  abbrev pub hear_in : MasterMode → Master → Frame → Taken
  hear_in disconnecting m f = hear_disconnecting m.busy m.end f
  hear_in connecting m f = hear_connecting m.busy m.end f
  hear_in linked m f = hear_linked m.busy m.end f (count_rule r m.end f)

  -- A response in time, where an order waits.
  abbrev pub response : Master → Frame → Taken
  response m f = hear_in m.mode m f

-- 01, "Master": "silence ends it and changes nothing else"; a late response counts as silence.
abbrev pub silence : Master → Master
silence m = record { mode = m.mode; busy = m.busy; waiting = false; end = m.end }
