-- Worked cases, each computed: 01's own, a synchronisation from fresh ends, and runs that show why liveness asks for what it asks.
-- Assumes nothing.
use Prim.Native.Nat.{ℕ}
use mathlib.Core.Path.{◌≡◌, refl}
use mathlib.Core.Bool.{false}
use mathlib.Core.List.{List, [], ◌∷◌, ◌++◌, map}
use lib.ListN.{length}
use Rattle.delivery.specs.Link.{Message, RR, RNR, none, End, SlaveMode, NDM, NRM, MasterMode, disconnecting, linked, Rules, holds, put, take, confirms_nothing, confirms, astray, ack, new, duplicate, strange, seen}
use Rattle.delivery.specs.Runs.{quiet, answers, blank, World, Event, master_owner, slave_owner, order, arrives, lost, hears, silent, run, nothing, Start}
use Rattle.delivery.specs.Exchanges.{uncounted, wholes}

-- 01 as it stands: one incoming message, and Nr one ahead confirms whatever is held.
abbrev base : Rules
base = record { capacity = 1; sent_only = false }

abbrev counts : ℕ → ℕ → End
counts ns nr = record { ns = ns; nr = nr; held = none; incoming = []; doubt = false }

-- "P9: own Nr 0: Ns 0 is new, 7 a duplicate, 1 to 6 irrecoverable."
pub P9 : map (seen (counts 0 0)) (0 ∷ 1 ∷ 2 ∷ 3 ∷ 4 ∷ 5 ∷ 6 ∷ 7 ∷ []) ≡ new ∷ strange ∷ strange ∷ strange ∷ strange ∷ strange ∷ strange ∷ duplicate ∷ []
P9 = refl

-- "P10: own Ns 7: Nr 7 confirms nothing, 0 confirms, 1 to 6 irrecoverable."
pub P10 : map (ack base (counts 7 0)) (0 ∷ 1 ∷ 2 ∷ 3 ∷ 4 ∷ 5 ∷ 6 ∷ 7 ∷ [])
    ≡ confirms ∷ astray ∷ astray ∷ astray ∷ astray ∷ astray ∷ astray ∷ confirms_nothing ∷ []
P10 = refl

abbrev both : MasterMode → SlaveMode → World
both q p =
    record {
      master = record { mode = q; busy = false; waiting = false; end = counts 0 0 };
      slave = record { mode = p; end = counts 0 0 };
      line = quiet;
      down = blank;
      up = blank;
    }

abbrev fresh : World
fresh = both disconnecting NDM

abbrev start : World
start = both linked NRM

abbrev whole : List Event
whole = order ∷ arrives ∷ hears ∷ []

-- Two exchanges link two fresh ends, and that is a start.
pub fresh-links : run base fresh (whole ++ whole) ≡ start
fresh-links = refl

pub starts : Start start
starts =
    record {
      master_mode = refl;
      slave_mode = refl;
      busy = refl;
      waiting = refl;
      line = refl;
      master = record { ns = refl; nr = refl; held = nothing };
      slave = record { ns = refl; nr = refl; held = nothing };
      down = refl;
      up = refl;
    }

-- Two messages of five bytes; the first is that of 01's capture.
abbrev m : Message
m = 0x07 ∷ 0x00 ∷ 0x05 ∷ 0x31 ∷ 0x01 ∷ []

abbrev k : Message
k = 0x07 ∷ 0x00 ∷ 0x05 ∷ 0x31 ∷ 0x02 ∷ []

-- "Order arrives, response lost, slave's owner takes the message, whole exchange: duplicate dropped, RR with Nr 1, one handing over."
abbrev repeated : World
repeated = run base start (master_owner (put m) ∷ order ∷ arrives ∷ lost ∷ silent ∷ slave_owner take ∷ order ∷ arrives ∷ [])

pub duplicate_dropped : (repeated.line ≡ answers (RR 1)) × ((run base repeated (hears ∷ [])).down ≡ record { put = m ∷ []; confirmed = m ∷ []; handed = m ∷ []; taken = m ∷ [] })
duplicate_dropped = (refl, refl)

-- "New message into an empty slot, none held: answer RNR with Nr one higher, which confirms."
abbrev taken : World
taken = run base start (master_owner (put m) ∷ order ∷ arrives ∷ [])

pub new_confirmed : (taken.line ≡ answers (RNR 1)) × ((run base taken (hears ∷ [])).down.confirmed ≡ m ∷ [])
new_confirmed = (refl, refl)

-- One exchange is not enough, down: the slave's RNR after k has marked it busy, and the one exchange only clears the mark.
abbrev busy : World
busy = run base start (master_owner (put k) ∷ whole ++ (slave_owner take ∷ master_owner (put m) ∷ []))

pub one_not_enough_down : let v = run base busy whole in
    (wholes base uncounted busy whole ≡ busy ∷ [])
    × (busy.master.end.incoming ≡ [])
    × (busy.slave.end.incoming ≡ [])
    × (holds busy.master.end.held ≡ m ∷ [])
    × (v.down.handed ≡ k ∷ [])
    × ((run base v whole).down.confirmed ≡ k ∷ m ∷ [])
one_not_enough_down = (refl, refl, refl, refl, refl, refl)

-- One exchange is not enough, up: it hands the message over, and the next order confirms it.
abbrev held : World
held = run base start (slave_owner (put m) ∷ [])

pub one_not_enough_up : let v = run base held whole in
    (wholes base uncounted held whole ≡ held ∷ []) × (v.up.handed ≡ m ∷ []) × (v.up.confirmed ≡ []) × ((run base v whole).up.confirmed ≡ m ∷ [])
one_not_enough_up = (refl, refl, refl, refl)

-- The rooms of two exchanges that leave a message undelivered: of each exchange how many messages wait at the master and at the slave as it begins.
abbrev waiting : World → List ℕ
waiting w = length w.master.end.incoming ∷ length w.slave.end.incoming ∷ []

-- Down, no room at the slave as the first begins: k still waits there, and is taken between the two.
abbrev slave_full : List Event
slave_full = whole ++ (slave_owner take ∷ whole)

pub slave_room_needed : let w = run base start (master_owner (put k) ∷ whole ++ (master_owner (put m) ∷ [])) in
    (map waiting (wholes base uncounted w slave_full) ≡ (0 ∷ 1 ∷ []) ∷ (0 ∷ 0 ∷ []) ∷ []) × ((run base w slave_full).down.handed ≡ k ∷ [])
slave_room_needed = (refl, refl)

-- Down, no room at the master as the second begins: the response of the first has brought k up.
pub master_room_needed : let w = run base busy (slave_owner (put k) ∷ []) in
    (map waiting (wholes base uncounted w (whole ++ whole)) ≡ (0 ∷ 0 ∷ []) ∷ (1 ∷ 0 ∷ []) ∷ []) × ((run base w (whole ++ whole)).down.handed ≡ k ∷ [])
master_room_needed = (refl, refl)

-- Up, no room at the master as the first begins: k still waits there, and is taken between the two.
abbrev master_full : List Event
master_full = whole ++ (master_owner take ∷ whole)

pub master_room_needed_up : let w = run base start (slave_owner (put k) ∷ whole ++ whole ++ (slave_owner (put m) ∷ [])) in
    (map waiting (wholes base uncounted w master_full) ≡ (1 ∷ 0 ∷ []) ∷ (0 ∷ 0 ∷ []) ∷ []) × ((run base w master_full).up.confirmed ≡ k ∷ [])
master_room_needed_up = (refl, refl)
