-- The two slots (01, "One end of a link"): put and take.
use Rattle.std.specs.Prelude.{ℕ, Bool, true, false, List, ◌++◌, eqb, ltb, leb, length, take, drop}
use Rattle.frame.specs.Pick.{pick, ◌then◌}
use Rattle.frame.specs.Message.{message_refusal}
use Rattle.side.specs.Given.{Given, giving, refusing, size_given}
use Rattle.side.specs.Side.{with_outgoing, with_incoming}
use Rattle.side.specs.Right.{side_wrong}
use Rattle.side.specs.declared.Side.{Side}

-- 13: "a message is still held"
abbrev pub held_refusal : ℕ → ℕ
held_refusal holds = pick (eqb holds 0) 0 13

-- 30 before all others; "Put: 10, 12, 13."
unfoldable pub put_refusal : Side → List ℕ → ℕ
put_refusal s m = side_wrong s then message_refusal m then held_refusal s.holds

-- "Put makes the message the held one, unsent"; the array's bytes past it stay
abbrev pub with_held : List ℕ → Side → Side
with_held m s = with_outgoing (m ++ drop (length m) s.held) (length m) false s

-- put gives no value
unfoldable pub put_of : Side → List ℕ → Given (Unit {0}) Side
put_of s m = refusing (put_refusal s m) s (giving tt (with_held m s))

-- 14: "incoming slot empty"; 11: "lent output too small", for the message's size
abbrev pub waits_refusal : ℕ → ℕ → ℕ
waits_refusal waits room = pick (eqb waits 0) 14 (pick (ltb room waits) 11 0)

-- 30 before all others; "Take: 14, 11."
unfoldable pub take_refusal : Side → ℕ → ℕ
take_refusal s room = side_wrong s then waits_refusal s.waits room

-- "empties the slot": the array's bytes stay, past the size 0
abbrev pub emptied : Side → Side
emptied s = with_incoming s.incoming 0 s

-- take "gives its size and empties the slot"
unfoldable pub take_of : Side → ℕ → Given ℕ Side
take_of s room = refusing (take_refusal s room) s (giving s.waits (emptied s))

-- "On success the bytes past the information stay, all of them where there is none."
abbrev pub laid : ℕ → List ℕ → List ℕ → List ℕ
laid n slot out = take n slot ++ drop n out

-- the same where slot and buffer have as many bytes; else nothing is written
unfoldable pub laid_where : ℕ → List ℕ → List ℕ → List ℕ
laid_where n slot out = pick (ltb 253 n) out (pick (ltb (length out) n) out (laid n slot out))

-- "take writes the waiting message, as it was handed over, to the lent buffer"
abbrev pub take_bytes : Side → List ℕ → List ℕ
take_bytes s out = laid (size_given (λ (n : ℕ). n) (take_of s (length out)).answer) s.incoming out

-- whether the incoming slot is full
unfoldable pub full : Side → Bool
full s = pick (eqb s.waits 0) false true

-- whether a message of n bytes finds room: the slot is empty, and has as many bytes (as it has for every message of an accepted frame)
unfoldable pub room : Side → ℕ → Bool
room s n = pick (full s) false (leb n 253)

-- "An order or a slave step needs a lent buffer of 253 bytes always"
abbrev pub room_refusal : ℕ → ℕ
room_refusal room = pick (ltb room 253) 11 0
