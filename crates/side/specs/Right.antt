-- Number 30 (01, "Numbers given back"), as far as it looks at what both ends hold: 30, or 0 where nothing is wrong.
use Rattle.std.specs.Prelude.{ℕ, Bool, List, eqb, ltb, take}
use Rattle.frame.specs.Pick.{pick, ◌then◌}
use Rattle.frame.specs.Message.{message_refusal}
use Rattle.frame.specs.Refusal.{address_refusal}
use Rattle.side.specs.declared.Side.{Side}

-- "a count above 7"
abbrev pub count_wrong : ℕ → ℕ
count_wrong n = pick (ltb 7 n) 30 0

-- "a message size neither 0 nor 5 to 253, a message against 12": the message is the first n bytes of its slot
unfoldable pub slot_wrong : List ℕ → ℕ → ℕ
slot_wrong slot n =
    pick (eqb n 0) 0
    (pick (ltb 253 n) 30
    (pick (eqb (message_refusal (take n slot)) 0) 0
    30))

-- "a sent mark without a message"
abbrev pub sent_wrong : Bool → ℕ → ℕ
sent_wrong sent n = pick sent (pick (eqb n 0) 30 0) 0

-- 30 for any of these
unfoldable pub side_wrong : Side → ℕ
side_wrong s =
    count_wrong s.ns.0 then count_wrong s.nr.0
    then slot_wrong s.held s.holds then slot_wrong s.incoming s.waits
    then sent_wrong s.sent s.holds

-- "an address .. against 8"
unfoldable pub address_wrong : ℕ → ℕ
address_wrong a = pick (eqb (address_refusal a) 0) 0 30
