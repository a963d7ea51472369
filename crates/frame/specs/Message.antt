-- Messages (01, "Messages").
use Rattle.std.specs.Prelude.{ℕ, ◌+◌, ◌-◌, List, eqb, ltb, length, get_or, take, drop}
use Rattle.frame.specs.Pick.{pick}
use Rattle.frame.specs.Answer.{Answer, unless}

-- 10: not 5 to 253 bytes; 12: the first byte is not the size plus 2
unfoldable pub message_refusal : List ℕ → ℕ
message_refusal m =
    pick (ltb (length m) 5) 10
    (pick (ltb 253 (length m)) 10
    (pick (eqb (get_or m 0 0) (length m + 2)) 0
    12))

-- "the part of the frame from byte 2 up to the check word", which is the frame's last two bytes
unfoldable pub information_in : List ℕ → List ℕ
information_in frame = take (length frame - 4) (drop 2 frame)

-- "Message check: 10, 12." It gives no value.
unfoldable pub check_of : List ℕ → Answer (Unit {0})
check_of m = unless (message_refusal m) tt
