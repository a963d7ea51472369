-- The count rule (01, "One end of a link"): "for I, RR, RNR".
use Rattle.std.specs.Prelude.{ℕ, ◌+◌, ◌%◌, Bool, true, false, List, ◌++◌, eqb, length, drop, Option, None, Some}
use Rattle.frame.specs.Pick.{pick}
use Rattle.frame.specs.declared.SendCount.{SendCount}
use Rattle.frame.specs.declared.ReceiveCount.{ReceiveCount}
use Rattle.frame.specs.declared.Meaning.{Meaning}
use Rattle.frame.specs.declared.Meaning.TheVariants.{I, Rr, Rnr, Snrm, Disc, Ua, Frmr}
use Rattle.side.specs.Side.{with_counts, with_outgoing, with_incoming}
use Rattle.side.specs.Slot.{room}
use Rattle.side.specs.declared.Side.{Side}
use Rattle.side.specs.declared.rule.Ack.{Ack}
use Rattle.side.specs.declared.rule.Ack.TheVariants.{ConfirmsNothing, Confirms, Astray}
use Rattle.side.specs.declared.rule.Seen.{Seen}
use Rattle.side.specs.declared.rule.Seen.TheVariants.{New, Duplicate, Strange}
use Rattle.side.specs.declared.rule.Accepted.{Accepted}
use Rattle.side.specs.declared.rule.Hearing.{Hearing}

-- 01, "Control bytes": each count "runs 0 to 7 and is followed by 0 after 7"
abbrev pub next : ℕ → ℕ
next n = (n + 1) % 8

-- "First Nr: equal to own Ns, nothing is confirmed; one more than own Ns, the held message if any is released ..; else irrecoverable."
unfoldable pub ack : Side → ReceiveCount → Ack
ack s nr = pick (eqb nr.0 s.ns.0) ConfirmsNothing (pick (eqb nr.0 (next s.ns.0)) Confirms Astray)

-- "Then for I: Ns equal to own Nr is new ..; Ns one less than own Nr is a duplicate ..; else irrecoverable."
unfoldable pub seen : Side → SendCount → Seen
seen s ns = pick (eqb ns.0 s.nr.0) New (pick (eqb (next ns.0) s.nr.0) Duplicate Strange)

-- "the held message if any is released and Ns goes up by one": the array's bytes stay, past the size 0
abbrev pub released : Side → Side
released s = with_counts (next s.ns.0) s.nr.0 (with_outgoing s.held 0 false s)

-- "Nr goes up"
abbrev pub advanced : Side → Side
advanced s = with_counts s.ns.0 (next s.nr.0) s

-- "it is handed over": the message stands in the incoming slot, whose bytes past it stay
abbrev pub filled_with : List ℕ → Side → Side
filled_with m s = with_incoming (m ++ drop (length m) s.incoming) (length m) s

-- "An irrecoverable frame confirms nothing, hands over nothing and leaves every mark."
abbrev pub irrecoverable : Side → Hearing
irrecoverable s = record { heard = None; side = s }

-- the sizes of what is confirmed and of what is handed over
abbrev pub accepted : ℕ → ℕ → Option Accepted
accepted confirmed handed = Some (record { confirmed = confirmed; handed = handed })

-- nothing is handed over; what Nr confirmed is confirmed
abbrev pub not_taken : ℕ → Side → Hearing
not_taken confirmed s = record { heard = accepted confirmed 0; side = s }

-- what Nr says is done; a confirmed message is told by its size (0: none was held)
abbrev pub on_nr : Side → Ack → Hearing
on_nr s ConfirmsNothing = not_taken 0 s
on_nr s Confirms = not_taken s.holds (released s)
on_nr s Astray = irrecoverable s

-- "if the incoming slot is empty it is handed over and Nr goes up, else it is not taken"
unfoldable pub hand_over : List ℕ → ℕ → Side → Hearing
hand_over m confirmed s =
    pick (room s (length m)) (record { heard = accepted confirmed (length m); side = filled_with m (advanced s) }) (not_taken confirmed s)

-- an irrecoverable Nr hands over nothing
abbrev pub on_heard : List ℕ → Side → Option Accepted → Hearing
on_heard m s None = irrecoverable s
on_heard m s (Some a) = hand_over m a.confirmed s

-- a new message, after what Nr said
abbrev pub on_new : List ℕ → Hearing → Hearing
on_new m h = on_heard m h.side h.heard

-- a duplicate "is dropped", and acknowledged like an RR
abbrev pub on_i : Side → Ack → List ℕ → Seen → Hearing
on_i s k m New = on_new m (on_nr s k)
on_i s k m Duplicate = on_nr s k
on_i s k m Strange = irrecoverable s

-- "Irrecoverable or any other frame": both ends go by the rule only where any other frame ends the link
unfoldable pub count_rule : Side → Meaning → List ℕ → Hearing
count_rule s (I ns nr) m = on_i s (ack s nr) m (seen s ns)
count_rule s (Rr nr) m = on_nr s (ack s nr)
count_rule s (Rnr nr) m = on_nr s (ack s nr)
count_rule s Snrm m = irrecoverable s
count_rule s Disc m = irrecoverable s
count_rule s Ua m = irrecoverable s
count_rule s Frmr m = irrecoverable s

-- "the order was not RNR"; "RNR heard marks busy"
unfoldable pub is_rnr : Meaning → Bool
is_rnr (I ns nr) = false
is_rnr (Rr nr) = false
is_rnr (Rnr nr) = true
is_rnr Snrm = false
is_rnr Disc = false
is_rnr Ua = false
is_rnr Frmr = false
