-- What an end says that goes by the count rule (01, "Slave", "Master", "Sent").
use Rattle.std.specs.Prelude.{Bool, true, eqb}
use Rattle.frame.specs.Pick.{pick}
use Rattle.frame.specs.declared.Meaning.TheVariants.{I, Rr, Rnr}
use Rattle.side.specs.Side.{with_outgoing}
use Rattle.side.specs.Slot.{full}
use Rattle.side.specs.declared.Side.{Side}
use Rattle.side.specs.declared.say.Saying.{Saying}

-- "RNR if the incoming slot is now full; else RR"
unfoldable pub status : Side → Saying
status s = record { meaning = pick (full s) (Rnr s.nr) (Rr s.nr); size = 0; side = s }

-- "Either end marks its held message sent when it gives it out in an I frame, arrived or lost."
abbrev pub informs : Side → Saying
informs s = record { meaning = I s.ns s.nr; size = s.holds; side = with_outgoing s.held s.holds true s }

-- "I if a message is held"
unfoldable pub says_held : Side → Saying
says_held s = pick (eqb s.holds 0) (status s) (informs s)

-- I where the end may send it and a message is held; "A response carries the counts as they stand after the order."
unfoldable pub says : Bool → Side → Saying
says may s = pick may (says_held s) (status s)
