-- What is refused of a frame that is put together from its parts (01, "Numbers given back").
use Rattle.std.specs.Prelude.{ℕ, List, eqb, ltb, length}
use Rattle.frame.specs.Pick.{pick, ◌then◌}
use Rattle.frame.specs.Control.{counts_refusal}
use Rattle.frame.specs.Message.{message_refusal}
use Rattle.frame.specs.declared.Meaning.{Meaning}
use Rattle.frame.specs.declared.Meaning.TheVariants.{I, Rr, Rnr, Snrm, Disc, Ua, Frmr}

-- 8: "address outside 1 to 250"
unfoldable pub address_refusal : ℕ → ℕ
address_refusal a = pick (ltb a 1) 8 (pick (ltb 250 a) 8 0)

-- 10: "another frame with information"
unfoldable pub none_refusal : List ℕ → ℕ
none_refusal info = pick (eqb (length info) 0) 0 10

-- 10 and 12: "Only I carries information"
unfoldable pub information_refusal : Meaning → List ℕ → ℕ
information_refusal (I ns nr) info = message_refusal info
information_refusal (Rr nr) info = none_refusal info
information_refusal (Rnr nr) info = none_refusal info
information_refusal Snrm info = none_refusal info
information_refusal Disc info = none_refusal info
information_refusal Ua info = none_refusal info
information_refusal Frmr info = none_refusal info

-- "9, 10, 12", which writing, response, slave step and captures test in this order
unfoldable pub frame_refusal : Meaning → List ℕ → ℕ
frame_refusal m info = counts_refusal m then information_refusal m info
