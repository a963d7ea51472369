-- Worked cases, each computed from the code's own definitions: two fresh ends link, and a message goes each way once although a response comes late.
-- Assumes nothing.
use Prim.Native.Nat.{ℕ}
use mathlib.Core.Path.{◌≡◌, refl}
use mathlib.Core.List.{List, [], ◌∷◌, ◌++◌}
use lib.ListN.{replicate}
use Rattle.frame.specs.Message.{message_refusal}
use Rattle.frame.specs.Refusal.{address_refusal, none_refusal, information_refusal, frame_refusal}
use Rattle.frame.specs.Control.{counts_refusal}
use Rattle.side.specs.Side.{synchronised}
use Rattle.side.specs.Right.{slot_wrong, side_wrong, address_wrong}
use Rattle.side.specs.Slot as side
use Rattle.side.specs.Rule.{ack, seen, hand_over, count_rule, is_rnr}
use Rattle.side.specs.Say.{status, says_held, says}
use Rattle.slave.specs.Slave as slave
use Rattle.slave.specs.Step.{step_refusal, in_ndm, responds, in_nrm, moved, step_of}
use Rattle.master.specs.Master as master
use Rattle.master.specs.Order.{order_refusal, may_inform, in_linked, orders, order_of}
use Rattle.master.specs.Response as response
use Rattle.slave.specs.declared.Mode.TheVariants.{Nrm}
use Rattle.master.specs.declared.Mode.TheVariants.{Linked}
use Rattle.delivery.specs.Runs.{Logs}
use Rattle.link.specs.Runs.{World, Event, master_put, slave_put, master_take, slave_take, order, arrives, hears, made, run, from_here}

-- a lent buffer of the size that an order and a step need
abbrev buffer : List ℕ
buffer = replicate 253 0

-- an exchange that comes through whole: its response is handed in 99 ticks after its order, and the limit is 100
abbrev whole : List Event
whole = order 4294967290 buffer ∷ arrives buffer ∷ hears 93 ∷ []

-- the same with a response one tick later: it counts as silence
abbrev late : List Event
late = order 4294967290 buffer ∷ arrives buffer ∷ hears 94 ∷ []

-- two fresh ends after two exchanges, with their logs begun anew
abbrev linked : World
linked = from_here (run (made 5 100 5) (whole ++ whole))

-- two messages of five bytes; the first is that of 01's capture
abbrev m : List ℕ
m = 0x07 ∷ 0x00 ∷ 0x05 ∷ 0x31 ∷ 0x01 ∷ []

abbrev k : List ℕ
k = 0x07 ∷ 0x00 ∷ 0x05 ∷ 0x31 ∷ 0x02 ∷ []

-- each way one message: put, sent in an exchange whose response comes late, taken by the slave's owner into a buffer of just its size, then two
-- whole exchanges; the master's owner takes his
abbrev both : List Event
both = master_put m ∷ slave_put k ∷ late ++ slave_take (replicate 5 0) ∷ whole ++ master_take buffer ∷ whole

abbrev once : List ℕ → Logs
once x = record { put = x ∷ []; confirmed = x ∷ []; handed = x ∷ []; taken = x ∷ [] }

-- "Order arrives, response lost, slave's owner takes the message, whole exchange: duplicate dropped, RR with Nr 1, one handing over" (01, "On both
-- sides of the line"), and the same upwards.
pub worked : (linked.master.mode ≡ Linked) × (linked.slave.mode ≡ Nrm) × ((run linked both).down ≡ once m) × ((run linked both).up ≡ once k)
unfolding master.make_of master.make_refusal master.limit_refusal master.limit_wrong master.outer_wrong master.master_wrong master.put_of master.take_of
    slave.make_of slave.slave_wrong slave.put_of slave.take_of address_refusal address_wrong side_wrong slot_wrong message_refusal
    side.put_of side.put_refusal side.take_of side.take_refusal side.full side.room order_of order_refusal orders in_linked may_inform
    step_of step_refusal moved in_ndm in_nrm responds frame_refusal information_refusal none_refusal counts_refusal
    response.response_of response.response_refusal response.silence_refusal response.counts_as_silence response.hears response.hear_disconnecting
    response.hear_connecting response.hear_linked response.is_ua response.accepts
    synchronised ack seen hand_over count_rule is_rnr status says_held says
worked = (refl, refl, refl, refl)
