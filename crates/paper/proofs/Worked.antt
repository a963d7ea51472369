-- The other worked cases of 01 hold, by computation.
-- Assumes nothing.
use mathlib.Core.Path.{refl}
use Rattle.frame.specs.Control.{counts_refusal}
use Rattle.frame.specs.Message.{message_refusal}
use Rattle.frame.specs.Refusal.{address_refusal, none_refusal, information_refusal, frame_refusal}
use Rattle.bits.specs.Bits.{low, bits_of}
use Rattle.bits.specs.Insert.{remove, ending}
use Rattle.bits.specs.Check.{shifted, register, check_word}
use Rattle.reader.specs.Flags.{starts, flags, seven, first, heard}
use Rattle.reader.specs.Read.{removal_refusal, content_answer}
use Rattle.side.specs.Right.{slot_wrong, side_wrong, address_wrong}
use Rattle.side.specs.Slot as slots
use Rattle.side.specs.Rule.{ack, seen, hand_over, count_rule, is_rnr}
use Rattle.side.specs.Say.{status, says_held, says}
use Rattle.slave.specs.Slave as slaves
use Rattle.slave.specs.Step.{step_refusal, responds, in_nrm, moved, step_of}
use Rattle.master.specs.Master as masters
use Rattle.master.specs.Order.{order_refusal, may_inform, in_linked, orders, order_of}
use Rattle.master.specs.Response.{silence_refusal, response_refusal, counts_as_silence, accepts, hear_linked, hears, response_of}
use Rattle.paper.specs.Worked.{Bounds, OnTheLine, BothEnds, Worked}

bounds : Bounds
unfolding address_refusal message_refusal
bounds = record { addresses = (refl, refl, refl, refl); four = refl; five = refl; most = refl }

line : OnTheLine
unfolding low bits_of shifted register check_word starts flags seven first heard remove ending removal_refusal content_answer
line =
    record {
      check = refl;
      plain = refl;
      led = refl;
      shared = refl;
      three = refl;
      dropped = refl;
      closed_by_none = refl;
      no_first_zero = refl;
      cut = refl;
      whole = refl;
      five = refl;
      five_and_zero = refl;
      scrap = refl;
    }

ends : BothEnds
unfolding step_of step_refusal slaves.slave_wrong slaves.take_of moved in_nrm responds masters.put_of masters.master_wrong masters.outer_wrong masters.limit_wrong masters.limit_refusal order_of order_refusal orders in_linked may_inform response_of response_refusal silence_refusal counts_as_silence hears hear_linked accepts slots.put_of slots.put_refusal slots.take_of slots.take_refusal slots.full slots.room count_rule ack seen hand_over is_rnr says says_held status address_wrong side_wrong slot_wrong address_refusal frame_refusal counts_refusal information_refusal none_refusal message_refusal
ends =
    record {
      sends = refl;
      answers = refl;
      confirms = refl;
      released = refl;
      taken = refl;
      again = refl;
      empty = refl;
    }

pub worked : Worked
worked = record { bounds = bounds; line = line; ends = ends }
