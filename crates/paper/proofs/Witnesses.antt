-- Each number of each list is given, by computation.
-- Assumes nothing.
use mathlib.Core.Path.{refl}
use Rattle.frame.specs.Control.{known, byte_of, counts_refusal, encode_of, decode_of}
use Rattle.frame.specs.Message.{message_refusal, information_in, check_of}
use Rattle.frame.specs.Refusal.{address_refusal, none_refusal, information_refusal, frame_refusal}
use Rattle.bits.specs.Bits.{low, bits_of, val, bytes_of}
use Rattle.bits.specs.Packed.{padded}
use Rattle.bits.specs.Insert.{insert, remove, ending}
use Rattle.bits.specs.Check.{shifted, register, check_word, check_bytes}
use Rattle.reader.specs.Flags.{starts, flags, seven, first, heard}
use Rattle.writer.specs.Write.{content_bytes, line, laid, write_refusal, write_of}
use Rattle.bits.specs.Count.{bit_count_refusal}
use Rattle.reader.specs.Read.{removal_refusal, check_refusal, bytes_in, frame_answer, content_answer, read_of}
use Rattle.nrzi.specs.Nrzi.{nrzi_refusal, code_of}
use Rattle.side.specs.Right.{slot_wrong, side_wrong, address_wrong}
use Rattle.side.specs.Slot as sides
use Rattle.slave.specs.Slave as slaves
use Rattle.slave.specs.Step.{step_refusal, step_of}
use Rattle.master.specs.Master as masters
use Rattle.master.specs.Order.{order_refusal, orders, order_of}
use Rattle.master.specs.Response.{silence_refusal, response_refusal, response_of, silence_of}
use Rattle.capture.specs.Record.{pair_at, kind_refusal, form_refusal, with_information, frame_in, record_of, record_at}
use Rattle.layout.specs.SlaveLayout as slave-layout
use Rattle.layout.specs.MasterLayout as master-layout
use Rattle.listing.specs.Listing.{lines_from, lines_of, listing, output_refusal, list_of}
use Rattle.paper.specs.Witnesses as stated

reading : stated.Reading
unfolding low bits_of val bytes_of padded insert remove ending shifted register check_word check_bytes starts flags seven first heard content_bytes line laid bit_count_refusal removal_refusal check_refusal bytes_in frame_answer content_answer read_of address_refusal decode_of known byte_of information_in information_refusal message_refusal
reading =
    record {
      n2 = refl;
      n1 = refl;
      n3 = refl;
      n4 = refl;
      n5 = refl;
      n6 = refl;
      n7 = refl;
      n8 = refl;
      n9 = refl;
      n10 = refl;
      n12 = refl;
      n11 = refl;
    }

writing : stated.Writing
unfolding write_of write_refusal address_refusal frame_refusal counts_refusal information_refusal none_refusal message_refusal content_bytes line byte_of check_bytes check_word register shifted bits_of low insert
writing = record { n8 = refl; n9 = refl; n10 = refl; n12 = refl; n11 = refl }

nrzi : stated.Nrzi
unfolding code_of nrzi_refusal bit_count_refusal
nrzi = record { n2 = λ back. refl; n11 = λ back. refl }

message_check_lem : stated.MessageCheck
unfolding check_of message_refusal
message_check_lem = record { n10 = refl; n12 = refl }

captures : stated.Captures
unfolding record_at record_of form_refusal kind_refusal pair_at frame_in with_information address_refusal decode_of known byte_of information_refusal message_refusal
captures = record { n18 = refl; n8 = refl; n9 = refl; n10 = refl; n12 = refl }

text : stated.Listing
unfolding list_of output_refusal listing lines_of lines_from
text = record { n11 = refl }

making : stated.Making
unfolding slaves.make_of masters.make_of masters.make_refusal masters.limit_refusal address_refusal
making = record { n8 = (refl, refl); n15 = refl }

put : stated.Put
unfolding slaves.make_of slaves.put_of masters.make_of masters.make_refusal masters.put_of masters.outer_wrong masters.limit_wrong masters.limit_refusal address_wrong address_refusal sides.put_of sides.put_refusal side_wrong slot_wrong message_refusal
put = record { n30 = (refl, refl); n10 = (refl, refl); n12 = (refl, refl); n13 = (refl, refl) }

take : stated.Take
unfolding slaves.make_of slaves.take_of masters.make_of masters.make_refusal masters.take_of masters.outer_wrong masters.limit_wrong masters.limit_refusal address_wrong address_refusal sides.take_of sides.take_refusal side_wrong slot_wrong message_refusal
take = record { n30 = (refl, refl); n14 = (refl, refl); n11 = (refl, refl) }

order : stated.Order
unfolding masters.make_of masters.make_refusal masters.master_wrong masters.outer_wrong masters.limit_wrong masters.limit_refusal address_wrong address_refusal side_wrong slot_wrong order_of order_refusal orders
order = record { n30 = refl; n17 = refl; n11 = refl }

response : stated.Response
unfolding masters.make_of masters.make_refusal masters.master_wrong masters.outer_wrong masters.limit_wrong masters.limit_refusal address_wrong address_refusal side_wrong slot_wrong order_of order_refusal orders response_of response_refusal silence_refusal frame_refusal counts_refusal information_refusal message_refusal
response = record { n30 = refl; n16 = refl; n9 = refl; n10 = refl; n12 = refl }

silence : stated.Silence
unfolding masters.make_of masters.make_refusal masters.master_wrong masters.outer_wrong masters.limit_wrong masters.limit_refusal address_wrong address_refusal side_wrong slot_wrong silence_of silence_refusal
silence = record { n30 = refl; n16 = refl }

slave-step : stated.SlaveStep
unfolding slaves.make_of slaves.slave_wrong address_wrong address_refusal side_wrong slot_wrong step_of step_refusal frame_refusal counts_refusal information_refusal none_refusal message_refusal
slave-step = record { n30 = refl; n11 = refl; n9 = refl; n10 = refl; n12 = refl; n19 = refl }

owners_calls_lem : stated.OwnersCalls
unfolding slaves.restart_of slaves.clear_of slaves.slave_wrong masters.restart_of masters.clear_of masters.master_wrong masters.outer_wrong address_wrong address_refusal
owners_calls_lem = record { restart = (refl, refl); clear = (refl, refl) }

parts : stated.Parts
unfolding decode_of known byte_of encode_of counts_refusal address_refusal message_refusal information_refusal none_refusal frame_refusal check_of information_in bit_count_refusal address_wrong side_wrong slot_wrong sides.put_of sides.put_refusal sides.take_of sides.take_refusal slaves.slave_wrong masters.master_wrong masters.outer_wrong slave-layout.slave_wrong master-layout.master_wrong
parts =
    record {
      decode = refl;
      encode = refl;
      counts = refl;
      address = refl;
      message_size = (refl, refl);
      information = (refl, refl);
      frame = (refl, refl, refl);
      check_in = (refl, refl);
      bit_count = refl;
      address_wrong = refl;
      side_wrong = refl;
      side_put = (refl, refl, refl, refl);
      side_take = (refl, refl, refl);
      room = refl;
      end_wrong = (refl, refl);
      in_bytes = (refl, refl);
    }

pub witnesses : stated.Witnesses
witnesses =
    record {
      reading = reading;
      writing = writing;
      nrzi = nrzi;
      message_check = message_check_lem;
      captures = captures;
      listing = text;
      making = making;
      put = put;
      take = take;
      order = order;
      response = response;
      silence = silence;
      slave_step = slave-step;
      owners_calls = owners_calls_lem;
      parts = parts;
    }
