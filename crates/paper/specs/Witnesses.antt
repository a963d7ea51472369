-- For each number of each call's list (specs/Numbers.antt) arguments for which the definition that the contract cites gives that number.
use Rattle.std.specs.Prelude.{ℕ, ◌≡◌, Bool, true, List, [], ◌∷◌, ◌++◌, length, replicate}
use Rattle.frame.specs.Answer.{Answer, refuses}
use Rattle.frame.specs.Control.{counts_refusal, encode_of, decode_of}
use Rattle.frame.specs.Message.{message_refusal, information_in, check_of}
use Rattle.frame.specs.Refusal.{address_refusal, information_refusal, frame_refusal}
use Rattle.frame.specs.declared.Meaning.{Meaning}
use Rattle.frame.specs.declared.Meaning.TheVariants.{I, Rr, Snrm}
use Rattle.bits.specs.Flag.{flag}
use Rattle.bits.specs.Count.{bit_count_refusal}
use Rattle.writer.specs.Write.{content_bytes, line, laid, write_of}
use Rattle.frame.specs.declared.Line.{Line}
use Rattle.reader.specs.Read.{read_of, told}
use Rattle.nrzi.specs.Nrzi.{code_of}
use Rattle.side.specs.Right.{side_wrong, address_wrong}
use Rattle.side.specs.Side.{fresh, with_counts}
use Rattle.side.specs.Slot as sides
use Rattle.side.specs.Rule.{filled_with}
use Rattle.slave.specs.Slave as slaves
use Rattle.slave.specs.Step.{step_of}
use Rattle.slave.specs.declared.Slave.{Slave}
use Rattle.master.specs.Master as masters
use Rattle.master.specs.Order.{order_of}
use Rattle.master.specs.Response.{response_of, silence_of}
use Rattle.master.specs.declared.Master.{Master}
use Rattle.capture.specs.Record.{record_at}
use Rattle.listing.specs.Listing.{list_of}
use Rattle.layout.specs.SlaveLayout as slave-layout
use Rattle.layout.specs.MasterLayout as master-layout
use Rattle.paper.specs.Points.{digits, ns, nr}

-- what is read of bits that stand alone in a packed buffer, for a lent output of that room
abbrev pub reads : List Bool → ℕ → Answer Line
reads bits room = told (read_of (laid bits []) (length bits) room)

-- an I frame with counts 0; a message of 5 bytes, and 5 bytes that are no message
abbrev pub informs : Meaning
informs = I (ns 0) (nr 0)

abbrev pub message : List ℕ
message = 7 ∷ 0 ∷ 5 ∷ 0x31 ∷ 1 ∷ []

abbrev pub zeros : List ℕ
zeros = replicate 5 0

-- "Reading: 2, 1, 3, 4, 5, 6, 7, 8, 9, 10, 12, 11."
pub record Reading : Type 0 where
  pub n2 : told (read_of [] 1 0) ≡ refuses 2
  pub n1 : told (read_of [] 0 0) ≡ refuses 1
  pub n3 : reads (flag ++ digits (1 ∷ 1 ∷ 1 ∷ 1 ∷ 1 ∷ []) ++ flag) 0 ≡ refuses 3
  pub n4 : reads (flag ++ digits (1 ∷ []) ++ flag) 0 ≡ refuses 4
  pub n5 : reads (line (0 ∷ [])) 0 ≡ refuses 5
  pub n6 : reads (line (replicate 258 0)) 0 ≡ refuses 6
  pub n7 : reads (line (replicate 4 0)) 0 ≡ refuses 7
  pub n8 : reads (line (content_bytes 0 0 [])) 0 ≡ refuses 8
  pub n9 : reads (line (content_bytes 1 0 [])) 0 ≡ refuses 9
  pub n10 : reads (line (content_bytes 1 0x10 [])) 0 ≡ refuses 10
  pub n12 : reads (line (content_bytes 1 0x10 zeros)) 0 ≡ refuses 12
  pub n11 : reads (line (content_bytes 1 0x10 message)) 0 ≡ refuses 11

-- "Writing: 8, 9, 10, 12, 11."
pub record Writing : Type 0 where
  pub n8 : write_of 0 Snrm [] 0 ≡ refuses 8
  pub n9 : write_of 1 (Rr (nr 8)) [] 0 ≡ refuses 9
  pub n10 : write_of 1 informs [] 0 ≡ refuses 10
  pub n12 : write_of 1 informs zeros 0 ≡ refuses 12
  pub n11 : write_of 1 Snrm [] 0 ≡ refuses 11

-- "NRZI: 2, 11.", both ways
pub record Nrzi : Type 0 where
  pub n2 : (back : Bool) → code_of back true [] 1 0 ≡ refuses 2
  pub n11 : (back : Bool) → code_of back true (0 ∷ []) 1 0 ≡ refuses 11

-- "Message check: 10, 12."
pub record MessageCheck : Type 0 where
  pub n10 : check_of [] ≡ refuses 10
  pub n12 : check_of zeros ≡ refuses 12

-- captures: 18, 8, 9, 10, 12
pub record Captures : Type 0 where
  pub n18 : record_at (0 ∷ []) 0 ≡ refuses 18
  pub n8 : record_at (6 ∷ 0 ∷ 1 ∷ 0 ∷ 0 ∷ 0 ∷ []) 0 ≡ refuses 8
  pub n9 : record_at (6 ∷ 0 ∷ 1 ∷ 0 ∷ 1 ∷ 0 ∷ []) 0 ≡ refuses 9
  pub n10 : record_at (6 ∷ 0 ∷ 1 ∷ 0 ∷ 1 ∷ 0x10 ∷ []) 0 ≡ refuses 10
  pub n12 : record_at (11 ∷ 0 ∷ 1 ∷ 0 ∷ 1 ∷ 0x10 ∷ zeros) 0 ≡ refuses 12

-- the listing: 11
pub record Listing : Type 0 where
  pub n11 : list_of [] 0 ≡ refuses 11

-- a fresh slave and a fresh master of station 1, and each with a message in a slot
abbrev pub slave : Slave
slave = (slaves.make_of 1).end

abbrev pub master : Master
master = (masters.make_of 1 1).end

abbrev pub slave_waiting : Slave
slave_waiting = slaves.on_side slave (filled_with message slave.side)

abbrev pub master_waiting : Master
master_waiting = masters.on_side master (filled_with message master.side)

-- the master after an order
abbrev pub ordered : Master
ordered = (order_of master 0 253).end

-- "Making a link: 8, 15 (the slave end has no limit and never gives 15)."
pub record Making : Type 0 where
  pub n8 : ((slaves.make_of 0).answer ≡ refuses 8) × ((masters.make_of 0 0).answer ≡ refuses 8)
  pub n15 : (masters.make_of 1 0).answer ≡ refuses 15

-- "Put: 10, 12, 13.", and 30 before them: of either end
pub record Put : Type 0 where
  pub n30 : ((slaves.put_of slaves.blank []).answer ≡ refuses 30) × ((masters.put_of masters.blank []).answer ≡ refuses 30)
  pub n10 : ((slaves.put_of slave []).answer ≡ refuses 10) × ((masters.put_of master []).answer ≡ refuses 10)
  pub n12 : ((slaves.put_of slave zeros).answer ≡ refuses 12) × ((masters.put_of master zeros).answer ≡ refuses 12)
  pub n13 : ((slaves.put_of (slaves.put_of slave message).end message).answer ≡ refuses 13) × ((masters.put_of (masters.put_of master message).end message).answer ≡ refuses 13)

-- "Take: 14, 11.", and 30
pub record Take : Type 0 where
  pub n30 : ((slaves.take_of slaves.blank 0).answer ≡ refuses 30) × ((masters.take_of masters.blank 0).answer ≡ refuses 30)
  pub n14 : ((slaves.take_of slave 0).answer ≡ refuses 14) × ((masters.take_of master 0).answer ≡ refuses 14)
  pub n11 : ((slaves.take_of slave_waiting 4).answer ≡ refuses 11) × ((masters.take_of master_waiting 4).answer ≡ refuses 11)

-- "Order: 17, 11.", and 30
pub record Order : Type 0 where
  pub n30 : (order_of masters.blank 0 0).answer ≡ refuses 30
  pub n17 : (order_of ordered 0 0).answer ≡ refuses 17
  pub n11 : (order_of master 0 252).answer ≡ refuses 11

-- "Response: 16, 9, 10, 12.", and 30
pub record Response : Type 0 where
  pub n30 : (response_of masters.blank 0 Snrm [] 0).answer ≡ refuses 30
  pub n16 : (response_of master 1 Snrm [] 0).answer ≡ refuses 16
  pub n9 : (response_of ordered 1 (Rr (nr 8)) [] 0).answer ≡ refuses 9
  pub n10 : (response_of ordered 1 informs [] 0).answer ≡ refuses 10
  pub n12 : (response_of ordered 1 informs zeros 0).answer ≡ refuses 12

-- "Silence: 16.", and 30
pub record Silence : Type 0 where
  pub n30 : (silence_of masters.blank).answer ≡ refuses 30
  pub n16 : (silence_of master).answer ≡ refuses 16

-- "Slave step: 11, 9, 10, 12, 19.", and 30
pub record SlaveStep : Type 0 where
  pub n30 : (step_of slaves.blank 0 Snrm [] 0).answer ≡ refuses 30
  pub n11 : (step_of slave 1 Snrm [] 252).answer ≡ refuses 11
  pub n9 : (step_of slave 1 (Rr (nr 8)) [] 253).answer ≡ refuses 9
  pub n10 : (step_of slave 1 informs [] 253).answer ≡ refuses 10
  pub n12 : (step_of slave 1 informs zeros 253).answer ≡ refuses 12
  pub n19 : (step_of slave 2 Snrm [] 253).answer ≡ refuses 19

-- restart and clear: 30
pub record OwnersCalls : Type 0 where
  pub restart : ((slaves.restart_of slaves.blank).answer ≡ refuses 30) × ((masters.restart_of masters.blank).answer ≡ refuses 30)
  pub clear : ((slaves.clear_of slaves.blank).answer ≡ refuses 30) × ((masters.clear_of masters.blank).answer ≡ refuses 30)

-- the public functions of the rooms that 01 has no call for
pub record Parts : Type 0 where
  pub decode : decode_of 0 ≡ refuses 9
  pub encode : encode_of (Rr (nr 8)) ≡ refuses 9
  pub counts : counts_refusal (Rr (nr 8)) ≡ 9
  pub address : address_refusal 0 ≡ 8
  pub message_size : (message_refusal [] ≡ 10) × (message_refusal zeros ≡ 12)
  pub information : (information_refusal informs [] ≡ 10) × (information_refusal informs zeros ≡ 12)
  pub frame : (frame_refusal (Rr (nr 8)) [] ≡ 9) × (frame_refusal informs [] ≡ 10) × (frame_refusal informs zeros ≡ 12)
  pub check_in : (check_of (information_in []) ≡ refuses 10) × (check_of (information_in (replicate 9 0)) ≡ refuses 12)
  pub bit_count : bit_count_refusal 0 1 ≡ 2
  pub address_wrong : address_wrong 0 ≡ 30
  pub side_wrong : side_wrong (with_counts 8 0 fresh) ≡ 30
  pub side_put : ((sides.put_of (with_counts 8 0 fresh) []).answer ≡ refuses 30) × ((sides.put_of fresh []).answer ≡ refuses 10)
      × ((sides.put_of fresh zeros).answer ≡ refuses 12) × ((sides.put_of (sides.put_of fresh message).end message).answer ≡ refuses 13)
  pub side_take : ((sides.take_of (with_counts 8 0 fresh) 0).answer ≡ refuses 30) × ((sides.take_of fresh 0).answer ≡ refuses 14)
      × ((sides.take_of (filled_with message fresh) 4).answer ≡ refuses 11)
  pub room : sides.room_refusal 252 ≡ 11
  pub end_wrong : (slaves.slave_wrong slaves.blank ≡ 30) × (masters.master_wrong masters.blank ≡ 30)
  pub in_bytes : (slave-layout.slave_wrong (2 ∷ []) ≡ 30) × (master-layout.master_wrong (3 ∷ []) ≡ 30)

pub record Witnesses : Type 0 where
  pub reading : Reading
  pub writing : Writing
  pub nrzi : Nrzi
  pub message_check : MessageCheck
  pub captures : Captures
  pub listing : Listing
  pub making : Making
  pub put : Put
  pub take : Take
  pub order : Order
  pub response : Response
  pub silence : Silence
  pub slave_step : SlaveStep
  pub owners_calls : OwnersCalls
  pub parts : Parts
