-- The numbers of each call (01, "Numbers given back"): "A number outside a call's list is not given by that call."
use Rattle.std.specs.Prelude.{ℕ, Bool, List, [], ◌∷◌}
use Rattle.frame.specs.Answer.{Among, Lists}
use Rattle.frame.specs.Control.{counts_refusal, encode_of, decode_of}
use Rattle.frame.specs.Message.{message_refusal, information_in, check_of}
use Rattle.frame.specs.Refusal.{address_refusal, information_refusal, frame_refusal}
use Rattle.frame.specs.declared.Meaning.{Meaning}
use Rattle.bits.specs.Count.{bit_count_refusal}
use Rattle.writer.specs.Write.{write_of}
use Rattle.reader.specs.Read.{read_of, told}
use Rattle.nrzi.specs.Nrzi.{code_of}
use Rattle.side.specs.Right.{side_wrong, address_wrong}
use Rattle.side.specs.Slot as sides
use Rattle.side.specs.declared.Side.{Side}
use Rattle.slave.specs.Slave as slaves
use Rattle.slave.specs.Step.{step_of}
use Rattle.slave.specs.declared.Slave.{Slave}
use Rattle.master.specs.Master as masters
use Rattle.master.specs.Order.{order_of}
use Rattle.master.specs.Response.{response_of, silence_of}
use Rattle.master.specs.declared.Master.{Master}
use Rattle.capture.specs.Record.{record_at}
use Rattle.listing.specs.Listing.{list_of}
use Rattle.layout.specs.SlaveLayout as slave-layout
use Rattle.layout.specs.MasterLayout as master-layout
use Rattle.bitbus.specs.Promises.{Numbers as CallNumbers}

-- "Order of tests. Reading: 2, 1, 3, 4, 5, 6, 7, 8, 9, 10, 12, 11. Writing: 8, 9, 10, 12, 11. Making a link: 8, 15 (the slave end has no limit and never gives 15)."
abbrev pub of_reading : List ℕ
of_reading = 2 ∷ 1 ∷ 3 ∷ 4 ∷ 5 ∷ 6 ∷ 7 ∷ 8 ∷ 9 ∷ 10 ∷ 12 ∷ 11 ∷ []

abbrev pub of_writing : List ℕ
of_writing = 8 ∷ 9 ∷ 10 ∷ 12 ∷ 11 ∷ []

abbrev pub of_making : List ℕ
of_making = 8 ∷ 15 ∷ []

abbrev pub of_making_slave : List ℕ
of_making_slave = 8 ∷ []

-- "Put: 10, 12, 13. Take: 14, 11. Order: 17, 11. Response: 16, 9, 10, 12. Silence: 16. Slave step: 11, 9, 10, 12, 19.", each behind 30: "Every call that is handed an end tests 30 before all others."
abbrev pub of_put : List ℕ
of_put = 30 ∷ 10 ∷ 12 ∷ 13 ∷ []

abbrev pub of_take : List ℕ
of_take = 30 ∷ 14 ∷ 11 ∷ []

abbrev pub of_order : List ℕ
of_order = 30 ∷ 17 ∷ 11 ∷ []

abbrev pub of_response : List ℕ
of_response = 30 ∷ 16 ∷ 9 ∷ 10 ∷ 12 ∷ []

abbrev pub of_silence : List ℕ
of_silence = 30 ∷ 16 ∷ []

abbrev pub of_slave_step : List ℕ
of_slave_step = 30 ∷ 11 ∷ 9 ∷ 10 ∷ 12 ∷ 19 ∷ []

abbrev pub of_end : List ℕ
of_end = 30 ∷ []

-- "Message check: 10, 12. NRZI: 2, 11."; "Refusal 18: ..; then 8, 9, 10, 12 for bodies"
abbrev pub of_message_check : List ℕ
of_message_check = 10 ∷ 12 ∷ []

abbrev pub of_nrzi : List ℕ
of_nrzi = 2 ∷ 11 ∷ []

abbrev pub of_captures : List ℕ
of_captures = 18 ∷ 8 ∷ 9 ∷ 10 ∷ 12 ∷ []

-- a refusal that is given as a number alone, with 0 where there is none
abbrev pub OneOf : List ℕ → ℕ → Type 0
OneOf ks n = Among n (0 ∷ ks)

-- the calls of 01's list; NRZI both ways
pub record Calls : Type 0 where
  pub reading : (buffer : List ℕ) (bits room : ℕ) → Lists of_reading (told (read_of buffer bits room))
  pub writing : (address : ℕ) (m : Meaning) (info : List ℕ) (room : ℕ) → Lists of_writing (write_of address m info room)
  pub nrzi : (back level : Bool) (input : List ℕ) (bits room : ℕ) → Lists of_nrzi (code_of back level input bits room)
  pub message_check : (m : List ℕ) → Lists of_message_check (check_of m)
  pub check_in : (frame : List ℕ) → Lists of_message_check (check_of (information_in frame))
  pub captures : (capture : List ℕ) (at : ℕ) → Lists of_captures (record_at capture at)

-- the calls of the two ends
pub record Ends : Type 0 where
  pub slave_make : (a : ℕ) → Lists of_making_slave (slaves.make_of a).answer
  pub slave_put : (s : Slave) (m : List ℕ) → Lists of_put (slaves.put_of s m).answer
  pub slave_take : (s : Slave) (room : ℕ) → Lists of_take (slaves.take_of s room).answer
  pub slave_step : (s : Slave) (a : ℕ) (f : Meaning) (m : List ℕ) (room : ℕ) → Lists of_slave_step (step_of s a f m room).answer
  pub slave_restart : (s : Slave) → Lists of_end (slaves.restart_of s).answer
  pub slave_clear : (s : Slave) → Lists of_end (slaves.clear_of s).answer
  pub master_make : (a l : ℕ) → Lists of_making (masters.make_of a l).answer
  pub master_put : (m : Master) (k : List ℕ) → Lists of_put (masters.put_of m k).answer
  pub master_take : (m : Master) (room : ℕ) → Lists of_take (masters.take_of m room).answer
  pub master_order : (m : Master) (tick room : ℕ) → Lists of_order (order_of m tick room).answer
  pub master_response : (m : Master) (a : ℕ) (f : Meaning) (k : List ℕ) (tick : ℕ) → Lists of_response (response_of m a f k tick).answer
  pub master_silence : (m : Master) → Lists of_silence (silence_of m).answer
  pub master_restart : (m : Master) → Lists of_end (masters.restart_of m).answer
  pub master_clear : (m : Master) → Lists of_end (masters.clear_of m).answer

-- the public functions of the rooms that 01 has no call for, each with the numbers that it tests
pub record Parts : Type 0 where
  pub decode : (b : ℕ) → Lists (9 ∷ []) (decode_of b)
  pub encode : (m : Meaning) → Lists (9 ∷ []) (encode_of m)
  pub counts : (m : Meaning) → OneOf (9 ∷ []) (counts_refusal m)
  pub message : (m : List ℕ) → OneOf (10 ∷ 12 ∷ []) (message_refusal m)
  pub address : (a : ℕ) → OneOf (8 ∷ []) (address_refusal a)
  pub information : (m : Meaning) (info : List ℕ) → OneOf (10 ∷ 12 ∷ []) (information_refusal m info)
  pub frame : (m : Meaning) (info : List ℕ) → OneOf (9 ∷ 10 ∷ 12 ∷ []) (frame_refusal m info)
  pub side_wrong : (s : Side) → OneOf of_end (side_wrong s)
  pub address_wrong : (a : ℕ) → OneOf of_end (address_wrong a)
  pub side_put : (s : Side) (m : List ℕ) → Lists of_put (sides.put_of s m).answer
  pub side_take : (s : Side) (room : ℕ) → Lists of_take (sides.take_of s room).answer
  pub room : (n : ℕ) → OneOf (11 ∷ []) (sides.room_refusal n)
  pub slave_wrong : (s : Slave) → OneOf of_end (slaves.slave_wrong s)
  pub master_wrong : (m : Master) → OneOf of_end (masters.master_wrong m)
  pub bit_count : (size bits : ℕ) → OneOf (2 ∷ []) (bit_count_refusal size bits)
  pub slave_in_bytes : (b : List ℕ) → OneOf of_end (slave-layout.slave_wrong b)
  pub master_in_bytes : (b : List ℕ) → OneOf of_end (master-layout.master_wrong b)
  pub listing : (capture : List ℕ) (room : ℕ) → Lists (11 ∷ []) (list_of capture room)

-- with the calls from C on an end in bytes, whose numbers stand in specs/Promises of `bitbus`
pub record Numbers : Type 0 where
  pub calls : Calls
  pub ends : Ends
  pub parts : Parts
  pub c : CallNumbers
