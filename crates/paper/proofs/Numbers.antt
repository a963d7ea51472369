-- The numbers of each call, from the theorems of the rooms.
-- Assumes nothing.
use Prim.Native.Nat.{ℕ}
use mathlib.Core.Path.{◌≡◌}
use mathlib.Core.Logic.{◌⊎◌, inl, inr}
use mathlib.Core.List.Memᴰ.{head as here}
use mathlib.Core.List.Memᴰ.{tail as there}
use mathlib.Core.List.{List, [], ◌∷◌}
use Rattle.frame.specs.Message.{message_refusal, information_in}
use Rattle.frame.specs.Refusal.{information_refusal}
use Rattle.frame.specs.declared.Meaning.TheVariants.{I}
use Rattle.frame.proofs.Numbers.{numbers as frame}
use Rattle.bits.proofs.Counting.{count_numbers}
use Rattle.writer.proofs.Writing.{write_numbers}
use Rattle.reader.proofs.Answers.{read_numbers}
use Rattle.nrzi.proofs.Kept.{numbers as nrzi-numbers}
use Rattle.side.proofs.Numbers.{numbers as side, address_wrong_numbers, room_numbers}
use Rattle.slave.proofs.Numbers.{numbers as slave}
use Rattle.master.proofs.Numbers.{numbers as master}
use Rattle.capture.proofs.Numbers.{numbers as record-numbers}
use Rattle.listing.proofs.Numbers.{numbers as listing-numbers}
use Rattle.layout.proofs.Every.{slave_two, master_two}
use Rattle.bitbus.proofs.Numbers.{numbers as bitbus}
use Rattle.paper.specs.Points.{ns, nr}
use Rattle.paper.specs.Numbers.{OneOf, Calls, Ends, Parts, Numbers}

calls : Calls
calls =
    record {
      reading = read_numbers;
      writing = write_numbers;
      nrzi = nrzi-numbers;
      message_check = frame.check;
      check_in = λ f. frame.check (information_in f);
      captures = record-numbers;
    }

ends : Ends
ends =
    record {
      slave_make = slave.make;
      slave_put = slave.put;
      slave_take = slave.take;
      slave_step = slave.step;
      slave_restart = slave.restart;
      slave_clear = slave.clear;
      master_make = master.make;
      master_put = master.put;
      master_take = master.take;
      master_order = master.order;
      master_response = master.response;
      master_silence = master.silence;
      master_restart = master.restart;
      master_clear = master.clear;
    }

message : (m : List ℕ) → OneOf (10 ∷ 12 ∷ []) (message_refusal m)
unfolding information_refusal
message m = frame.information (I (ns 0) (nr 0)) m

two : {n : ℕ} → (n ≡ 0) ⊎ (n ≡ 30) → OneOf (30 ∷ []) n
two (inl e) = here e
two (inr e) = there (here e)

parts : Parts
parts =
    record {
      decode = frame.decode;
      encode = frame.encode;
      counts = frame.counts;
      message = message;
      address = frame.address;
      information = frame.information;
      frame = frame.frame;
      side_wrong = side.wrong;
      address_wrong = address_wrong_numbers [];
      side_put = side.put;
      side_take = side.take;
      room = room_numbers;
      slave_wrong = slave.wrong;
      master_wrong = master.wrong;
      bit_count = count_numbers [];
      slave_in_bytes = λ b. two (slave_two b);
      master_in_bytes = λ b. two (master_two b);
      listing = listing-numbers;
    }

pub numbers : Numbers
numbers = record { calls = calls; ends = ends; parts = parts; c = bitbus }
