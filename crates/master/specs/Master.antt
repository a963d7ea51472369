-- The master's end (01, "One end of a link"): number 30, and the calls of its owner.
use Rattle.std.specs.Prelude.{ℕ, false, List, length, ◌==◌, nat_lt}
use Rattle.frame.specs.Pick.{pick, ◌then◌}
use Rattle.frame.specs.Refusal.{address_refusal}
use Rattle.side.specs.Given.{Given, giving, refusing, lifted, size_given}
use Rattle.side.specs.Side.{fresh, restarted, cleared}
use Rattle.side.specs.Right.{side_wrong, address_wrong}
use Rattle.side.specs.Slot.{laid, put_of as side_put, take_of as side_take}
use Rattle.side.specs.declared.Side.{Side}
use Rattle.master.specs.declared.Mode.TheVariants.{Disconnecting}
use Rattle.master.specs.declared.Master.{Master}

-- 15: "answer limit outside 1 to 65,535 ticks"
unfoldable pub limit_refusal : ℕ → ℕ
limit_refusal l = pick (nat_lt l 1) 15 (pick (nat_lt 65535 l) 15 0)

-- 30: "an address or limit against 8 or 15"
unfoldable pub limit_wrong : ℕ → ℕ
limit_wrong l = pick (limit_refusal l == 0) 0 30

-- 30 of what a master has beside its side
unfoldable pub outer_wrong : ℕ → ℕ → ℕ
outer_wrong a l = address_wrong a then limit_wrong l

-- 30: address and limit, and what both ends hold
unfoldable pub master_wrong : Master → ℕ
master_wrong m = outer_wrong m.address m.limit then side_wrong m.side

-- "the master also has no peer-busy mark and no order waiting. A fresh master is disconnecting"; the tick of no order is 0
abbrev pub begun : Side → ℕ → ℕ → Master
begun t l a = record { side = t; mode = Disconnecting; busy = false; waiting = false; tick = 0; limit = l; address = a }

-- the end that stands in the definition of a refused making, which gives none: its address and its limit are against 8 and 15
abbrev pub blank : Master
blank = begun fresh 0 0

-- the same master over another side
abbrev pub on_side : Master → Side → Master
on_side m t =
    record {
      side = t;
      mode = m.mode;
      busy = m.busy;
      waiting = m.waiting;
      tick = m.tick;
      limit = m.limit;
      address = m.address;
    }

-- "Making a link: 8, 15"
unfoldable pub make_refusal : ℕ → ℕ → ℕ
make_refusal a l = address_refusal a then limit_refusal l

-- a fresh master, or the blank one
unfoldable pub make_of : ℕ → ℕ → Given (Unit {0}) Master
make_of a l = refusing (make_refusal a l) blank (giving tt (begun fresh l a))

-- 30 of address and limit, then what put does to the side: 30, 10, 12, 13
unfoldable pub put_of : Master → List ℕ → Given (Unit {0}) Master
put_of m k = refusing (outer_wrong m.address m.limit) m (lifted (on_side m) (side_put m.side k))

-- 30 of address and limit, then what take does to the side: 30, 14, 11
unfoldable pub take_of : Master → ℕ → Given ℕ Master
take_of m room = refusing (outer_wrong m.address m.limit) m (lifted (on_side m) (side_take m.side room))

-- the lent buffer: as many bytes of the waiting message as take gives, and the rest as it was
abbrev pub take_bytes : Master → List ℕ → List ℕ
take_bytes m out = laid (size_given (λ (n : ℕ). n) (take_of m (length out)).answer) m.side.incoming out

-- "Restart makes the end fresh but keeps both slots, whether the held message has been sent, the doubt mark, the address and the limit."
unfoldable pub restart_of : Master → Given (Unit {0}) Master
restart_of m = refusing (master_wrong m) m (giving tt (begun (restarted m.side) m.limit m.address))

-- "The mark stays until its owner clears it."
unfoldable pub clear_of : Master → Given (Unit {0}) Master
clear_of m = refusing (master_wrong m) m (giving tt (on_side m (cleared m.side)))
