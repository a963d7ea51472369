-- The slave's end (01, "One end of a link"): number 30, and the calls of its owner.
use Rattle.std.specs.Prelude.{ℕ, List, length}
use Rattle.frame.specs.Pick.{◌then◌}
use Rattle.frame.specs.Refusal.{address_refusal}
use Rattle.side.specs.Given.{Given, giving, refusing, lifted, size_given}
use Rattle.side.specs.Side.{fresh, restarted, cleared}
use Rattle.side.specs.Right.{side_wrong, address_wrong}
use Rattle.side.specs.Slot.{laid, put_of as side_put, take_of as side_take}
use Rattle.side.specs.declared.Side.{Side}
use Rattle.slave.specs.declared.Mode.TheVariants.{Ndm}
use Rattle.slave.specs.declared.Slave.{Slave}

-- 30: the address, and what both ends hold
unfoldable pub slave_wrong : Slave → ℕ
slave_wrong s = address_wrong s.address then side_wrong s.side

-- "a fresh slave is in NDM"
abbrev pub begun : Side → ℕ → Slave
begun t a = record { side = t; mode = Ndm; address = a }

-- the end that stands in the definition of a refused making, which gives none: its address is against 8
abbrev pub blank : Slave
blank = begun fresh 0

-- the same slave over another side
abbrev pub on_side : Slave → Side → Slave
on_side s t = record { side = t; mode = s.mode; address = s.address }

-- "Making a link: 8 .. (the slave end has no limit and never gives 15)"
unfoldable pub make_of : ℕ → Given (Unit {0}) Slave
make_of a = refusing (address_refusal a) blank (giving tt (begun fresh a))

-- 30 of the address, then what put does to the side: 30, 10, 12, 13
unfoldable pub put_of : Slave → List ℕ → Given (Unit {0}) Slave
put_of s m = refusing (address_wrong s.address) s (lifted (on_side s) (side_put s.side m))

-- 30 of the address, then what take does to the side: 30, 14, 11
unfoldable pub take_of : Slave → ℕ → Given ℕ Slave
take_of s room = refusing (address_wrong s.address) s (lifted (on_side s) (side_take s.side room))

-- the lent buffer: as many bytes of the waiting message as take gives, and the rest as it was
abbrev pub take_bytes : Slave → List ℕ → List ℕ
take_bytes s out = laid (size_given (λ (n : ℕ). n) (take_of s (length out)).answer) s.side.incoming out

-- "Restart makes the end fresh but keeps both slots, whether the held message has been sent, the doubt mark, the address"
unfoldable pub restart_of : Slave → Given (Unit {0}) Slave
restart_of s = refusing (slave_wrong s) s (giving tt (begun (restarted s.side) s.address))

-- "The mark stays until its owner clears it."
unfoldable pub clear_of : Slave → Given (Unit {0}) Slave
clear_of s = refusing (slave_wrong s) s (giving tt (on_side s (cleared s.side)))
