-- How a slave lies in bytes (the table of specs/Layout.antt).
use Rattle.std.specs.Prelude.{ℕ, List, ◌∷◌, eqb, get_or}
use Rattle.frame.specs.Pick.{pick, ◌then◌}
use Rattle.slave.specs.declared.Mode.{Mode}
use Rattle.slave.specs.declared.Mode.TheVariants.{Ndm, Nrm}
use Rattle.slave.specs.declared.Slave.{Slave}
use Rattle.layout.specs.Layout.{above, marks_wrong, side_at, side_bytes}

-- the slave's mode
abbrev pub slave_mode : ℕ → Mode
slave_mode n = pick (eqb n 1) Nrm Ndm

abbrev pub slave_mode_byte : Mode → ℕ
slave_mode_byte Ndm = 0
slave_mode_byte Nrm = 1

unfoldable pub slave_at : List ℕ → Slave
slave_at b = record { side = side_at b; mode = slave_mode (get_or b 0 0); address = get_or b 1 0 }

unfoldable pub slave_bytes : Slave → List ℕ
slave_bytes s = slave_mode_byte s.mode ∷ s.address ∷ side_bytes s.side

-- 30 of bytes that are no slave: a mode or a mark outside its values
unfoldable pub slave_wrong : List ℕ → ℕ
slave_wrong b = above 1 b 0 then marks_wrong b
