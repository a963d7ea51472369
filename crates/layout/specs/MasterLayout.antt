-- How a master lies in bytes (the table of specs/Layout.antt).
use Rattle.std.specs.Prelude.{ℕ, List, ◌∷◌, ◌++◌, eqb, get_or}
use Rattle.frame.specs.Pick.{pick, ◌then◌}
use Rattle.master.specs.declared.Mode.{Mode}
use Rattle.master.specs.declared.Mode.TheVariants.{Disconnecting, Connecting, Linked}
use Rattle.master.specs.declared.Master.{Master}
use Rattle.layout.specs.Layout.{above, bytes_of, mark_at, mark_byte, marks_wrong, number_at, side_at, side_bytes}

-- the master's mode
abbrev pub master_mode : ℕ → Mode
master_mode n = pick (eqb n 1) Connecting (pick (eqb n 2) Linked Disconnecting)

abbrev pub master_mode_byte : Mode → ℕ
master_mode_byte Disconnecting = 0
master_mode_byte Connecting = 1
master_mode_byte Linked = 2

unfoldable pub master_at : List ℕ → Master
master_at b =
    record {
      side = side_at b;
      mode = master_mode (get_or b 0 0);
      busy = mark_at b 528;
      waiting = mark_at b 529;
      tick = number_at 4 b 530;
      limit = number_at 4 b 534;
      address = get_or b 1 0;
    }

-- busy mark, wait, tick and limit: the 10 bytes from offset 528 on
unfoldable pub master_tail : Master → List ℕ
master_tail m = mark_byte m.busy ∷ mark_byte m.waiting ∷ (bytes_of 4 m.tick ++ bytes_of 4 m.limit)

unfoldable pub master_bytes : Master → List ℕ
master_bytes m = master_mode_byte m.mode ∷ m.address ∷ (side_bytes m.side ++ master_tail m)

-- 30 of bytes that are no master: a mode or a mark outside its values
unfoldable pub master_wrong : List ℕ → ℕ
master_wrong b = above 2 b 0 then above 1 b 528 then above 1 b 529 then marks_wrong b
