-- How an end lies in bytes: the same for both ends where they hold the same. All numbers are little-endian.
--
--   offset  bytes  slave and master
--        0      1  mode (slave: 0 NDM, 1 NRM; master: 0 disconnecting, 1 connecting, 2 linked)
--        1      1  address
--        2      1  Ns
--        3      1  Nr
--        4      1  sent mark (0, 1)
--        5      1  doubt mark (0, 1)
--        6      8  size of the held message (0: none)
--       14      8  size of the waiting message (0: none)
--       22    253  held message, and what stands behind it
--      275    253  incoming slot: the waiting message, and what stands behind it
--                  a slave ends here, with 528 bytes
--      528      1  peer-busy mark (0, 1)
--      529      1  whether an order waits (0, 1)
--      530      4  tick of the order
--      534      4  answer limit
--                  a master ends here, with 538 bytes
use Rattle.std.specs.Prelude.{ℕ, zero, suc, ◌+◌, ◌*◌, ◌/◌, ◌%◌, Bool, true, false, List, [], ◌∷◌, ◌++◌, eqb, ltb, get_or, take, drop}
use Rattle.frame.specs.Pick.{pick, ◌then◌}
use Rattle.side.specs.declared.Side.{Side}

-- the number in k bytes from a place on, least significant byte first
abbrev pub number_at : ℕ → List ℕ → ℕ → ℕ
number_at zero b at = 0
number_at (suc k) b at = get_or b at 0 + 256 * number_at k b (at + 1)

-- a number as k bytes
abbrev pub bytes_of : ℕ → ℕ → List ℕ
bytes_of zero n = []
bytes_of (suc k) n = n % 256 ∷ bytes_of k (n / 256)

-- a mark as a byte, and back
abbrev pub mark_byte : Bool → ℕ
mark_byte false = 0
mark_byte true = 1

abbrev pub mark_at : List ℕ → ℕ → Bool
mark_at b at = eqb (get_or b at 0) 1

-- what both ends hold
unfoldable pub side_at : List ℕ → Side
side_at b =
    record {
      ns = record { 0 = get_or b 2 0 };
      nr = record { 0 = get_or b 3 0 };
      held = take 253 (drop 22 b);
      holds = number_at 8 b 6;
      sent = mark_at b 4;
      incoming = take 253 (drop 275 b);
      waits = number_at 8 b 14;
      doubt = mark_at b 5;
    }

-- counts, marks and sizes: the 20 bytes from offset 2 on
unfoldable pub side_head : Side → List ℕ
side_head s = s.ns.0 ∷ s.nr.0 ∷ mark_byte s.sent ∷ mark_byte s.doubt ∷ (bytes_of 8 s.holds ++ bytes_of 8 s.waits)

-- the 526 bytes from offset 2 on
unfoldable pub side_bytes : Side → List ℕ
side_bytes s = side_head s ++ (s.held ++ s.incoming)

-- 30 where the byte at a place is above the greatest value that stands there, else 0
abbrev pub above : ℕ → List ℕ → ℕ → ℕ
above most b at = pick (ltb most (get_or b at 0)) 30 0

-- 30 of the marks that both ends have
unfoldable pub marks_wrong : List ℕ → ℕ
marks_wrong b = above 1 b 4 then above 1 b 5
