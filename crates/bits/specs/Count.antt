-- Number 2 (01, "Numbers given back"): the stated bit count of a packed buffer, for reading and for NRZI.
use Rattle.std.specs.Prelude.{ℕ, ◌*◌, ltb}
use Rattle.frame.specs.Pick.{pick}

-- 2: "the stated bit count exceeds 8,192 or 8 times the buffer's length"
unfoldable pub bit_count_refusal : ℕ → ℕ → ℕ
bit_count_refusal size bits = pick (ltb 8192 bits) 2 (pick (ltb (8 * size) bits) 2 0)
