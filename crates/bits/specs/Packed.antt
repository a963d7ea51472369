-- Packed buffers (01, "Bits between flags"): bits laid over the first bits of a lent buffer.
use Rattle.std.specs.Prelude.{ℕ, ◌+◌, ◌*◌, ◌/◌, Bool, true, List, ◌++◌, length, take, drop, replicate}

-- the bytes that n bits need
abbrev pub bytes_for : ℕ → ℕ
bytes_for n = (n + 7) / 8

-- "Unused bits of the last byte are ones": the bits, and ones up to whole bytes
unfoldable pub padded : List Bool → List Bool
padded bs = take (8 * bytes_for (length bs)) (bs ++ replicate 7 true)

-- bits laid over the first bits of others, which stay behind them
unfoldable pub over : List Bool → List Bool → List Bool
over bs old = bs ++ drop (length bs) old
