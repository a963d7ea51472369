-- Zero insertion byte by byte: what the private functions of the content promise each other.
use Rattle.std.specs.Prelude.{ℕ, ◌+◌, ◌*◌, ◌^◌, ◌≡◌, Bool, List, length}
use Rattle.bits.specs.Bits.{val}
use Rattle.bits.specs.Insert.{sent, after, insert, trail}
use Rattle.writer.specs.Sink.{Room, Added}
use Rattle.writer.specs.declared.stuff.Stuffed.{Stuffed}
use Rattle.writer.specs.declared.pieces.Laid.{Laid}
use Rattle.writer.specs.declared.pieces.Counted.{Counted}

-- one bit more went out, with its inserted zero if there is one
pub record Stepped (s : Stuffed) (b : Bool) (r : Stuffed) : Type 0 where
  pub bits : r.bits ≡ s.bits + 2 ^ s.count * val (sent s.run.ones b)
  pub count : r.count ≡ s.count + length (sent s.run.ones b)
  pub run : r.run.ones ≡ after s.run.ones b

-- what goes out for bits after a run of ones: the number of those bits, how many they are, and the run after them
pub record Inserted (ones : ℕ) (x : List Bool) (r : Stuffed) : Type 0 where
  pub bits : r.bits ≡ val (insert ones x)
  pub count : r.count ≡ length (insert ones x)
  pub run : r.run.ones ≡ trail ones x

-- as many bits more as go out for x
pub record Tallied (t : Counted) (x : List Bool) (r : Counted) : Type 0 where
  pub bits : r.bits ≡ t.bits + length (insert t.run.ones x)
  pub run : r.run.ones ≡ trail t.run.ones x

-- what goes out for x has room
pub record Ready (out : List ℕ) (l : Laid) (x : List Bool) : Type 0 where
  pub room : Room out l.sink (length (insert l.run.ones x))

-- what goes out for x was added
pub record Laying (out : List ℕ) (l : Laid) (x : List Bool) (out' : List ℕ) (r : Laid) : Type 0 where
  pub added : Added out l.sink (insert l.run.ones x) out' r.sink
  pub run : r.run.ones ≡ trail l.run.ones x
