-- What the library says of bytes, marks and modes, in the words of this room.
-- Assumes nothing.
use Prim.Native.Nat.{ℕ, ◌+◌, ◌*◌, ◌/◌, ◌<◌}
use mathlib.Core.Path.{◌≡◌, refl, ◌∙◌}
use mathlib.Core.Bool.{Bool, true, false}
use mathlib.Core.List.{List}
use native.Mathlib.Omega.{arith}
use lib.ListN.{get_or, take, drop}
use mir.Val.{bool_byte}
use Rattle.std.proofs.Common.{get_or-take, get_or-drop}
use Rattle.std.specs.Int.{w32, w64, to_le_bytes, from_le_bytes}
use denote.Enum.Declared.{tag_of}
use Rattle.slave.specs.contracts.Mode.{the_type}
use Rattle.slave.specs.declared.Mode.{Mode}
use Rattle.slave.specs.declared.Mode.TheVariants.{Ndm, Nrm}
use Rattle.master.specs.contracts.Mode.{the_type as the_master_type}
use Rattle.master.specs.declared.Mode.{Mode as MasterMode}
use Rattle.master.specs.declared.Mode.TheVariants.{Disconnecting, Connecting, Linked}
use Rattle.layout.specs.Layout.{number_at, bytes_of, mark_byte}
use Rattle.layout.specs.SlaveLayout.{slave_mode_byte}
use Rattle.layout.specs.MasterLayout.{master_mode_byte}

pub four_bytes : (n : ℕ) → to_le_bytes w32 n ≡ bytes_of 4 n
four_bytes n =
    let c : n / 65536 ≡ n / 256 / 256 = omega arith in
    let d : n / 16777216 ≡ n / 256 / 256 / 256 = omega arith in
    rw (c, d)

pub eight_bytes : (n : ℕ) → to_le_bytes w64 n ≡ bytes_of 8 n
eight_bytes n =
    let c : n / 65536 ≡ n / 256 / 256 = omega arith in
    let d : n / 16777216 ≡ n / 256 / 256 / 256 = omega arith in
    let e : n / 4294967296 ≡ n / 256 / 256 / 256 / 256 = omega arith in
    let f : n / 1099511627776 ≡ n / 256 / 256 / 256 / 256 / 256 = omega arith in
    let g : n / 281474976710656 ≡ n / 256 / 256 / 256 / 256 / 256 / 256 = omega arith in
    let h : n / 72057594037927936 ≡ n / 256 / 256 / 256 / 256 / 256 / 256 / 256 = omega arith in
    rw (c, d, e, f, g, h)

byte_of : (n : ℕ) (b : List ℕ) (at i : ℕ) → i < n → get_or (take n (drop at b)) i 0 ≡ get_or b (at + i) 0
byte_of n b at i h = get_or-take n (drop at b) i 0 h ∙ get_or-drop at b i 0

pub four_at : (b : List ℕ) (at : ℕ) → from_le_bytes w32 (take 4 (drop at b)) ≡ number_at 4 b at
four_at b at =
    let l = take 4 (drop at b) in
    let z : at + 0 ≡ at = omega arith in
    let two : at + 1 + 1 ≡ at + 2 = omega arith in
    let three : at + 2 + 1 ≡ at + 3 = omega arith in
    let x : get_or l 0 0 ≡ get_or b at 0 = byte_of 4 b at 0 (omega arith) ∙ rw z in
    let same : get_or l 0 0 + get_or l 1 0 * 256 + get_or l 2 0 * 65536 + get_or l 3 0 * 16777216 ≡ number_at 4 b at =
    rw (two, three) (omega (arith, x, byte_of 4 b at 1 (omega arith), byte_of 4 b at 2 (omega arith), byte_of 4 b at 3 (omega arith))) in
    same

pub eight_at : (b : List ℕ) (at : ℕ) → from_le_bytes w64 (take 8 (drop at b)) ≡ number_at 8 b at
eight_at b at =
    let l = take 8 (drop at b) in
    let z : at + 0 ≡ at = omega arith in
    let two : at + 1 + 1 ≡ at + 2 = omega arith in
    let three : at + 2 + 1 ≡ at + 3 = omega arith in
    let four : at + 3 + 1 ≡ at + 4 = omega arith in
    let five : at + 4 + 1 ≡ at + 5 = omega arith in
    let six : at + 5 + 1 ≡ at + 6 = omega arith in
    let seven : at + 6 + 1 ≡ at + 7 = omega arith in
    let x : get_or l 0 0 ≡ get_or b at 0 = byte_of 8 b at 0 (omega arith) ∙ rw z in
    let same : get_or l 0 0 + get_or l 1 0 * 256 + get_or l 2 0 * 65536 + get_or l 3 0 * 16777216 + get_or l 4 0 * 4294967296
    + get_or l 5 0 * 1099511627776 + get_or l 6 0 * 281474976710656 + get_or l 7 0 * 72057594037927936 ≡ number_at 8 b at =
    rw (two, three, four, five, six, seven)
    (omega (
      arith,
      x,
      byte_of 8 b at 1 (omega arith),
      byte_of 8 b at 2 (omega arith),
      byte_of 8 b at 3 (omega arith),
      byte_of 8 b at 4 (omega arith),
      byte_of 8 b at 5 (omega arith),
      byte_of 8 b at 6 (omega arith),
      byte_of 8 b at 7 (omega arith),
    )) in
    same

pub mark_of : (b : Bool) → bool_byte b ≡ mark_byte b
mark_of true = refl
mark_of false = refl

pub slave_mode_of : (m : Mode) → tag_of the_type m ≡ slave_mode_byte m
slave_mode_of Ndm = refl
slave_mode_of Nrm = refl

pub master_mode_of : (m : MasterMode) → tag_of the_master_type m ≡ master_mode_byte m
master_mode_of Disconnecting = refl
master_mode_of Connecting = refl
master_mode_of Linked = refl
