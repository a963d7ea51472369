-- `writer::content::Content::room_refusal` meets its contract.
use mathlib.Core.Path.{sym}
use native.Mathlib.Omega.{arith}
use Rattle.writer.specs.Content.{whole}
use Rattle.writer.proofs.Lining.{line_few, has_room}
use Rattle.writer.proofs.content.Content.room_refusal.Goals.{else-room-lt-MOST_BYTES-via-then-room-lt-MOST_BYTES+else-room-div_ceil, else-room-lt-MOST_BYTES-via-else-room-lt-MOST_BYTES}
use Rattle.writer.proofs.content.Content.room_refusal.Goals as goal

pub returns : goal.returns
returns c =
    let a = c.args in
    elim c.else-room-lt-MOST_BYTES.branch [
      | else-room-lt-MOST_BYTES-via-then-room-lt-MOST_BYTES+else-room-div_ceil w ↦
          sym (has_room (whole a.self.now) a.room (omega (arith, w.line_bits.ensures, w.div_ceil.ensures, w.if-room-div_ceil.false)))
      | else-room-lt-MOST_BYTES-via-else-room-lt-MOST_BYTES w ↦
          sym (has_room (whole a.self.now) a.room (omega (arith, w.if-room-lt-MOST_BYTES.false, line_few (whole a.self.now) a.self.now.few)))
    ]
