-- `listing::text::Text::word` meets its contract.
use mathlib.Core.Path.{refl}
use Rattle.listing.proofs.Putting.{puts_word, puts_past}
use Rattle.listing.proofs.text.Text.word.Goals as goal
use Rattle.listing.proofs.text.Text.word.Goals.{then-self, else-self}

pub returns : goal.returns
returns c = elim c.if-self.branch [
  | then-self w ↦ rw (w.self-is, w.copy_from_slice.ensures.after) (puts_word c.args.word.now c.args.self.now _ w.min-room.result w.if-self.true w.min-room.ensures refl refl refl)
  | else-self w ↦ rw w.self-is (puts_past c.args.word.now c.args.self.now w.if-self.false)
]
