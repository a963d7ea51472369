-- `listing::text::Text::number` meets its contract.
use Rattle.listing.proofs.Putting.{puts_digit, puts_last}
use Rattle.listing.proofs.text.Text.+number.Goals as goal
use Rattle.listing.proofs.text.Text.+number.Goals.{then-number-ge10, else-number-ge10}

pub returns : goal.returns
returns t c = elim c.if-number-ge10.branch [
  | then-number-ge10 w ↦ puts_last c.args.number w.if-number-ge10.true w.number.ensures (rw w.self-is at c.byte.ensures)
  | else-number-ge10 w ↦ puts_digit c.args.number w.if-number-ge10.false (rw w.self-is at c.byte.ensures)
]
