-- `listing::text::Text::frame` meets its contract.
use mathlib.Core.List.{append_assoc}
use Rattle.listing.proofs.Putting.{puts_on, puts_as}
use Rattle.listing.proofs.text.Text.frame.Goals as goal

pub returns : goal.returns
returns c =
    let address = rw c.from.ensures at c.number-2.ensures in
    let size = rw c.from-2.ensures at c.number-3.ensures in
    puts_as (simp append_assoc) (puts_on c.number.ensures (puts_on c.word.ensures (puts_on address (puts_on c.meaning.ensures.puts (puts_on size c.word-2.ensures)))))
