-- The measure of `listing::text::Text::number` is the number.
use Rattle.listing.proofs.text.Text.+number.Given as goal

abbrev pub decreases-number : goal.decreases-number
decreases-number l = l.number
