-- `listing::text::Text::meaning` meets its contract.
use Rattle.listing.proofs.Putting.{puts_on, puts_as}
use Rattle.listing.proofs.text.Text.meaning.Goals as goal

pub returns-in-I-clause-puts : goal.returns-in-I-clause-puts
returns-in-I-clause-puts c = puts_as (simp (c.in-I.is, c.from.ensures, c.from-in-I.ensures)) (puts_on c.word.ensures (puts_on c.number.ensures (puts_on c.word-in-I.ensures (puts_on c.number-in-I.ensures c.word-in-I-2.ensures))))

pub returns-in-Rr-clause-puts : goal.returns-in-Rr-clause-puts
returns-in-Rr-clause-puts c = puts_as (simp (c.in-Rr.is, c.from-in-Rr.ensures)) (puts_on c.word-in-Rr.ensures (puts_on c.number-in-Rr.ensures c.word-in-Rr-2.ensures))

pub returns-in-Rnr-clause-puts : goal.returns-in-Rnr-clause-puts
returns-in-Rnr-clause-puts c = puts_as (simp (c.in-Rnr.is, c.from-in-Rnr.ensures)) (puts_on c.word-in-Rnr.ensures (puts_on c.number-in-Rnr.ensures c.word-in-Rnr-2.ensures))
