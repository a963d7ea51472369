-- `listing::text::Text::line` meets its contract.
use Rattle.std.proofs.Common.{rules}
use Rattle.listing.proofs.Putting.{puts_on}
use Rattle.listing.proofs.text.Text.line.Goals as goal

pub returns-in-Silence : goal.returns-in-Silence
returns-in-Silence c = let h = puts_on c.number.ensures c.word.ensures in search (rules, h)

pub returns-in-Err : goal.returns-in-Err
returns-in-Err c =
    let refusal = rw (c.from.ensures, c.number-in-Err-2.ensures) at c.number-in-Err-3.ensures in
    rw c.in-Err.is (puts_on c.number-in-Err.ensures (puts_on c.word-in-Err.ensures (puts_on refusal c.word-in-Err-2.ensures)))
