-- `listing::put_listing` meets its contract.
use mathlib.Core.Path.{sym}
use Rattle.std.proofs.Common.{rules}
use Rattle.listing.proofs.Listings.{listing_lines}
use Rattle.listing.proofs.Putting.{puts_on, puts_as}
use Rattle.listing.proofs.put_listing.Goals as goal

pub returns : goal.returns
returns c =
    let t = c.new-text.ensures.empty in
    let all = puts_as (sym (listing_lines _ c.if-capture-gt-MOST_CAPTURE.false)) (puts_on c.word-2.ensures c.put_lines.ensures) in
    let h = rw (t.0, t.1) at all.put in
    search (rules, h)
