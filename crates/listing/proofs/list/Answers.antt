-- `listing::list` meets its contract.
use Rattle.listing.proofs.Listings.{refused_answer, refused_bytes, taken_answer, taken_bytes}
use Rattle.listing.proofs.list.Goals as goal

pub returns-then-out-put_listing-clause-answer : goal.returns-then-out-put_listing-clause-answer
returns-then-out-put_listing-clause-answer c = refused_answer _ _ c.put_listing.ensures c.if-out-put_listing.true

pub returns-then-out-put_listing-clause-bytes : goal.returns-then-out-put_listing-clause-bytes
returns-then-out-put_listing-clause-bytes c = refused_bytes _ _ c.put_listing.ensures c.if-out-put_listing.true

pub returns-clause-answer : goal.returns-clause-answer
returns-clause-answer c = taken_answer _ _ c.put_listing.ensures c.if-out-put_listing.false c.put_listing-2.ensures

pub returns-clause-bytes : goal.returns-clause-bytes
returns-clause-bytes c = taken_bytes _ _ c.put_listing.ensures c.if-out-put_listing.false c.put_listing-2.ensures
