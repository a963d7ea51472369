-- What was read lists as the whole input does.
-- Assumes nothing.
use Rattle.std.proofs.Common.{◌≡◌, ℕ, ◌<◌, ◌≤◌, Bool, true, false, nat_lt, List, length, take, sym, ◌∙◌, ap, inl, inr, refl, Option, Result, Ok, Err, None, Some, Bor, IfSome, arith}
use Rattle.std.proofs.lemmas.Grind.{common_steps}
use borrow.Author.Tests.{ltb-true, ltb-false}
use Rattle.listing.specs.Listing.{listing}
use Rattle.listing.proofs.Listings.{listing_long}
use Rattle.list.specs.Streams.{Reads, Answers, Runs}

-- one byte past the longest capture decides
pub same_listing : (xs : List ℕ) (n : ℕ) → 65536 < n → listing (take n xs) ≡ listing xs
same_listing xs n h = go (nat_lt n (length xs)) refl
  where
    longer : n < length xs → 65536 < length (take n xs)
    longer l = grind (arith, common_steps)

    shorter : length xs ≤ n → take n xs ≡ xs
    shorter l = grind (arith, common_steps)

    go : (t : Bool) → nat_lt n (length xs) ≡ t → listing (take n xs) ≡ listing xs
    go true e = let l = ltb-true n (length xs) e in listing_long (take n xs) (longer l) ∙ sym (listing_long xs (omega arith))
    go false e = ap listing (shorter (ltb-false n (length xs) e))

pub runs : {T E E' : Type 0} (told : Result T E) (known : Option (List ℕ)) (capture : Result (Bor (List ℕ)) E') (room : ℕ) (to to' errors errors' : Option (List ℕ))
    → IfSome known (Reads room capture) → Answers told capture to to' errors errors' → 65536 < room → IfSome known (Runs told to to' errors errors')
runs told None capture room to to' errors errors' r a h = tt
runs told (Some xs) (Ok capture) room to to' errors errors' r a h =
    let same : listing capture.now ≡ listing xs = ap listing r ∙ same_listing xs room h in
    inl (rw same at a)
runs told (Some xs) (Err e) room to to' errors errors' r a h = inr a
