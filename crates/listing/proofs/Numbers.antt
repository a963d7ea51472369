-- A listing is refused by 11 or not at all.
-- Assumes nothing.
use Prim.Native.Nat.{ℕ}
use mathlib.Core.Path.{refl}
use mathlib.Core.List.Memᴰ.{head as here}
use mathlib.Core.List.Memᴰ.{tail as there}
use mathlib.Core.List.{List, [], ◌∷◌}
use lib.Dec.{ltb}
use lib.ListN.{length}
use Rattle.frame.specs.Answer.{Among}
use Rattle.frame.proofs.Laws.{pick_among, unless_lists}
use Rattle.listing.specs.Listing.{listing, output_refusal, list_of}
use Rattle.listing.specs.Promises.{Numbers}

output_numbers : (text : List ℕ) (room : ℕ) → Among (output_refusal text room) (0 ∷ 11 ∷ [])
unfolding output_refusal
output_numbers text room = pick_among (ltb room (length text)) (there (here refl)) (here refl)

pub numbers : Numbers
unfolding list_of
numbers capture room = unless_lists (length (listing capture)) (output_numbers (listing capture) room)
