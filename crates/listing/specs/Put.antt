-- What the private functions that write text promise.
use Rattle.std.specs.Prelude.{ℕ, ◌+◌, ◌≡◌, List, ◌++◌, length}
use Rattle.std.proofs.lemmas.List.Edits.{sets}
use Rattle.frame.specs.Answer.{Answer, gives, refuses}
use Rattle.frame.specs.declared.Meaning.{Meaning}
use Rattle.capture.specs.Record.{Step, entry, end}
use Rattle.listing.specs.declared.text.Text.{Text}
use Rattle.listing.specs.Text.{ascii}
use Rattle.listing.specs.Listing.{name, ns_field, nr_field}

-- text was put into bytes from a place on, as far as they reach, and the place after it was given
pub record Put (text : List ℕ) (at : ℕ) (old new : List ℕ) (after : ℕ) : Type 0 where
  pub bytes : new ≡ sets old at text
  pub place : after ≡ at + length text

-- a text's struct holds the same bytes as before, into which that was put
pub record Puts (text : List ℕ) (old new : Text) : Type 0 where
  pub same_bytes : new.out.ghost_name ≡ old.out.ghost_name
  pub put : Put text old.at old.out.now new.out.now new.at

-- the three fields that a frame's meaning has in a line, with the spaces around them
abbrev pub middle : Meaning → List ℕ
middle m = ascii " " ++ (name m ++ (ascii " " ++ (ns_field m ++ (ascii " " ++ (nr_field m ++ ascii " ")))))

-- where the listing goes on after what was found: at its end after a refused record
abbrev pub place_after : Answer Step → ℕ → ℕ
place_after (gives (entry e next)) last = next
place_after (gives end) last = last
place_after (refuses n) last = last
