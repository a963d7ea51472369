-- What a making and a response give by a `Result`, in the words of their definitions.
-- Assumes nothing.
use Prim.Native.Nat.{ℕ}
use mathlib.Core.Path.{◌≡◌, refl, ap, ◌∙◌}
use mathlib.Core.Bool.{Bool, true, false}
use mathlib.Core.List.{List}
use lib.Dec.{eqb}
use Rattle.std.specs.Prelude.{Result, Ok, Err, Option, None, Some}
use Rattle.frame.specs.Answer.{Answer, gives, refuses, answer}
use Rattle.frame.specs.Pick.{pick}
use Rattle.frame.specs.declared.number.Refusal.{Refusal}
use Rattle.side.specs.Given.{Given, given, making, refused, refusing}
use Rattle.side.specs.declared.answer.News.{News}
use Rattle.master.specs.Response.{Report, brings, silent, reported, response_given}
use Rattle.master.specs.declared.Master.{Master}
use Rattle.bitbus.specs.Call.{number, after, written}
use Rattle.bitbus.specs.MasterCalls.{heard_values, response_values}

-- a making refuses by the number, and gives the end that is written
pub makes : {E : Type 0} (blank : E) (to_bytes : E → List ℕ) (b : List ℕ) (r : Result E Refusal)
    → (number (answer r) ≡ number (making blank r).answer) × (after to_bytes (answer r) b ≡ (written to_bytes b (making blank r)).end)
makes blank to_bytes b (Ok e) = (refl, refl)
makes blank to_bytes b (Err r) = (refl, refl)

-- what a response brings, as the code gives it
abbrev pub heard : Answer Report → Answer (Option News)
heard (gives (brings n)) = gives (Some n)
heard (gives silent) = gives None
heard (refuses n) = refuses n

abbrev pub heard_by : {E : Type 0} → Given Report E → Given (Option News) E
heard_by g = record { answer = heard g.answer; end = g.end }

heard_back : (r : Result (Option News) Refusal) → answer r ≡ heard (reported r)
heard_back (Ok (Some n)) = refl
heard_back (Ok None) = refl
heard_back (Err r) = refl

pub hears : (r : Result (Option News) Refusal) (m : Master) (g : Given Report Master) → response_given r m ≡ g → given r m ≡ heard_by g
hears r m g e = (λ i. record { answer = heard_back r i; end = m }) ∙ ap heard_by e

heard_number : (a : Answer Report) → number (heard a) ≡ number a
heard_number (gives (brings n)) = refl
heard_number (gives silent) = refl
heard_number (refuses n) = refl

heard_after : (a : Answer Report) (old : List ℕ) → after heard_values (heard a) old ≡ after response_values a old
heard_after (gives (brings n)) old = refl
heard_after (gives silent) old = refl
heard_after (refuses n) old = refl

heard_written : (to_bytes : Master → List ℕ) (b : List ℕ) (m : Master) (a : Answer Report)
    → (written to_bytes b (record { answer = heard a; end = m })).end ≡ (written to_bytes b (record { answer = a; end = m })).end
heard_written to_bytes b m (gives (brings n)) = refl
heard_written to_bytes b m (gives silent) = refl
heard_written to_bytes b m (refuses n) = refl

heard_refusing : (t : Bool) (n : ℕ) (b : List ℕ) (to_bytes : Master → List ℕ) (g : Given Report Master)
    → pick t (written to_bytes b (heard_by g)) (refused n b) ≡ heard_by (pick t (written to_bytes b g) (refused n b))
heard_refusing true n b to_bytes g = λ i. record { answer = heard g.answer; end = heard_written to_bytes b g.end g.answer i }
heard_refusing false n b to_bytes g = refl

-- so the number, the end and the values of the call are those of its definition
pub record SameCall (r : Answer (Option News)) (bytes : List ℕ) (g : Given Report (List ℕ)) (old : List ℕ) : Type 0 where
  pub numbers : number r ≡ number g.answer
  pub end : bytes ≡ g.end
  pub values : after heard_values r old ≡ after response_values g.answer old

pub same_call : (n : ℕ) (b : List ℕ) (to_bytes : Master → List ℕ) (g : Given Report Master) (r : Result (Option News) Refusal) (end old : List ℕ)
    → given r end ≡ refusing n b (written to_bytes b (heard_by g)) → SameCall (answer r) end (refusing n b (written to_bytes b g)) old
same_call n b to_bytes g r end old e =
    let f : given r end ≡ heard_by (refusing n b (written to_bytes b g)) = e ∙ heard_refusing (eqb n 0) n b to_bytes g in
    let a = (refusing n b (written to_bytes b g)).answer in
    record {
      numbers = ap (λ (x : Given (Option News) (List ℕ)). number x.answer) f ∙ heard_number a;
      end = ap (λ (x : Given (Option News) (List ℕ)). x.end) f;
      values = ap (λ (x : Given (Option News) (List ℕ)). after heard_values x.answer old) f ∙ heard_after a old;
    }
