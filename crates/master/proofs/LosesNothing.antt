-- The definitions that say what a making and a response give lose nothing.
-- Assumes nothing.
use Rattle.std.specs.Prelude.{Result, Ok, Err, Option, None, Some}
use Rattle.std.proofs.Common.{◌≡◌, refl, ap}
use mathlib.Core.Path.{sym}
use Rattle.frame.specs.Answer.{Answer, gives, refuses, number_of}
use Rattle.frame.specs.declared.number.Refusal.{Refusal}
use Rattle.frame.proofs.LosesNothing.{number_one}
use Rattle.frame.proofs.Laws.{gives_not, refuses_one}
use Rattle.side.proofs.LosesNothing.{loses_nothing as sides, same_answer, same_end}
use Rattle.side.specs.declared.answer.News.{News}
use Rattle.master.specs.Master.{blank}
use Rattle.master.specs.Response.{Report, brings, reported}
use Rattle.master.specs.Promises.{LosesNothing}
use Rattle.master.specs.declared.Master.{Master}

brings_one : (n k : News) → ◌≡◌ {A = Answer Report} (gives (brings n)) (gives (brings k)) → n ≡ k
brings_one n k e = cc

reported_one : (a b : Result (Option News) Refusal) → reported a ≡ reported b → a ≡ b
reported_one (Ok (Some n)) (Ok (Some k)) e = ap (λ (x : News). Ok (Some x)) (brings_one n k e)
reported_one (Ok (Some n)) (Ok None) e = cc
reported_one (Ok None) (Ok (Some k)) e = cc
reported_one (Ok None) (Ok None) e = refl
reported_one (Ok v) (Err q) e = absurd (reported_not v q e)
  where
    reported_not : (v : Option News) (q : Refusal) → reported (Ok v) ≡ refuses (number_of q) → ⊥
    reported_not None q e = gives_not e
    reported_not (Some n) q e = gives_not e
reported_one (Err r) (Ok None) e = absurd (gives_not (sym e))
reported_one (Err r) (Ok (Some n)) e = absurd (gives_not (sym e))
reported_one (Err r) (Err q) e = ap Err (number_one r q (refuses_one e))

pub loses_nothing : LosesNothing
loses_nothing = record { made = sides.making _ blank; response = λ a b m k e. (reported_one a b (same_answer e), same_end e) }
