-- The definition that lists an answer's number and values loses nothing.
-- Assumes nothing.
use Rattle.std.proofs.Common.{Some, None, Ok, Err}
use mathlib.Core.Path.{◌≡◌, refl, ap}
use Rattle.frame.specs.Answer.{number_of}
use Rattle.frame.proofs.LosesNothing.{number_one}
use Rattle.capture.specs.Record.{told}
use Rattle.capture.specs.declared.records.Entry.{Entry}
use Rattle.capture.specs.declared.records.Entry.TheVariants.{Order, Response, Silence}
use Rattle.capture.specs.declared.records.Record.{Record}
use Rattle.capture.specs.Promises.{LosesNothing}

told_one : (a b : Entry) → told a ≡ told b → a ≡ b
told_one (Order f) (Order g) e = let same : f ≡ g = cc in ap Order same
told_one (Order f) (Response g) e = cc
told_one (Order f) Silence e = cc
told_one (Response f) (Order g) e = cc
told_one (Response f) (Response g) e = let same : f ≡ g = cc in ap Response same
told_one (Response f) Silence e = cc
told_one Silence (Order g) e = cc
told_one Silence (Response g) e = cc
told_one Silence Silence e = refl

record_one : (a b : Record) → a.entry ≡ b.entry → a.next ≡ b.next → a ≡ b
record_one a b e f = rw (e, f)

pub loses_nothing : LosesNothing
loses_nothing (Ok (Some a)) (Ok (Some b)) e =
    let entry : told a.entry ≡ told b.entry = cc in
    let next : a.next ≡ b.next = cc in
    ap (λ (r : Record). Ok (Some r)) (record_one a b (told_one a.entry b.entry entry) next)
loses_nothing (Ok (Some a)) (Ok None) e = cc
loses_nothing (Ok (Some a)) (Err q) e = cc
loses_nothing (Ok None) (Ok (Some b)) e = cc
loses_nothing (Ok None) (Ok None) e = refl
loses_nothing (Ok None) (Err q) e = cc
loses_nothing (Err r) (Ok (Some b)) e = cc
loses_nothing (Err r) (Ok None) e = cc
loses_nothing (Err r) (Err q) e = let same : number_of r ≡ number_of q = cc in ap Err (number_one r q same)
