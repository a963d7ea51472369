-- Each contract of `capture` and `listing` is an equation for the answer and for each lent parameter, and so settles them.
-- Assumes nothing.
use mathlib.Core.Path.{refl}
use Rattle.capture.proofs.LosesNothing.{loses_nothing as record-loses-nothing}
use Rattle.listing.proofs.LosesNothing.{loses_nothing as listing-loses-nothing}
use Rattle.paper.specs.CaptureOutcomes.{CaptureOutcomes}
use Rattle.paper.proofs.Outcome.{both, meets}

pub capture_outcomes : CaptureOutcomes
capture_outcomes =
    record {
      read = λ κs a o u p q. both (record-loses-nothing o.answer u.answer (meets p q)) refl;
      list = λ κs a o u p q. both (listing-loses-nothing o.answer u.answer (meets p.0 q.0)) (λ i. (tt, (meets p.1 q.1 i, tt)));
    }
