-- Each contract of `frame` is an equation for the answer and for each lent parameter, and so settles them.
-- Assumes nothing.
use mathlib.Core.Path.{refl}
use Rattle.frame.proofs.LosesNothing.{loses_nothing}
use Rattle.paper.specs.FrameOutcomes.{FrameOutcomes}
use Rattle.paper.proofs.Outcome.{both, meets}

pub frame_outcomes : FrameOutcomes
frame_outcomes =
    record {
      number = λ κs a o u p q. both (meets p q) refl;
      decode = λ κs a o u p q. both (loses_nothing.answer o.answer u.answer (meets p q)) refl;
      encode = λ κs a o u p q. both (loses_nothing.answer o.answer u.answer (meets p q)) refl;
      counts_refusal = λ κs a o u p q. both (loses_nothing.refusal o.answer u.answer (meets p q)) refl;
      check = λ κs a o u p q. both (loses_nothing.answer o.answer u.answer (meets p q)) refl;
      check_in = λ κs a o u p q. both (loses_nothing.answer o.answer u.answer (meets p q)) refl;
      information = λ κs a o u p q. (meets p q, refl);
      message_refusal = λ κs a o u p q. both (loses_nothing.refusal o.answer u.answer (meets p q)) refl;
      source_task = λ κs a o u p q. both (meets p q) refl;
      destination_task = λ κs a o u p q. both (meets p q) refl;
      address_refusal = λ κs a o u p q. both (loses_nothing.refusal o.answer u.answer (meets p q)) refl;
      information_refusal = λ κs a o u p q. both (loses_nothing.refusal o.answer u.answer (meets p q)) refl;
      frame_refusal = λ κs a o u p q. both (loses_nothing.refusal o.answer u.answer (meets p q)) refl;
    }
