-- Each contract of `side` is an equation for the answer and for each lent parameter, and so settles them.
-- Assumes nothing.
use mathlib.Core.Path.{refl}
use Rattle.frame.proofs.LosesNothing.{refusal_one}
use Rattle.side.proofs.LosesNothing.{loses_nothing}
use Rattle.paper.specs.SideOutcomes.{SideOutcomes}
use Rattle.paper.proofs.Outcome.{both, meets}

pub side_outcomes : SideOutcomes
side_outcomes =
    record {
      fresh = λ κs a o u p q. both (meets p q) refl;
      restarted = λ κs a o u p q. both (meets p q) refl;
      cleared = λ κs a o u p q. both (meets p q) refl;
      synchronised = λ κs a o u p q. both (meets p q) refl;
      wrong = λ κs a o u p q. both (refusal_one o.answer u.answer (meets p q)) refl;
      address_wrong = λ κs a o u p q. both (refusal_one o.answer u.answer (meets p q)) refl;
      put = λ κs a o u p q. let e = loses_nothing.given _ _ o.answer u.answer _ _ (meets p q) in both e.0 (λ i. (e.1 i, (tt, tt)));
      take = λ κs a o u p q. let e = loses_nothing.given _ _ o.answer u.answer _ _ (meets p.0 q.0) in both e.0 (λ i. (e.1 i, (meets p.1 q.1 i, tt)));
      full = λ κs a o u p q. both (meets p q) refl;
      room = λ κs a o u p q. both (meets p q) refl;
      room_refusal = λ κs a o u p q. both (refusal_one o.answer u.answer (meets p q)) refl;
      lay = λ κs a o u p q. both refl (λ i. (tt, (tt, (meets p q i, tt))));
      hear = λ κs a o u p q. both (meets p q) refl;
      next = λ κs a o u p q. both (meets p q) refl;
      is_rnr = λ κs a o u p q. both (meets p q) refl;
      say = λ κs a o u p q. both (meets p q) refl;
    }
