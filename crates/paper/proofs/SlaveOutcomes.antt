-- Each contract of `slave` is an equation for the answer and for each lent parameter, and so settles them.
-- Assumes nothing.
use mathlib.Core.Path.{refl}
use Rattle.frame.proofs.LosesNothing.{refusal_one}
use Rattle.side.proofs.LosesNothing.{loses_nothing}
use Rattle.slave.proofs.LosesNothing.{loses_nothing as made_one}
use Rattle.paper.specs.SlaveOutcomes.{SlaveOutcomes}
use Rattle.paper.proofs.Outcome.{both, meets}

pub slave_outcomes : SlaveOutcomes
slave_outcomes =
    record {
      make = λ κs a o u p q. both (made_one o.answer u.answer (meets p q)) refl;
      put = λ κs a o u p q. let e = loses_nothing.given _ _ o.answer u.answer _ _ (meets p q) in both e.0 (λ i. (e.1 i, (tt, tt)));
      take = λ κs a o u p q. let e = loses_nothing.given _ _ o.answer u.answer _ _ (meets p.0 q.0) in both e.0 (λ i. (e.1 i, (meets p.1 q.1 i, tt)));
      step = λ κs a o u p q. let e = loses_nothing.given _ _ o.answer u.answer _ _ (meets p.0 q.0) in both e.0 (λ i. (e.1 i, (tt, (tt, (tt, (meets p.1 q.1 i, tt))))));
      restart = λ κs a o u p q. let e = loses_nothing.given _ _ o.answer u.answer _ _ (meets p q) in both e.0 (λ i. (e.1 i, tt));
      clear = λ κs a o u p q. let e = loses_nothing.given _ _ o.answer u.answer _ _ (meets p q) in both e.0 (λ i. (e.1 i, tt));
      wrong = λ κs a o u p q. both (refusal_one o.answer u.answer (meets p q)) refl;
    }
