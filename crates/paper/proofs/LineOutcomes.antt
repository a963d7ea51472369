-- Each contract of `bits`, `nrzi`, `writer` and `reader` is an equation for the answer and for each lent parameter, and so settles them.
-- Assumes nothing.
use mathlib.Core.Path.{refl}
use Rattle.frame.proofs.LosesNothing.{refusal_one}
use Rattle.writer.proofs.Writing.{write_loses_nothing}
use Rattle.reader.proofs.Answers.{read_loses_nothing}
use Rattle.nrzi.proofs.Kept.{loses_nothing as nrzi-loses-nothing}
use Rattle.paper.specs.LineOutcomes.{LineOutcomes}
use Rattle.paper.proofs.Outcome.{both, meets}

pub line_outcomes : LineOutcomes
line_outcomes =
    record {
      check_word = λ κs a o u p q. both (meets p q) refl;
      check_word_of = λ κs a o u p q. both (meets p q) refl;
      bit_count_refusal = λ κs a o u p q. both (refusal_one o.answer u.answer (meets p q)) refl;
      encode = λ κs a o u p q. both (nrzi-loses-nothing o.answer u.answer (meets p.0 q.0)) (λ i. (tt, (tt, (tt, (meets p.1 q.1 i, tt)))));
      decode = λ κs a o u p q. both (nrzi-loses-nothing o.answer u.answer (meets p.0 q.0)) (λ i. (tt, (tt, (tt, (meets p.1 q.1 i, tt)))));
      write = λ κs a o u p q. both (write_loses_nothing o.answer u.answer (meets p.0 q.0)) (λ i. (tt, (tt, (tt, (meets p.1 q.1 i, tt)))));
      read = λ κs a o u p q. both (read_loses_nothing o.answer u.answer (meets p.0 q.0)) (λ i. (tt, (tt, (meets p.1 q.1 i, tt))));
    }
