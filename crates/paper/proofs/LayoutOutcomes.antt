-- Each contract of `layout` is an equation for the answer, and so settles it.
-- Assumes nothing.
use mathlib.Core.Path.{refl}
use Rattle.frame.proofs.LosesNothing.{refusal_one}
use Rattle.paper.specs.LayoutOutcomes.{LayoutOutcomes}
use Rattle.paper.proofs.Outcome.{both, meets}

pub layout_outcomes : LayoutOutcomes
layout_outcomes =
    record {
      slave_wrong = λ κs a o u p q. both (refusal_one _ _ (meets p q)) refl;
      slave_at = λ κs a o u p q. both (meets p q) refl;
      slave_bytes = λ κs a o u p q. both (meets p q) refl;
      master_wrong = λ κs a o u p q. both (refusal_one _ _ (meets p q)) refl;
      master_at = λ κs a o u p q. both (meets p q) refl;
      master_bytes = λ κs a o u p q. both (meets p q) refl;
      meaning_of = λ κs a o u p q. both (meets p q) refl;
      control_of = λ κs a o u p q. both (meets p q) refl;
      link_number = λ κs a o u p q. both (meets p q) refl;
      level_number = λ κs a o u p q. both (meets p q) refl;
    }
