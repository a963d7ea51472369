-- What the slave's step does, seen over lists.
-- Assumes nothing.
use Prim.Native.Nat.{ℕ}
use mathlib.Core.Path.{◌≡◌, refl, sym, ◌∙◌, ap}
use mathlib.Core.Bool.{not}
use mathlib.Core.List.{List}
use lib.ListN.{take}
use Rattle.frame.specs.Refusal.{frame_refusal}
use Rattle.frame.specs.declared.Meaning.{Meaning}
use Rattle.frame.specs.declared.Meaning.TheVariants.{I, Rr, Rnr, Snrm, Disc, Ua, Frmr}
use Rattle.side.specs.Rule.{count_rule, is_rnr}
use Rattle.side.specs.Say.{says}
use Rattle.side.specs.Promises.{Right}
use Rattle.side.specs.declared.Side.{Side}
use Rattle.std.specs.Prelude.{Option, None, Some}
use Rattle.side.specs.declared.rule.Accepted.{Accepted}
use Rattle.side.specs.declared.say.Saying.{Saying}
use Rattle.slave.specs.Step.{in_ndm, in_nrm, responds, on_heard, moved_in, moved}
use Rattle.slave.specs.declared.Mode.{Mode}
use Rattle.slave.specs.declared.Mode.TheVariants.{Ndm, Nrm}
use Rattle.slave.specs.declared.Slave.{Slave}
use Rattle.slave.specs.declared.step.Moved.{Moved}
use Rattle.delivery.specs.Link as lists
use Rattle.link.specs.Ends.{rules, message, end_of, frame_of, slave_mode_of, slave_of}
use Rattle.link.proofs.Sides.{heard_of, sync-seen, rule_seen, rnr_seen, says_incoming, rule_held, say_seen, said-seen}

-- an answer over lists: s is the slave before the step; the response's information stands in the slot of the held message
abbrev pub answer_of : Slave → Moved → lists.Answer
answer_of s x =
    record {
      slave = slave_of x.slave;
      response = frame_of x.line.meaning (take x.line.size s.side.held);
      handed = message x.slave.side.incoming x.news.handed;
      confirmed = message s.side.held x.news.confirmed;
    }

ndm_seen : (s : Slave) (f : Meaning) (m : List ℕ) → Right s.side → answer_of s (in_ndm s f) ≡ lists.step_ndm (end_of s.side) (frame_of f m)
unfolding in_ndm
ndm_seen s (I ns nr) m r = refl
ndm_seen s (Rr nr) m r = refl
ndm_seen s (Rnr nr) m r = refl
ndm_seen s Snrm m r = ap (λ (e : lists.End). lists.answer lists.NRM e lists.UA) (sync-seen s.side r)
ndm_seen s Disc m r = refl
ndm_seen s Ua m r = refl
ndm_seen s Frmr m r = refl

heard-step : (s : Slave) (f : Meaning) (m : List ℕ) (t : Side) (h : Option Accepted) → t.held ≡ s.side.held
    → answer_of s (on_heard s f t h) ≡ lists.step_nrm rules (not (lists.is_rnr (frame_of f m))) (end_of s.side) (heard_of s.side t h)
unfolding responds
heard-step s f m t None e = refl
heard-step s f m t (Some a) e =
    rw (rnr_seen f m) (λ i. record {
      slave = record { mode = lists.NRM; end = said-seen (not (is_rnr f)) t i };
      response = said i;
      handed = message (says_incoming (not (is_rnr f)) t i) a.handed;
      confirmed = message s.side.held a.confirmed;
    })
  where
    x : Saying
    x = says (not (is_rnr f)) t

    said : frame_of x.meaning (take x.size s.side.held) ≡ lists.says (not (is_rnr f)) (lists.full rules (end_of t)) t.ns.0 t.nr.0 (end_of t).held
    said = ap (λ (l : List ℕ). frame_of x.meaning (take x.size l)) (sym e) ∙ say_seen (not (is_rnr f)) t

-- what an order that is not refused does
pub moved-seen : (s : Slave) (f : Meaning) (m : List ℕ) → Right s.side → frame_refusal f m ≡ 0
    → answer_of s (moved s f m) ≡ lists.slave_step rules (slave_of s) (frame_of f m)
unfolding moved in_nrm
moved-seen s f m r e = go s.mode
  where
    go : (q : Mode) → answer_of s (moved_in q s f m) ≡ lists.step_in rules (slave_mode_of q) (end_of s.side) (frame_of f m)
    go Ndm = ndm_seen s f m r
    go Nrm =
        heard-step s f m _ (count_rule s.side f m).heard (rule_held s.side f m)
        ∙ ap (lists.step_nrm rules (not (lists.is_rnr (frame_of f m))) (end_of s.side)) (rule_seen s.side f m e)
