-- What holds of the arrays of a slave holds of them after every call, where laying a message over an array keeps it.
-- Assumes nothing.
use Prim.Native.Nat.{ℕ}
use mathlib.Core.Bool.{not}
use mathlib.Core.List.{List}
use Rattle.frame.specs.declared.Meaning.{Meaning}
use Rattle.frame.specs.declared.Meaning.TheVariants.{I, Rr, Rnr, Snrm, Disc, Ua, Frmr}
use Rattle.side.specs.Right.{address_wrong}
use Rattle.side.specs.Side.{Slots}
use Rattle.side.specs.Rule.{count_rule, is_rnr}
use Rattle.side.specs.declared.Side.{Side}
use Rattle.std.specs.Prelude.{Option, None, Some}
use Rattle.side.specs.declared.rule.Accepted.{Accepted}
use Rattle.side.proofs.Calls.{refusing_keeps}
use Rattle.side.proofs.Slots.{Lays, put_slots, take_slots, cleared_slots, restarted_slots, synchronised_slots, rule_slots, says_slots}
use Rattle.slave.specs.Slave.{slave_wrong, put_of, take_of, restart_of, clear_of}
use Rattle.slave.specs.Step.{step_refusal, in_ndm, responds, on_heard, in_nrm, moved_in, moved, step_of}
use Rattle.slave.specs.declared.Mode.{Mode}
use Rattle.slave.specs.declared.Mode.TheVariants.{Ndm, Nrm}
use Rattle.slave.specs.declared.Slave.{Slave}

abbrev SlotsOf : (List ℕ → Type 0) → (List ℕ → Type 0) → Slave → Type 0
SlotsOf H J s = Slots H J s.side

module _ {H J : List ℕ → Type 0} where
  pub slave_put_lem : (s : Slave) (k : List ℕ) → Lays H k → Slots H J s.side → Slots H J (put_of s k).end.side
  unfolding put_of
  slave_put_lem s k lays a = refusing_keeps (SlotsOf H J) (address_wrong s.address) s _ a (λ z. put_slots s.side k lays a)

  pub slave-take : (s : Slave) (room : ℕ) → Slots H J s.side → Slots H J (take_of s room).end.side
  unfolding take_of
  slave-take s room a = refusing_keeps (SlotsOf H J) (address_wrong s.address) s _ a (λ z. take_slots s.side room a)

  ndm_slots : (s : Slave) (f : Meaning) → Slots H J s.side → Slots H J (in_ndm s f).slave.side
  unfolding in_ndm
  ndm_slots s (I ns nr) a = a
  ndm_slots s (Rr nr) a = a
  ndm_slots s (Rnr nr) a = a
  ndm_slots s Snrm a = synchronised_slots s.side a
  ndm_slots s Disc a = a
  ndm_slots s Ua a = a
  ndm_slots s Frmr a = a

  heard_slots : (s : Slave) (f : Meaning) (t : Side) (h : Option Accepted) → Slots H J s.side → Slots H J t → Slots H J (on_heard s f t h).slave.side
  unfolding responds
  heard_slots s f t None a b = a
  heard_slots s f t (Some k) a b = says_slots (not (is_rnr f)) t b

  moved_slots : (q : Mode) (s : Slave) (f : Meaning) (k : List ℕ) → Lays J k → Slots H J s.side → Slots H J (moved_in q s f k).slave.side
  unfolding in_nrm
  moved_slots Ndm s f k lays a = ndm_slots s f a
  moved_slots Nrm s f k lays a =
      heard_slots s f (count_rule s.side f k).side (count_rule s.side f k).heard a (rule_slots s.side f k lays a)

  pub slave-step : (s : Slave) (n : ℕ) (f : Meaning) (k : List ℕ) (room : ℕ) → Lays J k → Slots H J s.side → Slots H J (step_of s n f k room).end.side
  unfolding step_of moved
  slave-step s n f k room lays a = refusing_keeps (SlotsOf H J) (step_refusal s n f k room) s _ a (λ z. moved_slots s.mode s f k lays a)

  pub slave_restart_lem : (s : Slave) → Slots H J s.side → Slots H J (restart_of s).end.side
  unfolding restart_of
  slave_restart_lem s a = refusing_keeps (SlotsOf H J) (slave_wrong s) s _ a (λ z. restarted_slots s.side a)

  pub slave_clear_lem : (s : Slave) → Slots H J s.side → Slots H J (clear_of s).end.side
  unfolding clear_of
  slave_clear_lem s a = refusing_keeps (SlotsOf H J) (slave_wrong s) s _ a (λ z. cleared_slots s.side a)
