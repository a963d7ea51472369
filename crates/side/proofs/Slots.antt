-- What holds of the arrays of a side holds of them after every step, where laying a message over an array keeps it.
-- Assumes nothing.
use Prim.Native.Nat.{ℕ, ◌≤◌}
use mathlib.Core.Path.{◌≡◌}
use mathlib.Core.Bool.{Bool}
use mathlib.Core.List.{List, ◌++◌}
use native.Mathlib.Omega.{arith}
use lib.Dec.{eqb}
use lib.ListN.{length, drop, length-append, length-drop, length-replicate}
use Rattle.frame.specs.declared.Meaning.{Meaning}
use Rattle.frame.specs.declared.Meaning.TheVariants.{I, Rr, Rnr, Snrm, Disc, Ua, Frmr}
use Rattle.frame.proofs.Laws.{pick_cases, pick_both}
use Rattle.side.specs.Side.{fresh, restarted, cleared, synchronised, Slots, Arrays}
use Rattle.side.specs.Slot.{room, put_refusal, put_of, take_refusal, take_of}
use Rattle.side.specs.Rule.{ack, seen, on_nr, hand_over, on_heard, on_i, count_rule}
use Rattle.side.specs.Say.{status, says_held, says}
use Rattle.side.specs.declared.Side.{Side}
use Rattle.side.specs.declared.rule.Ack.{Ack}
use Rattle.side.specs.declared.rule.Ack.TheVariants.{ConfirmsNothing, Confirms, Astray}
use Rattle.side.specs.declared.rule.Seen.{Seen}
use Rattle.side.specs.declared.rule.Seen.TheVariants.{New, Duplicate, Strange}
use Rattle.std.specs.Prelude.{Option, None, Some}
use Rattle.side.specs.declared.rule.Accepted.{Accepted}
use Rattle.side.specs.declared.rule.Hearing.{Hearing}
use Rattle.side.specs.declared.say.Saying.{Saying}
use Rattle.side.proofs.Calls.{refusing_keeps}
use Rattle.side.proofs.Parts.{put_fits, room_small}

pub fresh_arrays : Arrays fresh
fresh_arrays = record { held = length-replicate {A = ℕ} 253 0; incoming = length-replicate {A = ℕ} 253 0 }

-- a message of at most 253 bytes, laid over an array, keeps what holds of the array
abbrev pub Lays : (List ℕ → Type 0) → List ℕ → Type 0
Lays K m = (slot : List ℕ) → length m ≤ 253 → K slot → K (m ++ drop (length m) slot)

-- it leaves the array's size
pub lays_size : (m : List ℕ) → Lays (λ x. length x ≡ 253) m
lays_size m slot fits e = simp (length-append, length-drop) (omega arith)

module _ {H J : List ℕ → Type 0} where
  pub put_slots : (s : Side) (m : List ℕ) → Lays H m → Slots H J s → Slots H J (put_of s m).end
  unfolding put_of
  put_slots s m lays a =
      refusing_keeps (Slots H J) (put_refusal s m) s _ a (λ z. record { held = lays s.held (put_fits s m z) a.held; incoming = a.incoming })

  pub take_slots : (s : Side) (room : ℕ) → Slots H J s → Slots H J (take_of s room).end
  unfolding take_of
  take_slots s room a = refusing_keeps (Slots H J) (take_refusal s room) s _ a (λ z. record { held = a.held; incoming = a.incoming })

  pub cleared_slots : (s : Side) → Slots H J s → Slots H J (cleared s)
  cleared_slots s a = record { held = a.held; incoming = a.incoming }

  pub restarted_slots : (s : Side) → Slots H J s → Slots H J (restarted s)
  restarted_slots s a = record { held = a.held; incoming = a.incoming }

  pub synchronised_slots : (s : Side) → Slots H J s → Slots H J (synchronised s)
  unfolding synchronised
  synchronised_slots s a =
      pick_both (Slots H J) s.sent _ _ (record { held = a.held; incoming = a.incoming }) (restarted_slots s a)

  nr_slots : (s : Side) (k : Ack) → Slots H J s → Slots H J (on_nr s k).side
  nr_slots s ConfirmsNothing a = a
  nr_slots s Confirms a = record { held = a.held; incoming = a.incoming }
  nr_slots s Astray a = a

  hand_slots : (m : List ℕ) (confirmed : ℕ) (s : Side) → Lays J m → Slots H J s → Slots H J (hand_over m confirmed s).side
  unfolding hand_over
  hand_slots m confirmed s lays a =
      pick_cases (λ (h : Hearing). Slots H J h.side) (room s (length m)) _ _
      (λ t. record { held = a.held; incoming = lays s.incoming (room_small s (length m) t) a.incoming }) (λ t. a)

  heard_slots : (m : List ℕ) (s : Side) (h : Option Accepted) → Lays J m → Slots H J s → Slots H J (on_heard m s h).side
  heard_slots m s None lays a = a
  heard_slots m s (Some k) lays a = hand_slots m k.confirmed s lays a

  i_slots : (s : Side) (k : Ack) (m : List ℕ) (n : Seen) → Lays J m → Slots H J s → Slots H J (on_i s k m n).side
  i_slots s k m New lays a = heard_slots m (on_nr s k).side (on_nr s k).heard lays (nr_slots s k a)
  i_slots s k m Duplicate lays a = nr_slots s k a
  i_slots s k m Strange lays a = a

  pub rule_slots : (s : Side) (f : Meaning) (m : List ℕ) → Lays J m → Slots H J s → Slots H J (count_rule s f m).side
  unfolding count_rule
  rule_slots s (I ns nr) m lays a = i_slots s (ack s nr) m (seen s ns) lays a
  rule_slots s (Rr nr) m lays a = nr_slots s (ack s nr) a
  rule_slots s (Rnr nr) m lays a = nr_slots s (ack s nr) a
  rule_slots s Snrm m lays a = a
  rule_slots s Disc m lays a = a
  rule_slots s Ua m lays a = a
  rule_slots s Frmr m lays a = a

  pub says_slots : (may : Bool) (s : Side) → Slots H J s → Slots H J (says may s).side
  unfolding says says_held status
  says_slots may s a =
      pick_both (λ (x : Saying). Slots H J x.side) may _ _
      (pick_both (λ (x : Saying). Slots H J x.side) (eqb s.holds 0) _ _ a (record { held = a.held; incoming = a.incoming }))
      a
