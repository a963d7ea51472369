-- An irrecoverable frame leaves the side as it was.
-- Assumes nothing.
use Prim.Native.Nat.{ℕ}
use mathlib.Core.Path.{◌≡◌, refl}
use mathlib.Core.List.{List}
use native.Mathlib.Omega.{arith}
use lib.ListN.{length}
use Rattle.frame.specs.declared.Meaning.TheVariants.{I, Rr, Rnr, Snrm, Disc, Ua, Frmr}
use Rattle.frame.proofs.Laws.{pick_both}
use Rattle.side.specs.Slot.{room}
use Rattle.side.specs.Rule.{ack, seen, accepted, on_nr, released, hand_over, on_i, count_rule}
use Rattle.side.specs.Promises.{AllOrNothing}
use Rattle.side.specs.declared.Side.{Side}
use Rattle.side.specs.declared.rule.Ack.{Ack}
use Rattle.side.specs.declared.rule.Ack.TheVariants.{ConfirmsNothing, Confirms, Astray}
use Rattle.side.specs.declared.rule.Seen.{Seen}
use Rattle.side.specs.declared.rule.Seen.TheVariants.{New, Duplicate, Strange}
use Rattle.std.specs.Prelude.{None}
use Rattle.side.specs.declared.rule.Hearing.{Hearing}

never : (a b : ℕ) → accepted a b ≡ None → ⊥
never a b e = let z : ◌≡◌ {A = ℕ} 0 1 = cc in omega arith

-- what is handed over, or finds no room, is accepted
handed : (m : List ℕ) (confirmed : ℕ) (s : Side) → (hand_over m confirmed s).heard ≡ None → ⊥
unfolding hand_over
handed m confirmed s =
    pick_both (λ (h : Hearing). h.heard ≡ None → ⊥) (room s (length m)) _ _ (never confirmed (length m)) (never confirmed 0)

nr_whole : (s : Side) (k : Ack) → (on_nr s k).heard ≡ None → (on_nr s k).side ≡ s
nr_whole s ConfirmsNothing e = refl
nr_whole s Confirms e = absurd (never s.holds 0 e)
nr_whole s Astray e = refl

i_whole : (s : Side) (k : Ack) (m : List ℕ) (n : Seen) → (on_i s k m n).heard ≡ None → (on_i s k m n).side ≡ s
i_whole s ConfirmsNothing m New e = absurd (handed m 0 s e)
i_whole s Confirms m New e = absurd (handed m s.holds (released s) e)
i_whole s Astray m New e = refl
i_whole s k m Duplicate e = nr_whole s k e
i_whole s k m Strange e = refl

pub all_or_nothing : AllOrNothing
unfolding count_rule
all_or_nothing s (I ns nr) m e = i_whole s (ack s nr) m (seen s ns) e
all_or_nothing s (Rr nr) m e = nr_whole s (ack s nr) e
all_or_nothing s (Rnr nr) m e = nr_whole s (ack s nr) e
all_or_nothing s Snrm m e = refl
all_or_nothing s Disc m e = refl
all_or_nothing s Ua m e = refl
all_or_nothing s Frmr m e = refl
