-- What is promised of this room beside each function's contract. The proofs stand in proofs/Keeps, Whole, Numbers and LosesNothing.
use Rattle.std.specs.Prelude.{ℕ, ◌≡◌, Bool, List, [], ◌∷◌, Result, None}
use Rattle.frame.specs.Answer.{Among, Lists}
use Rattle.frame.specs.Refusal.{frame_refusal}
use Rattle.frame.specs.declared.Meaning.{Meaning}
use Rattle.side.specs.Given.{given, making}
use Rattle.side.specs.Side.{fresh, restarted, cleared, synchronised}
use Rattle.side.specs.Right.{side_wrong}
use Rattle.side.specs.Slot.{put_of, take_of}
use Rattle.side.specs.Rule.{count_rule}
use Rattle.side.specs.Say.{says}
use Rattle.side.specs.declared.Side.{Side}
use Rattle.frame.specs.declared.number.Refusal.{Refusal}

-- number 30 finds nothing wrong
abbrev pub Right : Side → Type 0
Right s = side_wrong s ≡ 0

-- a side that is right stays right, whatever it is handed; what it hears is a frame that was not refused by 9, 10 or 12
pub record Keeps : Type 0 where
  pub fresh : Right fresh
  pub restarted : (s : Side) → Right s → Right (restarted s)
  pub cleared : (s : Side) → Right s → Right (cleared s)
  pub synchronised : (s : Side) → Right s → Right (synchronised s)
  pub put : (s : Side) (m : List ℕ) → Right s → Right (put_of s m).end
  pub take : (s : Side) (room : ℕ) → Right s → Right (take_of s room).end
  pub hear : (s : Side) (f : Meaning) (m : List ℕ) → frame_refusal f m ≡ 0 → Right s → Right (count_rule s f m).side
  pub say : (may : Bool) (s : Side) → Right s → Right (says may s).side

-- "An irrecoverable frame confirms nothing, hands over nothing and leaves every mark."
abbrev pub AllOrNothing : Type 0
AllOrNothing = (s : Side) (f : Meaning) (m : List ℕ) → (count_rule s f m).heard ≡ None → (count_rule s f m).side ≡ s

-- "A number outside a call's list is not given by that call."
pub record Numbers : Type 0 where
  pub wrong : (s : Side) → Among (side_wrong s) (0 ∷ 30 ∷ [])
  pub put : (s : Side) (m : List ℕ) → Lists (30 ∷ 10 ∷ 12 ∷ 13 ∷ []) (put_of s m).answer
  pub take : (s : Side) (room : ℕ) → Lists (30 ∷ 14 ∷ 11 ∷ []) (take_of s room).answer

-- the definitions that say an answer and the end after it, and what a making gives, lose nothing
pub record LosesNothing : Type 1 where
  pub given : (A E : Type 0) (a b : Result A Refusal) (s t : E) → given a s ≡ given b t → (a ≡ b) × (s ≡ t)
  pub making : (E : Type 0) (blank : E) (a b : Result E Refusal) → making blank a ≡ making blank b → a ≡ b
