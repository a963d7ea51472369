-- What is promised of this room beside each function's contract. The proofs stand in proofs/Keeps, Blank, Numbers and LosesNothing.
use Rattle.std.specs.Prelude.{ℕ, ◌≡◌, List, [], ◌∷◌, Result}
use Rattle.frame.specs.Answer.{Among, Lists}
use Rattle.frame.specs.Refusal.{address_refusal}
use Rattle.frame.specs.declared.number.Refusal.{Refusal}
use Rattle.frame.specs.declared.Meaning.{Meaning}
use Rattle.side.specs.Given.{refused, making}
use Rattle.slave.specs.Slave.{slave_wrong, blank, make_of, put_of, take_of, restart_of, clear_of}
use Rattle.slave.specs.Step.{step_of}
use Rattle.slave.specs.declared.Slave.{Slave}

-- number 30 finds nothing wrong
abbrev pub Right : Slave → Type 0
Right s = slave_wrong s ≡ 0

-- an accepted making gives a right end, and an end that is right stays right in every call with any arguments
pub record Keeps : Type 0 where
  pub make : (a : ℕ) → address_refusal a ≡ 0 → Right (make_of a).end
  pub put : (s : Slave) (m : List ℕ) → Right s → Right (put_of s m).end
  pub take : (s : Slave) (room : ℕ) → Right s → Right (take_of s room).end
  pub step : (s : Slave) (a : ℕ) (f : Meaning) (m : List ℕ) (room : ℕ) → Right s → Right (step_of s a f m room).end
  pub restart : (s : Slave) → Right s → Right (restart_of s).end
  pub clear : (s : Slave) → Right s → Right (clear_of s).end

-- the definition of a refused making has the blank end, which every call refuses with 30
pub record BlankRefused : Type 0 where
  pub make : (a : ℕ) → (address_refusal a ≡ 0 → ⊥) → (make_of a).end ≡ blank
  pub put : (m : List ℕ) → put_of blank m ≡ refused 30 blank
  pub take : (room : ℕ) → take_of blank room ≡ refused 30 blank
  pub step : (a : ℕ) (f : Meaning) (m : List ℕ) (room : ℕ) → step_of blank a f m room ≡ refused 30 blank
  pub restart : restart_of blank ≡ refused 30 blank
  pub clear : clear_of blank ≡ refused 30 blank

-- "A number outside a call's list is not given by that call."
pub record Numbers : Type 0 where
  pub wrong : (s : Slave) → Among (slave_wrong s) (0 ∷ 30 ∷ [])
  pub make : (a : ℕ) → Lists (8 ∷ []) (make_of a).answer
  pub put : (s : Slave) (m : List ℕ) → Lists (30 ∷ 10 ∷ 12 ∷ 13 ∷ []) (put_of s m).answer
  pub take : (s : Slave) (room : ℕ) → Lists (30 ∷ 14 ∷ 11 ∷ []) (take_of s room).answer
  pub step : (s : Slave) (a : ℕ) (f : Meaning) (m : List ℕ) (room : ℕ) → Lists (30 ∷ 11 ∷ 9 ∷ 10 ∷ 12 ∷ 19 ∷ []) (step_of s a f m room).answer
  pub restart : (s : Slave) → Lists (30 ∷ []) (restart_of s).answer
  pub clear : (s : Slave) → Lists (30 ∷ []) (clear_of s).answer

-- the definition that says what a making gives loses nothing; that of the other calls is side's `given`
abbrev pub LosesNothing : Type 0
LosesNothing = (a b : Result Slave Refusal) → making blank a ≡ making blank b → a ≡ b
