-- What is promised of this room beside each function's contract. The proofs stand in proofs/Keeps, Blank, Numbers and LosesNothing.
use Rattle.std.specs.Prelude.{◌≡◌, ℕ, List, [], ◌∷◌, ◌≢◌, Result, Option}
use Rattle.frame.specs.Answer.{Among, Lists}
use Rattle.frame.specs.declared.number.Refusal.{Refusal}
use Rattle.frame.specs.declared.Meaning.{Meaning}
use Rattle.side.specs.Given.{refused, making}
use Rattle.side.specs.declared.answer.News.{News}
use Rattle.master.specs.Master.{master_wrong, blank, make_refusal, make_of, put_of, take_of, restart_of, clear_of}
use Rattle.master.specs.Order.{order_of}
use Rattle.master.specs.Response.{response_given, response_of, silence_of}
use Rattle.master.specs.declared.Master.{Master}

-- number 30 finds nothing wrong
abbrev pub Right : Master → Type 0
Right m = master_wrong m ≡ 0

-- an accepted making gives a right end, and an end that is right stays right in every call with any arguments
pub record Keeps : Type 0 where
  pub make : (a l : ℕ) → make_refusal a l ≡ 0 → Right (make_of a l).end
  pub put : (m : Master) (k : List ℕ) → Right m → Right (put_of m k).end
  pub take : (m : Master) (room : ℕ) → Right m → Right (take_of m room).end
  pub order : (m : Master) (tick room : ℕ) → Right m → Right (order_of m tick room).end
  pub response : (m : Master) (a : ℕ) (f : Meaning) (k : List ℕ) (tick : ℕ) → Right m → Right (response_of m a f k tick).end
  pub silence : (m : Master) → Right m → Right (silence_of m).end
  pub restart : (m : Master) → Right m → Right (restart_of m).end
  pub clear : (m : Master) → Right m → Right (clear_of m).end

-- the definition of a refused making has the blank end, which every call refuses with 30
pub record BlankRefused : Type 0 where
  pub make : (a l : ℕ) → (make_refusal a l ≢ 0) → (make_of a l).end ≡ blank
  pub put : (k : List ℕ) → put_of blank k ≡ refused 30 blank
  pub take : (room : ℕ) → take_of blank room ≡ refused 30 blank
  pub order : (tick room : ℕ) → order_of blank tick room ≡ refused 30 blank
  pub response : (a : ℕ) (f : Meaning) (k : List ℕ) (tick : ℕ) → response_of blank a f k tick ≡ refused 30 blank
  pub silence : silence_of blank ≡ refused 30 blank
  pub restart : restart_of blank ≡ refused 30 blank
  pub clear : clear_of blank ≡ refused 30 blank

-- "A number outside a call's list is not given by that call."
pub record Numbers : Type 0 where
  pub wrong : (m : Master) → Among (master_wrong m) (0 ∷ 30 ∷ [])
  pub make : (a l : ℕ) → Lists (8 ∷ 15 ∷ []) (make_of a l).answer
  pub put : (m : Master) (k : List ℕ) → Lists (30 ∷ 10 ∷ 12 ∷ 13 ∷ []) (put_of m k).answer
  pub take : (m : Master) (room : ℕ) → Lists (30 ∷ 14 ∷ 11 ∷ []) (take_of m room).answer
  pub order : (m : Master) (tick room : ℕ) → Lists (30 ∷ 17 ∷ 11 ∷ []) (order_of m tick room).answer
  pub response : (m : Master) (a : ℕ) (f : Meaning) (k : List ℕ) (tick : ℕ) → Lists (30 ∷ 16 ∷ 9 ∷ 10 ∷ 12 ∷ []) (response_of m a f k tick).answer
  pub silence : (m : Master) → Lists (30 ∷ 16 ∷ []) (silence_of m).answer
  pub restart : (m : Master) → Lists (30 ∷ []) (restart_of m).answer
  pub clear : (m : Master) → Lists (30 ∷ []) (clear_of m).answer

-- the definitions that say what a making and a response give lose nothing; that of the other calls is side's `given`
pub record LosesNothing : Type 0 where
  pub made : (a b : Result Master Refusal) → making blank a ≡ making blank b → a ≡ b
  pub response : (a b : Result (Option News) Refusal) (m k : Master) → response_given a m ≡ response_given b k → (a ≡ b) × (m ≡ k)
