-- What a call from C gives back: its number, its values, and the bytes of the end.
use Rattle.std.specs.Prelude.{ℕ, ◌≡◌, List, [], ◌∷◌, ◌++◌, eqb, Result}
use denote.Param.Members.{Once}
use denote.Ref.{MutBor}
use Rattle.frame.specs.Answer.{Answer, gives, refuses}
use Rattle.frame.specs.Pick.{pick}
use Rattle.frame.specs.declared.number.Refusal.{Refusal}
use Rattle.side.specs.Given.{Given, refusing}
use Rattle.frame.specs.declared.Line.{Line}
use Rattle.side.specs.declared.answer.News.{News}
use Rattle.layout.specs.Control.{control_of, link_number}

-- the result: the paper's number, 0 where nothing is refused
abbrev pub number : {A : Type 0} → Answer A → ℕ
number (gives v) = 0
number (refuses n) = n

-- lent memory after a call: what a call that is not refused makes of it, else as it was
abbrev pub after : {A B : Type 0} → (A → B) → Answer A → B → B
after f (gives v) old = f v
after f (refuses n) old = old

-- an end written back to its bytes
abbrev pub written : {A E : Type 0} → (E → List ℕ) → List ℕ → Given A E → Given A (List ℕ)
written {A} to_bytes b g = record { answer = g.answer; end = after (λ (v : A). to_bytes g.end) g.answer b }

-- a call on the end that lies in bytes: a number of bytes that are no end; else the call on the end that they are, which is written back unless the call is refused
abbrev pub on_end : {A E : Type 0} → (List ℕ → ℕ) → (List ℕ → E) → (E → List ℕ) → List ℕ → (E → Given A E) → Given A (List ℕ)
on_end wrong at to_bytes b call = refusing (wrong b) b (written to_bytes b (call (at b)))

-- the lent output: as it was where the bytes are no end
abbrev pub out_of : {E : Type 0} → (List ℕ → ℕ) → (List ℕ → E) → List ℕ → List ℕ → (E → List ℕ) → List ℕ
out_of wrong at b out call = pick (eqb (wrong b) 0) (call (at b)) out

-- a call that is passed on may give this, on an end and a lent output, and leave those
pub record Returns {F E A : Type 0}
    (g : Once F (MutBor E × (MutBor (List ℕ) × Unit {0})) (Result A Refusal × (MutBor E × (MutBor (List ℕ) × Unit {0}))))
    (call : F) (e : E) (out : List ℕ) (r : Result A Refusal) (f : E) (left : List ℕ) : Type 0 where
  pub end : MutBor E
  pub is : end.now ≡ e
  pub lent : MutBor (List ℕ)
  pub lends : lent.now ≡ out
  pub after_end : MutBor E
  pub after_lent : MutBor (List ℕ)
  pub met : g.post call (end, (lent, tt)) (r, (after_end, (after_lent, tt)))
  pub becomes : after_end.now ≡ f
  pub leaves : after_lent.now ≡ left

-- the values of take: the size
abbrev pub take_values : ℕ → List ℕ
take_values size = size ∷ []

-- what goes on the line: address, control byte, information size
abbrev pub line_values : Line → List ℕ
line_values l = l.address ∷ control_of l.meaning ∷ l.size ∷ []

-- what a frame brought: the size of the message confirmed and of the message handed over (0: none), and what became of the link
abbrev pub news_values : News → List ℕ
news_values n = n.confirmed ∷ n.handed ∷ link_number n.link ∷ []

-- the values of a slave step: the response, and what the order brought
abbrev pub step_values : Line × News → List ℕ
step_values v = line_values v.0 ++ news_values v.1
