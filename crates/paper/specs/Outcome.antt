-- How tight a promise is (01, "How tight the promises are"): "Prove that any two outcomes it allows are equal".
-- Of each function of a library the toolchain exports its parameters and its result (`Kinds.ps`, `Kinds.r`) and what its `ensures` clauses tell a caller (`Reads.Learnt`), as its author wrote them: the statements are about these.
use Rattle.std.specs.Prelude.{ℕ, ◌≡◌, List}
use contract.Lifetimes.{Lfts}
use denote.Triple.Clauses.{Lasts, at_exit}
use borrow.Fn.Kinds.{ParamKind, ResultKind, Out, Dens, res_t, ended_of}

module _ {n : ℕ} (ps : List (ParamKind n)) (r : ResultKind n) where
  -- an outcome of a call with these arguments: the answer, with the end given back where there is one, and what each lent parameter holds afterwards (nothing for a parameter that is not lent to be written)
  pub record Outcome (κs : Lfts n) (arguments : Dens κs ps) : Type 0 where
    pub answer : (res_t r κs).Denot
    pub lent : Lasts (ended_of n ps r) κs arguments

  -- the clauses allow it
  abbrev pub Allows : Out n ps r → (κs : Lfts n) (arguments : Dens κs ps) → Outcome κs arguments → Type 0
  Allows clauses κs arguments o = clauses κs arguments o.answer (at_exit (ended_of n ps r) κs arguments o.lent)

  -- any two outcomes that the clauses allow for the same arguments are equal
  abbrev pub OneOutcome : Out n ps r → Type 0
  OneOutcome clauses =
      (κs : Lfts n) (arguments : Dens κs ps) (o u : Outcome κs arguments)
      → Allows clauses κs arguments o → Allows clauses κs arguments u → o ≡ u

  -- the same as far as the answer is seen: a reference is seen by what it refers to, since no contract says at which address that stands
  abbrev pub OneSeen : {X : Type 0} → Out n ps r → ((κs : Lfts n) → (res_t r κs).Denot → X) → Type 0
  OneSeen clauses see =
      (κs : Lfts n) (arguments : Dens κs ps) (o u : Outcome κs arguments)
      → Allows clauses κs arguments o → Allows clauses κs arguments u → (see κs o.answer ≡ see κs u.answer) × (o.lent ≡ u.lent)
