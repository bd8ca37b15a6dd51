-- What it means that a contract determines the outcome: two outcomes of one call that both satisfy the function's `ensures` are equal. It is said of the clauses
-- in the source: of each public function `f` a crate exports the module `Rattle.CRATE.specs.contracts.MODULE.f`, where `ended` is f's signature and `clauses` are its clauses.
use Rattle.std.specs.Prelude.{◌≡◌}
use seplogic.Ra.Ura.{Ura}
use base.Logic.{SProp, ent}
use contract.Lifetimes.{Lfts}
use contract.Monad.{Fun, conj, fact}
use denote.Triple.Clauses.{Ended, Clauses, Lasts, at_exit}
use denote.Triple.Entry.{Args, Res}
use prog.Memory.{Memory}
use prog.Routine.{Routine}
use types.Logic.{Logic}

-- a model of the logic that clauses are written in
pub record Model : Type 2 where
  pub carrier : Type 1
  pub algebra : Ura carrier
  pub logic : Logic algebra
  pub memory : Memory → SProp algebra
  pub routines : Routine → Fun algebra

-- a function's clauses, in every model
abbrev pub Contract : Ended → Type 2
Contract T = (M : Type 1) (𝓤 : Ura M) (𝓛 : Logic 𝓤) → (Memory → SProp 𝓤) → (Routine → Fun 𝓤) → Clauses 𝓤 T

module _ (T : Ended) (c : Contract T) where
  -- the clauses in one model
  abbrev pub clauses_in : (m : Model) → Clauses m.algebra T
  clauses_in m = c m.carrier m.algebra m.logic m.memory m.routines

  -- a call: what it is given
  pub record Call (m : Model) : Type 1 where
    pub lifetimes : Lfts T.signature.lifetimes
    pub arguments : Args T.signature lifetimes
    pub ghosts : (clauses_in m lifetimes arguments).ghost

  module _ {m : Model} (call : Call m) where
    -- the last value behind each `&mut` that the call is lent
    abbrev pub Left : Type 0
    Left = Lasts T call.lifetimes call.arguments

    -- what a call gives: its result, and what it leaves in what it is lent
    abbrev pub Outcome : Type 0
    Outcome = Res T.signature call.lifetimes × Left

    -- what the `ensures` say of an outcome
    abbrev pub ensured : Outcome → SProp m.algebra
    ensured o = (clauses_in m call.lifetimes call.arguments).ensures call.ghosts o.0 (at_exit T call.lifetimes call.arguments o.1)

  -- of two outcomes that both satisfy the `ensures`, what is seen of the results is equal, and so is what is left in all that was lent
  abbrev pub DeterminedAs : {Seen : Lfts T.signature.lifetimes → Type 0} → ((κs : Lfts T.signature.lifetimes) → Res T.signature κs → Seen κs) → Type 2
  DeterminedAs {Seen} see =
      (m : Model) (call : Call m) (o p : Outcome call) →
      let seen : Outcome call → Seen call.lifetimes × Left call = λ o. (see call.lifetimes o.0, o.1) in
      ent m.algebra (conj m.algebra (ensured call o) (ensured call p)) (fact m.algebra (seen o ≡ seen p))

  -- the result is seen as it is: the outcomes are equal
  abbrev pub Determined : Type 2
  Determined = DeterminedAs {Seen = Res T.signature} (λ _ r. r)
