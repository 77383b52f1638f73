-- The terms of expressions with the calls in them, and these calls in front of conditions.
use Rattle.std.specs.Prelude.{◌≡◌, ◌+◌, ⊤, List, [], ◌∷◌, ◌++◌, length, Option, Some, None, Result, IfOk}
use Rattle.spv_logic.specs.declared.conditions.TermId.{TermId}
use Rattle.spv_logic.specs.declared.conditions.RoutineId.{RoutineId}
use Rattle.spv_logic.specs.Terms.{Term}
use Rattle.spv_logic.specs.Conditions.{Condition}
use Rattle.spv_term.specs.Arena.{AllBelow, Arena, Extends}
use Rattle.spv_program.specs.Supplies.{Supply}
use Rattle.spv_program.specs.ExpressionTerms.{Called, Valued}
use Rattle.spv_assign.specs.supply.Numbers.{AreThere}
use Rattle.spv_meaning.specs.Before.{before_calls, assuming_if_there, wanted_entry}
use Rattle.spv_assign.specs.declared.creation_trace.faults.GenFault.{GenFault}
use Rattle.spv_assign.specs.creation_trace.Events.{Event, Answers}
use Rattle.spv_assign.specs.creation_trace.StatementEvents.{counted}
use Rattle.spv_assign.specs.limited_steps.Makes.{IsTerm}
use Rattle.spv_flow_parts.specs.declared.leaves.valued.Called as code
use Rattle.spv_flow_parts.specs.declared.leaves.valued.Valued as made

-- an id is that of a term, where there is one
abbrev pub IsTermIfThere : Arena → Option TermId → Option Term → Type 0
IsTermIfThere a None None = ⊤
IsTermIfThere a (Some t) (Some x) = IsTerm a t x
IsTermIfThere a _ _ = ⊥

-- ---- calls

-- a call, with its terms in an arena
pub record IsCall (a : Arena) (c : code.Called) (d : Called) : Type 0 where
  pub args : AllBelow (length a.nodes) c.args
  pub needs : IsTermIfThere a c.needs d.needs
  pub gives : IsTermIfThere a c.gives d.gives
  pub line : c.line ≡ d.line

abbrev pub AreCalls : Arena → List code.Called → List Called → Type 0
AreCalls a [] [] = ⊤
AreCalls a (c ∷ cs) (d ∷ ds) = IsCall a c d × AreCalls a cs ds
AreCalls a _ _ = ⊥

-- the conditions of a call in front of others: its ENTRY is wanted, and its EXIT is known in those
abbrev pub before_one : Option RoutineId → Called → List Condition → List Condition
before_one here c conditions = wanted_entry here c.line c.needs ++ assuming_if_there c.gives conditions

-- the lists that are made where calls are put in front of conditions, the last one first
abbrev pub call_events : Option RoutineId → List Called → List Condition → List Event
call_events here [] conditions = []
call_events here (c ∷ calls) conditions =
    call_events here calls conditions ++ counted (length (wanted_entry here c.line c.needs) + length (before_calls here calls conditions))

-- ---- values

-- the term of an expression with its calls, and the fresh variables that are left
pub record IsValued (a : Arena) (n : Supply) (v : made.Valued) (w : Valued) : Type 0 where
  pub term : IsTerm a v.term w.term
  pub calls : AreCalls a v.calls w.calls
  pub supply : n ≡ w.supply
  pub there : AreThere a n

-- it was made by these events, or the limit was met that they meet first
pub record MakesValue (r : Result made.Valued GenFault) (w : Valued) (events : List Event) (a b : Arena) (n : Supply) : Type 0 where
  pub grows : Extends a b
  pub walk : Answers r events a b
  pub value : IfOk r (λ v. IsValued b n v w)
