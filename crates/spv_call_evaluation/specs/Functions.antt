-- What a called function gives: all that evaluations take from the functions that they call.
use Rattle.std.specs.Prelude.{◌≡◌, ℕ, ◌&&◌, List, [], ◌∷◌, Bool, Option, Some, IsTrue}
use Rattle.std.specs.List.{list_all}
use Rattle.spv_logic.specs.declared.types.TypeId.{TypeId}
use Rattle.spv_logic.specs.declared.conditions.RoutineId.{RoutineId}
use Rattle.spv_logic.specs.declared.operators.Head.{Head}
use Rattle.spv_logic.specs.Values.{Value}
use Rattle.spv_logic.specs.Terms.{Term}
use Rattle.spv_logic.specs.Fits.{fits}
use Rattle.spv_logic.specs.Conditions.{Meaning, Valuation, IsValuation, View, Shows, holds}
use Rattle.spv_program.specs.Expressions.{Call, Arguments, call}
use Rattle.spv_program.specs.Programs.{Routine, Program, shapes, routine_in}
use Rattle.spv_program.specs.Frames.{arguments_apart}
use Rattle.spv_program.specs.ExpressionTypes.{callee}
use Rattle.spv_program.specs.Supplies.{Supply, fresh_variable}
use Rattle.spv_program.specs.Terms.{alone}
use Rattle.spv_program.specs.Calls.{Argument, entry_at_call, exit_at_call}
use Rattle.spv_program.specs.ExpressionTerms.{sort_of_result, result_head}
use Rattle.spv_meaning.specs.Places.{State}
use Rattle.spv_meaning.specs.Outcomes.{Ended, and_then}
use Rattle.spv_meaning.specs.Levels.{Here, Level, Bound, enter, pop, result_in}
use Rattle.spv_meaning.specs.Evaluation.{Got, gives, arguments}
use Rattle.spv_meaning.specs.Before.{wanted_entry}
use Rattle.spv_rule_soundness.specs.statements.Truth.{IsWindow, meaning_in, shown, IsTrueFor}
use Rattle.spv_rule_soundness.specs.statements.Runs.{all_allowed, Reaches}
use Rattle.spv_frame_law.specs.Frames.{call_shown}
use Rattle.spv_call_evaluation.specs.Lying.{IsBoundTo}

-- whether calls name for VAR parameters what is apart, and all that they name and that their routines list shows
abbrev pub calls_shown : Program → Option Routine → List Call → Bool
calls_shown p here calls = list_all (λ c. arguments_apart p here c && call_shown p here c) calls

-- the fresh variable for what a function gives
abbrev pub value_head : Program → Routine → Supply → Head
value_head p q n = (fresh_variable q.name (sort_of_result p q) n).head

-- what a function gave: the state is as it was, the value is of its sort, and where the fresh variable is this value EXIT holds
pub record IsResult (p : Program) (world : Meaning) (here : Here) (state : State) (q : Routine) (n : Supply) (arguments : List Argument) (window : View) (got : Got) : Type 0 where
  pub state_is : got.state ≡ state
  pub fit : IsTrue (fits (shapes p) got.value (sort_of_result p q))
  pub promised : (t : Term) → exit_at_call p q arguments ((result_head p q, alone (value_head p q n)) ∷ []) ≡ Some t
      → (v : Valuation) → IsValuation (shapes p) v → Shows (shown p here window state) v → v (value_head p q n) ≡ got.value
      → IsTrue (holds (meaning_in p world) v t)

-- a call of a function, with one turn less: its arguments were evaluated and bound, and its ENTRY is true of their terms; then its
-- run reaches only what holds, and gives its result
pub record FunctionsGive (p : Program) (world : Meaning) (here : Here) (below : Option Level) (state : State) : Type 0 where
  pub each : (level : Level) → below ≡ Some level
      → (id : RoutineId) (line : ℕ) (given : Arguments) (q : Routine) (t : TypeId) → callee p (routine_in p here.routine) (call id line given) ≡ Some q → q.result ≡ Some t
      → IsTrue (calls_shown p (routine_in p here.routine) (call id line given ∷ []))
      → (choices : List Value) (bound : Bound) → (arguments p below here q.formals given state choices).end ≡ Ended bound
      → (n : Supply) (window : View) → IsWindow p n window
      → (terms : List Argument) → IsBoundTo p (meaning_in p world) here state q.formals terms window bound
      → IsTrueFor p world (shown p here window state) (wanted_entry here.routine line (entry_at_call p q terms))
      → (rest : List Value) → Reaches p world all_allowed Got (IsResult p world here state q n terms window) (and_then (enter p level id (Some q) bound rest) (λ after last. gives (result_in (Some q) after.frames) (pop after) last))
