-- What a run does with one turn less, and the call of a routine.
use Rattle.std.specs.Prelude.{ℕ, List, [], ◌∷◌, ◌++◌, drop, Option, Some, None, ℤ, option_map}
use Rattle.std.specs.Option.{option_and_then}
use Rattle.spv_logic.specs.declared.names.names.Symbol.{Symbol}
use Rattle.spv_logic.specs.declared.types.TypeId.{TypeId}
use Rattle.spv_logic.specs.declared.conditions.Kind.{Kind}
use Rattle.spv_logic.specs.declared.conditions.Kind.TheVariants as kind
use Rattle.spv_logic.specs.declared.conditions.RoutineId.{RoutineId}
use Rattle.spv_logic.specs.Values.{Value}
use Rattle.spv_logic.specs.Terms.{Term}
use Rattle.spv_logic.specs.Conditions.{View}
use Rattle.spv_program.specs.Lists.{found}
use Rattle.spv_program.specs.Types.{sort_of}
use Rattle.spv_program.specs.Formulas.{Annotation}
use Rattle.spv_program.specs.Statements.{Counting, Statement}
use Rattle.spv_program.specs.Programs.{Routine, Program, shapes, routine_in}
use Rattle.spv_program.specs.Scopes.{result_name}
use Rattle.spv_program.specs.Terms.{body_term, entry_term, exit_term}
use Rattle.spv_meaning.specs.Places.{Binding, Frame, State, Holding, held, value_or_zero}
use Rattle.spv_meaning.specs.Views.{now_view, entry_view}
use Rattle.spv_meaning.specs.Outcomes.{Met, Outcome, ends, is_going, and_then, meets, take_choice}

-- where a statement runs: its routine (none is the main block), and what showed when that began
pub record Here : Type 0 where
  pub routine : Option RoutineId
  pub entry : View

abbrev pub Run : Type 0
Run = State → List Value → Outcome State

-- a FOR: its INVARIANT, its head and its body
pub record Loop : Type 0 where
  pub invariant : Option Annotation
  pub count : Counting
  pub body : Statement

-- what there is with one turn less: runs of statements, and a FOR with this end that goes on from a candidate
pub record Level : Type 0 where
  pub run : Here → Statement → Run
  pub next : Here → Loop → ℤ → ℤ → Run

-- the body of a routine, or of the main block
abbrev pub run_body : Level → Here → Statement → Run
run_body level here body = level.run here body

-- what takes a turn, where there is one; else the run is going still
abbrev pub with_turn : {A : Type 0} → Option Level → List Value → (Level → Outcome A) → Outcome A
with_turn None rest go = is_going rest
with_turn (Some below) rest go = go below

-- ---- annotations that are reached

-- an annotation with this term, reached in a routine in a state
abbrev pub reached : Program → Here → Kind → Term → ℕ → State → Met
reached p here k t line state = record { formula = t; kind = k; line = line; entry = here.entry; now = now_view p here.routine state }

abbrev pub reached_in_body : Program → Here → Kind → State → Annotation → Met
reached_in_body p here k state a = reached p here k (body_term p (routine_in p here.routine) a) a.line state

abbrev pub reached_entry : Program → Here → Routine → State → Annotation → Met
reached_entry p here r state a = reached p here kind.Entry (entry_term p r a) a.line state

abbrev pub reached_exit : Program → Here → Routine → State → Annotation → Met
reached_exit p here r state a = reached p here kind.Exit (exit_term p r a) a.line state

-- ---- calls

-- parameters that are bound, and the state behind the arguments
pub record Bound : Type 0 where
  pub names : List (Symbol × Binding)
  pub state : State

-- variables that begin with any value of their sort
abbrev pub choose_all : Program → List (Symbol × TypeId) → List Value → Outcome (List (Symbol × Binding))
choose_all p [] choices = ends [] choices
choose_all p (n ∷ names) choices =
    and_then (take_choice (shapes p) (sort_of p.forms n.1) choices) (λ v rest. and_then (choose_all p names rest)
    (λ others last. ends ((n.0, Holding v) ∷ others) last))

abbrev pub push : RoutineId → List (Symbol × Binding) → State → State
push r names state = record state { frames = record { routine = r; names = names } ∷ state.frames }

abbrev pub pop : State → State
pop state = record state { frames = drop 1 state.frames }

-- the routine's ENTRY, body and EXIT, in a state whose newest frame is its own
abbrev pub run_routine : Program → Level → RoutineId → Routine → State → List Value → Outcome State
run_routine p below id r state choices =
    let here : Here = record { routine = Some id; entry = entry_view p (Some id) state } in
    and_then (meets (option_map (reached_entry p here r state) r.entry) state choices)
    (λ begun rest. and_then (run_body below here r.body begun rest) (λ after last. meets (option_map (reached_exit p here r after) r.exit) after last))

-- the run of a call with these parameters: the frame stays, so that the result can be read
abbrev pub enter : Program → Level → RoutineId → Option Routine → Bound → List Value → Outcome State
enter p below id None bound choices = ends bound.state choices
enter p below id (Some r) bound choices =
    and_then (choose_all p (result_name r.name r.result ++ r.locals) choices)
    (λ own rest. run_routine p below id r (push id (bound.names ++ own) bound.state) rest)

-- the result that the newest frame has under the function's name
abbrev pub result_in : Option Routine → List Frame → Value
result_in None frames = value_or_zero None
result_in (Some r) [] = value_or_zero None
result_in (Some r) (f ∷ frames) = value_or_zero (option_and_then held (found f.names r.name))
