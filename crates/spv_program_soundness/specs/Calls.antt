-- What is proved of calls of procedures in a world.
use Rattle.std.specs.Prelude.{◌≡◌, ℕ, suc, List, Some, IsTrue}
use Rattle.spv_logic.specs.declared.conditions.RoutineId.{RoutineId}
use Rattle.spv_logic.specs.Values.{Value}
use Rattle.spv_logic.specs.Conditions.{Meaning, View}
use Rattle.spv_program.specs.Expressions.{Call, Arguments, call}
use Rattle.spv_program.specs.Statements.{Perform}
use Rattle.spv_program.specs.Programs.{Routine, Program, routine_in}
use Rattle.spv_program.specs.Scopes.{is_own}
use Rattle.spv_program.specs.Uses.{statement_uses, statement_calls}
use Rattle.spv_program.specs.ExpressionTypes.{callee}
use Rattle.spv_program.specs.ExpressionTerms.{argued}
use Rattle.spv_program.specs.Typing.{statement_ok}
use Rattle.spv_meaning.specs.Places.{State}
use Rattle.spv_meaning.specs.Outcomes.{Ended, ends, and_then}
use Rattle.spv_meaning.specs.Levels.{Here, Bound, enter, pop}
use Rattle.spv_meaning.specs.Evaluation.{arguments}
use Rattle.spv_meaning.specs.Walks.{level, walk}
use Rattle.spv_meaning.specs.Starts.{IsStart}
use Rattle.spv_meaning.specs.Correct.{CorrectBelow}
use Rattle.spv_meaning.specs.Before.{Made, before_entering}
use Rattle.spv_rule_soundness.specs.evaluation.Laws.{uses_seen}
use Rattle.spv_rule_soundness.specs.statements.Truth.{IsWindow, IsEntry, meaning_in, Ignores}
use Rattle.spv_rule_soundness.specs.statements.Runs.{all_allowed, may_change, Reaches, EndsWell, IsRight}
use Rattle.spv_rule_soundness.specs.statements.Laws.{below}
use Rattle.spv_frame_law.specs.Laws.{IsFramed, below_turns}
use Rattle.spv_call_evaluation.specs.Known.{Widens}
use Rattle.spv_call_evaluation.specs.Lying.{IsBoundTo}
use Rattle.spv_call_evaluation.specs.Functions.{calls_shown}

-- a call of a procedure, where every routine is correct with fewer turns
abbrev pub CallsAreRightIn : Meaning → Type 0
CallsAreRightIn world =
    (p : Program) → IsFramed p → (here : Here) → IsEntry p here.entry
    → (c : Call) → IsTrue (statement_ok p (routine_in p here.routine) (Perform c))
    → IsTrue (calls_shown p (routine_in p here.routine) (statement_calls (Perform c)))
    → IsTrue (uses_seen (routine_in p here.routine) (statement_uses (is_own (routine_in p here.routine)) (Perform c)))
    → (turns : ℕ) → CorrectBelow p world turns
    → IsRight p world all_allowed here (Perform c) (walk p (below p turns) here (Perform c))

-- its entering alone, behind the evaluation of its arguments: these are bound to what their terms say, and the list before the entering is true
-- with the values of the fresh variables of the functions that they called
abbrev pub EnteringsAreRightIn : Meaning → Type 0
EnteringsAreRightIn world =
    (p : Program) → IsFramed p → (here : Here) → IsEntry p here.entry
    → (id : RoutineId) (line : ℕ) (given : Arguments) → IsTrue (statement_ok p (routine_in p here.routine) (Perform (call id line given)))
    → IsTrue (calls_shown p (routine_in p here.routine) (statement_calls (Perform (call id line given))))
    → IsTrue (uses_seen (routine_in p here.routine) (statement_uses (is_own (routine_in p here.routine)) (Perform (call id line given))))
    → (turns : ℕ) → CorrectBelow p world (suc turns)
    → (q : Routine) → callee p (routine_in p here.routine) (call id line given) ≡ Some q
    → (made : Made) → Ignores p world made.supply made.conditions → (window : View) → IsWindow p made.supply window
    → (state : State) → IsStart p here.routine state
    → (choices : List Value) (bound : Bound) → (arguments p (below_turns p (suc turns)) here q.formals given state choices).end ≡ Ended bound
    → (wider : View)
    → Widens p world here state made.supply (argued p (routine_in p here.routine) made.supply given).supply window wider
    (before_entering p here.routine line (Some q) (argued p (routine_in p here.routine) made.supply given) made.conditions).conditions
    → IsBoundTo p (meaning_in p world) here state q.formals (argued p (routine_in p here.routine) made.supply given).arguments wider bound
    → (rest : List Value)
    → Reaches p world all_allowed State (EndsWell p world here window (may_change p here (Perform (call id line given))) made.conditions state)
    (and_then (enter p (level p turns) id (Some q) bound rest) (λ after last. ends (pop after) last))
