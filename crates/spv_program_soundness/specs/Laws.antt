-- What is proved of assignments and NEW in a world.
use Rattle.std.specs.Prelude.{ℕ, IsTrue}
use Rattle.spv_logic.specs.Conditions.{Meaning}
use Rattle.spv_program.specs.Expressions.{Expression, Designator}
use Rattle.spv_logic.specs.declared.types.TypeId.{TypeId}
use Rattle.spv_program.specs.Statements.{Assign, New}
use Rattle.spv_program.specs.Programs.{Program, routine_in}
use Rattle.spv_program.specs.Scopes.{is_own}
use Rattle.spv_program.specs.Uses.{statement_uses, statement_calls}
use Rattle.spv_program.specs.Typing.{statement_ok}
use Rattle.spv_meaning.specs.Levels.{Here}
use Rattle.spv_meaning.specs.Walks.{walk}
use Rattle.spv_meaning.specs.Correct.{CorrectBelow}
use Rattle.spv_rule_soundness.specs.evaluation.Laws.{uses_seen}
use Rattle.spv_rule_soundness.specs.statements.Truth.{IsEntry}
use Rattle.spv_rule_soundness.specs.statements.Runs.{all_allowed, IsRight}
use Rattle.spv_rule_soundness.specs.statements.Laws.{below}
use Rattle.spv_frame_law.specs.Laws.{IsFramed}
use Rattle.spv_call_evaluation.specs.Functions.{calls_shown}

-- an assignment to any place, of any expression, where every routine is correct with fewer turns
abbrev pub AssignmentsAreRightIn : Meaning → Type 0
AssignmentsAreRightIn world =
    (p : Program) → IsFramed p → (here : Here) → IsEntry p here.entry
    → (d : Designator) (e : Expression) → IsTrue (statement_ok p (routine_in p here.routine) (Assign d e))
    → IsTrue (calls_shown p (routine_in p here.routine) (statement_calls (Assign d e)))
    → IsTrue (uses_seen (routine_in p here.routine) (statement_uses (is_own (routine_in p here.routine)) (Assign d e)))
    → (turns : ℕ) → CorrectBelow p world turns
    → IsRight p world all_allowed here (Assign d e) (walk p (below p turns) here (Assign d e))

-- NEW for any place
abbrev pub NewIsRightIn : Meaning → Type 0
NewIsRightIn world =
    (p : Program) → IsFramed p → (here : Here) → IsEntry p here.entry
    → (line : ℕ) (d : Designator) (t : TypeId) → IsTrue (statement_ok p (routine_in p here.routine) (New line d t))
    → IsTrue (calls_shown p (routine_in p here.routine) (statement_calls (New line d t)))
    → IsTrue (uses_seen (routine_in p here.routine) (statement_uses (is_own (routine_in p here.routine)) (New line d t)))
    → (turns : ℕ) → CorrectBelow p world turns
    → IsRight p world all_allowed here (New line d t) (walk p (below p turns) here (New line d t))
