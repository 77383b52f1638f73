-- What runs with any number of turns leave.
use Rattle.spv_preservation.specs.Right.{HasValues}
use Rattle.spv_meaning.specs.FrameTypes.{FrameType, IsIn, in_main, in_routine}
use Rattle.spv_meaning.specs.Starts.{IsStart, IsRight}
use Rattle.std.proofs.Common.{◌≡◌, ℕ, zero, suc, true, List, ap, subst, ◌∙◌, Option, Some, None}
use Rattle.spv_logic.proofs.list.Tests.{right_true}
use Rattle.std.specs.List.{list_all}
use Rattle.spv_logic.specs.declared.conditions.RoutineId.{RoutineId}
use Rattle.spv_logic.specs.Values.{Value}
use Rattle.spv_program.specs.Statements.{Statement}
use Rattle.spv_program.specs.Programs.{Program, routine_in}
use Rattle.spv_program.specs.Scopes.{body_scope}
use Rattle.spv_program.specs.FormulaTypes.{annotation_ok}
use Rattle.spv_program.specs.Typing.{well_typed, declarations_ok, routine_ok, statement_ok}
use Rattle.spv_program.proofs.SortFacts.{nothing_there, some_is}
use Rattle.spv_meaning.specs.Places.{State}
use Rattle.spv_meaning.specs.Outcomes.{Jump, Ended}
use Rattle.spv_meaning.specs.Levels.{Here, Level}
use Rattle.spv_meaning.specs.Walks.{level_over, level, run}
use Rattle.spv_meaning.specs.Correct.{begun, body_of, routine_body}
use Rattle.spv_preservation.specs.Right.{Leaves}
use Rattle.spv_preservation.proofs.Starts.{has_values}
use Rattle.spv_preservation.proofs.Frames.{leaves_now}
use Rattle.spv_preservation.proofs.Calls.{LevelKeeps, routine_right}
use Rattle.spv_preservation.proofs.Statements.{walks, counted}

over_keeps : (p : Program) → well_typed p ≡ true → (below : Option Level) → ((level : Level) → below ≡ Some level → LevelKeeps p level) → LevelKeeps p (level_over p below)
over_keeps p typed below keeps = record {
  run = λ here types inside s ok before state leaves choices. walks p typed below keeps here types inside s ok before state leaves choices;
  next = λ here types inside loop counts body end candidate before state leaves choices. counted p typed below keeps here types inside loop counts body end candidate before state leaves choices;
}

pub level_keeps : (p : Program) → well_typed p ≡ true → (turns : ℕ) → LevelKeeps p (level p turns)
level_keeps p typed zero = over_keeps p typed None (λ l e. absurd (nothing_there e))
level_keeps p typed (suc n) = over_keeps p typed (Some (level p n)) (λ l e. subst (LevelKeeps p) (some_is e) (level_keeps p typed n))

pub statement_leaves : (p : Program) → well_typed p ≡ true → (here : Here) (types : List FrameType) → IsIn p here.routine types → (s : Statement) → statement_ok p (routine_in p here.routine) s ≡ true → (state : State) → IsRight p types state
    → (turns : ℕ) (choices : List Value) (after : State) → (run p turns here s state choices).end ≡ Ended after → Leaves p types state.heap after
statement_leaves p typed here types inside s ok state right turns choices after ended =
    ((level_keeps p typed turns).run here types inside s ok state.heap state (leaves_now p types state right) choices).holds after ended

pub statement_jumps : (p : Program) → well_typed p ≡ true → (here : Here) (types : List FrameType) → IsIn p here.routine types → (s : Statement) → statement_ok p (routine_in p here.routine) s ≡ true → (state : State) → IsRight p types state
    → (turns : ℕ) (choices : List Value) (label : ℕ) (at : State) → (run p turns here s state choices).end ≡ Jump label at → ⊥
statement_jumps p typed here types inside s ok state right turns choices label at jumped =
    ((level_keeps p typed turns).run here types inside s ok state.heap state (leaves_now p types state right) choices).jumped label at jumped

-- bodies are well typed where they stand
body_ok : (p : Program) → well_typed p ≡ true → (here : Option RoutineId) (types : List FrameType) → IsIn p here types → statement_ok p (routine_in p here) (body_of p here) ≡ true
body_ok p typed None _ (in_main types) =
    right_true (annotation_ok p (body_scope p None) p.main.exit) _
    (right_true (annotation_ok p (body_scope p None) p.main.entry) _ (right_true (list_all (routine_ok p) p.routines) _ (right_true (declarations_ok p) _ typed)))
body_ok p typed (Some _) _ (in_routine id r older there) =
    ap (λ o. statement_ok p o (routine_body o)) there ∙ (routine_right p typed id r there).body

pub body_keeps : (p : Program) → well_typed p ≡ true → (here : Option RoutineId) (state : State) → IsStart p here state
    → (turns : ℕ) (choices : List Value) (after : State) → (run p turns (begun p here state) (body_of p here) state choices).end ≡ Ended after → HasValues p here after
body_keeps p typed here state start turns choices after ended =
    let q = start.right in
    let left = statement_leaves p typed (begun p here state) q.types q.inside (body_of p here) (body_ok p typed here q.types q.inside) state q.right turns choices after ended in
    has_values p here after (record { types = q.types; inside = q.inside; right = left.right })
