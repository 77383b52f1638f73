-- What a run writes, calls and returns from keeps every frame that it pushed a start.
use Rattle.std.proofs.Common.{◌≡◌, List, [], ◌∷◌, refl, sym, subst, Option, Some}
use Rattle.spv_logic.specs.declared.conditions.RoutineId.{RoutineId}
use Rattle.spv_program.specs.Programs.{Program, routine_in}
use Rattle.spv_preservation.proofs.Expressions.{is_callee}
use Rattle.spv_meaning.specs.Places.{State}
use Rattle.spv_meaning.specs.Levels.{Here, pop}
use Rattle.spv_meaning.specs.Starts.{IsStart}
use Rattle.spv_writes.specs.Writes.{without_frame}
use Rattle.spv_writes.proofs.Popped.{frames_below, popped}
use Rattle.spv_frame_law.proofs.Levels.{statement_writes, arguments_bound, called_writes}
use Rattle.spv_frame_law.proofs.Starts.{start_stays}
use Rattle.spv_frame_law.proofs.Callees.{call_begins}
use Rattle.spv_frame_law.specs.Stacks.{AllStart, running, WritingKeepsAll, StatementsKeepAll, CallsPushOne, CallsPopOne}

pub writing_keeps : WritingKeepsAll
writing_keeps p first [] state all areas after w = start_stays p first state all areas after w
writing_keeps p first (id ∷ calls) state all areas after w = (
  start_stays p (Some id) state all.0 areas after w,
  writing_keeps p first calls (pop state) all.1 (without_frame (frames_below state) areas) (pop after) (popped p areas (frames_below state) state after w refl),
)

runs_there : (p : Program) (first : Option RoutineId) (calls : List RoutineId) (state : State) → AllStart p first calls state → IsStart p (running first calls) state
runs_there p first [] state all = all
runs_there p first (id ∷ calls) state all = all.0

-- the routine that runs may start where its run stands
starts_here : (p : Program) (first : Option RoutineId) (calls : List RoutineId) (here : Here) → here.routine ≡ running first calls → (state : State) → AllStart p first calls state → IsStart p here.routine state
starts_here p first calls here e state all = subst (λ (r : Option RoutineId). IsStart p r state) (sym e) (runs_there p first calls state all)

pub statements_keep : StatementsKeepAll
statements_keep p f first calls here e s ok state all turns choices after ended =
    let right = (starts_here p first calls here e state all).right in
    writing_keeps p first calls state all _ after (statement_writes p f here right.types right.inside s ok state right.right turns choices after ended)

pub calls_push : CallsPushOne
calls_push p f first calls here e state all id line given q called apart shown turns choices bound given_bound others own chosen =
    let start = starts_here p first calls here e state all in
    let right = start.right in (
      call_begins p f here state start id line given q called apart shown turns choices bound given_bound others own chosen,
      subst (AllStart p first calls) (sym (arguments_bound p f here right.types right.inside q.formals given (is_callee p (routine_in p here.routine) id line given q called).fit state right.right turns choices bound given_bound).same) all,
    )

pub calls_pop : CallsPopOne
calls_pop p f first calls bound all id q there types right names turns choices after ended =
    writing_keeps p first calls bound.state all _ (pop after) (called_writes p f id q there types bound right names turns choices after ended)
