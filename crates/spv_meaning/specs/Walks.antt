-- What statements do.
use Rattle.std.specs.Prelude.{ℕ, zero, suc, Bool, true, false, not, List, ◌∷◌, Option, Some, None, ℤ, pos, ◌+ℤ◌, ◌-ℤ◌, option_map, is_some, if◌then◌else◌}
use Rattle.std.specs.List.{list_any}
use Rattle.std.specs.Int.RustNames.{int_lt}
use Rattle.std.specs.Ordering.{int_eq}
use Rattle.spv_logic.specs.declared.types.TypeId.{TypeId}
use Rattle.spv_logic.specs.declared.types.Sort.TheVariants as sort
use Rattle.spv_logic.specs.declared.conditions.Kind.TheVariants as kind
use Rattle.spv_logic.specs.Values.{Value, Number, number_of, truth_of, pointer_of}
use Rattle.spv_program.specs.declared.operators.Direction.{Direction}
use Rattle.spv_program.specs.declared.operators.Direction.TheVariants.{Up, Down}
use Rattle.spv_program.specs.Types.{sort_of, takes_value}
use Rattle.spv_program.specs.Expressions.{Call, call}
use Rattle.spv_program.specs.Formulas.{Annotation}
use Rattle.spv_program.specs.Statements.{Statement, Arms, Empty, Assign, Perform, New, Sequence, If, Case, While, Repeat, For, Assert, no_arms, arm}
use Rattle.spv_program.specs.Programs.{Program, shapes, routine_at, routine_in}
use Rattle.spv_program.specs.Scopes.{name_type}
use Rattle.spv_meaning.specs.declared.faults.Fault.TheVariants as fault
use Rattle.spv_meaning.specs.Places.{Place, HeapRow, State, row_of, put}
use Rattle.spv_meaning.specs.Views.{place_of}
use Rattle.spv_meaning.specs.Outcomes.{Outcome, ends, stops, and_then, meets, stops_unless, take_choice}
use Rattle.spv_meaning.specs.Levels.{Here, Run, Loop, Level, with_turn, reached_in_body, pop, enter}
use Rattle.spv_meaning.specs.Evaluation.{Fixed, evaluate, fix, arguments, formals_of}

-- ---- assignments

-- a fixed place takes a value that is in its subrange
abbrev pub assign : Program → Fixed → Value → State → List Value → Outcome State
assign p fixed v state rest = stops_unless (takes_value p.forms fixed.type v) fault.Range (put state fixed.place v) rest

-- ---- NEW

-- a positive number that is no cell yet
abbrev pub is_new : List HeapRow → ℕ → Bool
is_new heap zero = false
is_new heap (suc n) = not (is_some (row_of heap (suc n)))

abbrev pub with_new_cell : ℕ → TypeId → Value → State → State
with_new_cell cell t v state = record state { heap = record { cell = cell; type = t; content = v } ∷ state.heap }

-- a new cell with any content, and the fixed place points to it
abbrev pub create : Program → TypeId → Fixed → List Value → Outcome State
create p t fixed choices =
    and_then (take_choice (shapes p) (sort.Ptr t) choices) (λ pointer rest.
    and_then (stops_unless (is_new fixed.state.heap (pointer_of pointer)) fault.Choice pointer rest) (λ cell more.
    and_then (take_choice (shapes p) (sort_of p.forms t) more) (λ v last.
    ends (put (with_new_cell (pointer_of cell) t v fixed.state) fixed.place cell) last)))

-- ---- annotations

-- an annotation of a body is reached, in a state that may show something else than the one the run goes on with
abbrev pub reaches : Program → Here → Option Annotation → State → State → List Value → Outcome State
reaches p here annotation showing state rest = meets (option_map (reached_in_body p here kind.Invariant showing) annotation) state rest

-- ---- FOR

abbrev pub is_past : Direction → ℤ → ℤ → Bool
is_past Up end candidate = int_lt end candidate
is_past Down end candidate = int_lt candidate end

abbrev pub next_candidate : Direction → ℤ → ℤ
next_candidate Up candidate = candidate +ℤ pos 1
next_candidate Down candidate = candidate -ℤ pos 1

abbrev pub counter_place : Here → Loop → State → Place
counter_place here loop state = place_of here.routine state loop.count.variable

-- whether a FOR's variable takes a candidate
abbrev pub counter_takes : Program → Here → Loop → ℤ → Bool
counter_takes p here loop candidate = takes (name_type p (routine_in p here.routine) loop.count.variable)
  where
    takes : Option TypeId → Bool
    takes None = true
    takes (Some t) = takes_value p.forms t (Number candidate)

-- a FOR from a candidate on: the INVARIANT is met with the variable read as the candidate, which then is compared with
-- the end; past the end the variable takes any value
abbrev pub count_on : Program → Option Level → Here → Loop → ℤ → ℤ → Run
count_on p below here loop end candidate state choices =
    with_turn below choices (λ level.
    and_then (reaches p here loop.invariant (put state (counter_place here loop state) (Number candidate)) state choices) (λ now rest.
    let finish = and_then (take_choice (shapes p) sort.Int rest) (λ v last. ends (put now (counter_place here loop now) v) last) in
    let turn = and_then (stops_unless (counter_takes p here loop candidate)
    fault.Range (put now (counter_place here loop now) (Number candidate)) rest) (λ set more.
    and_then (level.run here loop.body set more)
    (λ after last. level.next here loop end (next_candidate loop.count.direction candidate) after last)) in
    if is_past loop.count.direction end candidate then finish else turn))

-- ---- statements

-- a procedure's call
abbrev pub perform : Program → Option Level → Here → Call → Run
perform p below here (call r line given) state choices =
    with_turn below choices (λ level.
    and_then (arguments p below here (formals_of (routine_at p r)) given state choices) (λ bound rest.
    and_then (enter p level r (routine_at p r) bound rest) (λ after last. ends (pop after) last)))

abbrev mutual
  -- a statement, where `below` is what there is with one turn less
  pub walk : Program → Option Level → Here → Statement → Run
  walk p below here Empty state choices = ends state choices
  walk p below here (Assign d e) state choices =
      and_then (fix p below here d state choices) (λ fixed rest.
      and_then (evaluate p below here e fixed.state rest) (λ got last. assign p fixed got.value got.state last))
  walk p below here (Perform c) state choices = perform p below here c state choices
  walk p below here (New line d t) state choices =
      and_then (fix p below here d state choices) (λ fixed rest. create p t fixed rest)
  walk p below here (Sequence a b) state choices =
      and_then (walk p below here a state choices) (λ after rest. walk p below here b after rest)
  walk p below here (If line e a b) state choices =
      and_then (evaluate p below here e state choices) (λ got rest.
      let first = walk p below here a got.state rest in
      let second = walk p below here b got.state rest in
      if truth_of got.value then first else second)
  walk p below here (Case line e arms) state choices =
      and_then (evaluate p below here e state choices) (λ got rest. walk_arms p below here (number_of got.value) arms got.state rest)
  walk p below here (While line f e s) state choices =
      with_turn below choices (λ level.
      and_then (reaches p here f state state choices) (λ now rest.
      and_then (evaluate p below here e now rest) (λ got more.
      let again = and_then (level.run here s got.state more) (λ after last. level.run here (While line f e s) after last) in
      if truth_of got.value then again else ends got.state more)))
  walk p below here (Repeat line f s e) state choices =
      with_turn below choices (λ level.
      and_then (reaches p here f state state choices) (λ now rest.
      and_then (level.run here s now rest) (λ after more.
      and_then (evaluate p below here e after more) (λ got last.
      let again = level.run here (Repeat line f s e) got.state last in
      if truth_of got.value then ends got.state last else again))))
  walk p below here (For line f count s) state choices =
      and_then (evaluate p below here count.first state choices) (λ first rest.
      and_then (evaluate p below here count.last first.state rest) (λ end more.
      count_on p below here (record { invariant = f; count = count; body = s }) (number_of end.value) (number_of first.value) end.state more))
  walk p below here (Assert a) state choices = meets (Some (reached_in_body p here kind.Assert state a)) state choices

  -- the arm with this label; a value without a label stops
  pub walk_arms : Program → Option Level → Here → ℤ → Arms → Run
  walk_arms p below here z no_arms state choices = stops fault.Case choices
  walk_arms p below here z (arm labels s others) state choices =
      let chosen = walk p below here s state choices in
      let later = walk_arms p below here z others state choices in
      if list_any (int_eq z) labels then chosen else later

-- ---- levels

abbrev pub level_over : Program → Option Level → Level
level_over p below = record { run = walk p below; next = count_on p below }

-- what there is with so many turns
abbrev pub level : Program → ℕ → Level
level p zero = level_over p None
level p (suc n) = level_over p (Some (level p n))

-- the run of a statement with so many turns and these choices
abbrev pub run : Program → ℕ → Here → Statement → Run
run p turns here s = (level p turns).run here s
