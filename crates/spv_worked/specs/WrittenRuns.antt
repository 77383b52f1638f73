-- What runs with calls write.
use Rattle.std.specs.Prelude.{◌≡◌, true, false, List, [], ◌∷◌, Some, None, pos}
use Rattle.spv_logic.specs.declared.operators.Head.TheVariants as head
use Rattle.spv_logic.specs.Values.{Pointer, ArrayOf, no_rows, row}
use Rattle.spv_logic.specs.Terms.{worth}
use Rattle.spv_logic.specs.Conditions.{Meaning, Valuation}
use Rattle.spv_program.specs.declared.operators.Arithmetic.TheVariants as arithmetic
use Rattle.spv_program.specs.declared.operators.Comparison.TheVariants as comparison
use Rattle.spv_program.specs.declared.types.Item.TheVariants.{Class}
use Rattle.spv_program.specs.Expressions.{Result, Calculated, Compared, call, no_arguments, by_value, by_place}
use Rattle.spv_program.specs.Statements.{Empty, Assign, Perform, New, If}
use Rattle.spv_program.specs.Programs.{Routine, Program, shapes}
use Rattle.spv_program.specs.Changes.{changed_roots}
use Rattle.spv_meaning.specs.Places.{Place, State, ProgramVariable, IndexStep, whole, with_part, look}
use Rattle.spv_meaning.specs.Views.{class_of, entry_view}
use Rattle.spv_meaning.specs.Outcomes.{Ended}
use Rattle.spv_meaning.specs.Evaluation.{evaluate}
use Rattle.spv_meaning.specs.Starts.{Area, At, CellsOf}
use Rattle.spv_writes.specs.Writes.{Writes, is_touched, is_touched_below}
use Rattle.spv_frame_law.specs.Frames.{areas_of}
use Rattle.spv_frame_law.specs.Laws.{below_turns}
use Rattle.spv_worked.specs.Small.{x, i, a, p, q, f, n, integer, row_of_nine, ref, node, program, num, at, read, set, element, content, block, value_formal, place_formal, routine, z, state, with_cells, main_run}
use Rattle.spv_worked.specs.CallRuns.{fill, twice}
use Rattle.spv_worked.specs.CellRuns.{node_cell, node_with}

-- what the main block may change, as areas
abbrev pub may_change : Program → List Area
may_change prog = areas_of [] (changed_roots prog None prog.main.body)

-- ---- a VAR place inside the caller's array

-- fill(a[i], 5), where fill sets i to 2 before it sets its VAR parameter
abbrev pub filling_once : Program
filling_once =
    program ((i, integer) ∷ (a, row_of_nine) ∷ (x, integer) ∷ []) (fill ∷ []) None None
    (Perform (call (routine 0) 10 (by_place (element a (read i)) (by_value (num 5) no_arguments))))

abbrev pub unfilled : State
unfilled = state ((i, z 1) ∷ (a, ArrayOf (z 0) no_rows) ∷ (x, z 3) ∷ [])

abbrev pub filled : State
filled = state ((i, z 2) ∷ (a, ArrayOf (z 0) (row (pos 1) (z 5) no_rows)) ∷ (x, z 3) ∷ [])

-- a[1]
abbrev pub first_of_a : Place
first_of_a = record { root = ProgramVariable a; path = IndexStep (pos 1) ∷ [] }

-- the run ends with i and a[1] changed
abbrev pub FillingEnds : Type 0
FillingEnds = (main_run filling_once 1 unfilled []).end ≡ Ended filled

-- what it may change are a and i; that is not x
abbrev pub FillingMayChange : Type 0
FillingMayChange = may_change filling_once ≡ At (whole (ProgramVariable a)) ∷ At (whole (ProgramVariable i)) ∷ []

abbrev pub FillingMayNotTouch : Type 0
FillingMayNotTouch = is_touched [] (may_change filling_once) (At (whole (ProgramVariable x))) ≡ false

-- the call writes in i and in a[1] alone
abbrev pub FillingWrites : Type 0
FillingWrites = Writes filling_once (At first_of_a ∷ At (whole (ProgramVariable i)) ∷ []) unfilled filled

-- so a afterwards is the old a with another a[1]
abbrev pub FillingIsBelowA : Type 0
FillingIsBelowA = is_touched_below [] (At first_of_a ∷ At (whole (ProgramVariable i)) ∷ []) (whole (ProgramVariable a)) (IndexStep (pos 1) ∷ []) ≡ true

abbrev pub FillingChangesOnePart : Type 0
FillingChangesOnePart = look filled (whole (ProgramVariable a)) ≡ Some (with_part (ArrayOf (z 0) no_rows) (IndexStep (pos 1) ∷ []) (z 5))

-- ---- NEW in a callee

-- PROCEDURE f(VAR p: ^Node); GLOBAL (VAR #Node); BEGIN NEW(p); p^.val := 7 END
abbrev pub make : Routine
make = record {
  name = f;
  line = 3;
  formals = place_formal p ref ∷ [];
  result = None;
  globals = record { item = Class node; is_var = true; line = 4 } ∷ [];
  initial = [];
  entry = None;
  exit = None;
  locals = [];
  body = block (New 6 (at p) node ∷ Assign (content p) (num 7) ∷ []);
}

-- f(q)
abbrev pub making : Program
making =
    program ((q, ref) ∷ (x, integer) ∷ []) (make ∷ []) None None
    (Perform (call (routine 0) 10 (by_place (at q) no_arguments)))

abbrev pub unmade : State
unmade = with_cells (node_cell 1 10 ∷ []) (state ((q, Pointer 1) ∷ (x, z 3) ∷ []))

abbrev pub made : State
made = with_cells (node_cell 3 7 ∷ node_cell 1 10 ∷ []) (state ((q, Pointer 3) ∷ (x, z 3) ∷ []))

-- the run ends with a new cell in front, and q leads to it
abbrev pub MakingEnds : Type 0
MakingEnds = (main_run making 1 unmade (Pointer 3 ∷ node_with 30 ∷ [])).end ≡ Ended made

-- what it may change are q and the cells of Node
abbrev pub MakingMayChange : Type 0
MakingMayChange = may_change making ≡ At (whole (ProgramVariable q)) ∷ CellsOf node ∷ []

abbrev pub MakingWrites : Type 0
MakingWrites = Writes making (At (whole (ProgramVariable q)) ∷ CellsOf node ∷ []) unmade made

-- the class is the old one, extended by the new cell
abbrev pub MakingExtends : Type 0
MakingExtends =
    (symbols : Meaning) (v : Valuation)
    → class_of (shapes making) made.heap node ≡ worth symbols v head.Extend (class_of (shapes making) unmade.heap node ∷ Pointer 3 ∷ node_with 7 ∷ [])

-- ---- a recursion that passes its VAR parameter on

-- PROCEDURE f(VAR p: INTEGER; n: INTEGER); BEGIN IF n > 0 THEN BEGIN p := p + n; f(p, n - 1) END END
abbrev pub add : Routine
add = record {
  name = f;
  line = 3;
  formals = place_formal p integer ∷ value_formal n integer ∷ [];
  result = None;
  globals = [];
  initial = [];
  entry = None;
  exit = None;
  locals = [];
  body = If 6 (Compared comparison.Greater (read n) (num 0))
      (block (set p (Calculated arithmetic.Plus (read p) (read n))
      ∷ Perform (call (routine 0) 7 (by_place (at p) (by_value (Calculated arithmetic.Minus (read n) (num 1)) no_arguments))) ∷ []))
      Empty;
}

-- f(a[2], 2)
abbrev pub adding : Program
adding =
    program ((a, row_of_nine) ∷ (x, integer) ∷ []) (add ∷ []) None None
    (Perform (call (routine 0) 10 (by_place (element a (num 2)) (by_value (num 2) no_arguments))))

abbrev pub unadded : State
unadded = state ((a, ArrayOf (z 4) no_rows) ∷ (x, z 3) ∷ [])

abbrev pub added : State
added = state ((a, ArrayOf (z 4) (row (pos 2) (z 7) no_rows)) ∷ (x, z 3) ∷ [])

-- three calls deep, with n = 2, 1, 0
abbrev pub AddingEnds : Type 0
AddingEnds = (main_run adding 3 unadded []).end ≡ Ended added

abbrev pub AddingMayChange : Type 0
AddingMayChange = may_change adding ≡ At (whole (ProgramVariable a)) ∷ []

-- all calls write in a[2] alone
abbrev pub AddingWrites : Type 0
AddingWrites = Writes adding (At (record { root = ProgramVariable a; path = IndexStep (pos 2) ∷ [] }) ∷ []) unadded added

-- ---- functions

-- inc(inc(x)) leaves the state as it was
abbrev pub FunctionsLeaveTheState : Type 0
FunctionsLeaveTheState =
    (evaluate twice (below_turns twice 2) (record { routine = None; entry = entry_view twice None (state ((x, z 4) ∷ [])) })
    (Result (call (routine 0) 10 (by_value (Result (call (routine 0) 10 (by_value (read x) no_arguments))) no_arguments))) (state ((x, z 4) ∷ []))
    (z 88 ∷ z 99 ∷ [])).end
    ≡ Ended (record { value = z 6; state = state ((x, z 4) ∷ []) })
