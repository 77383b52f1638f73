-- Programs that are well typed and whose routines share rightly: those of the other examples, and the one that others are
-- changed from.
use Rattle.std.specs.Prelude.{true, false, ◌&&◌, List, [], ◌∷◌, Some, None, IsTrue}
use Rattle.std.specs.List.{list_all}
use Rattle.spv_logic.specs.declared.names.names.Symbol.{Symbol}
use Rattle.spv_logic.specs.declared.types.TypeId.{TypeId}
use Rattle.spv_program.specs.declared.operators.Comparison.TheVariants as comparison
use Rattle.spv_program.specs.declared.operators.Connective.TheVariants as connective
use Rattle.spv_program.specs.declared.types.Item.{Item}
use Rattle.spv_program.specs.declared.types.Item.TheVariants.{Variable, Class}
use Rattle.spv_program.specs.Expressions.{Expression, Designator, Call, Result, Through, Compared, NilOf, no_selectors, at_field, call, no_arguments, by_value, by_place}
use Rattle.spv_program.specs.Statements.{Statement, Empty, Assign, Perform, Assert}
use Rattle.spv_program.specs.Programs.{GlobalItem, Routine, Program}
use Rattle.spv_program.specs.Typing.{well_typed}
use Rattle.spv_program.specs.Frames.{framed}
use Rattle.spv_worked.specs.Small.{x, y, i, b, a, p, q, f, g, n, t, val, p0, integer, boolean, three, nine, row_of_nine, ref, node, other_ref, program, num, at, read, set, content, block, named, number, equal, note, value_formal, place_formal, routine}
use Rattle.spv_worked.specs.FaultRuns as faults
use Rattle.spv_worked.specs.LoopRuns as loops
use Rattle.spv_worked.specs.CallRuns as calls
use Rattle.spv_worked.specs.CellRuns as cells
use Rattle.spv_worked.specs.StatementConditions as statements
use Rattle.spv_worked.specs.CallConditions as conditions
use Rattle.spv_worked.specs.Doubts as doubts

-- VAR x: INTEGER; y: 1..9; i: 1..3; b: BOOLEAN; a: ARRAY [1..9] OF INTEGER; p: ^Node; q: ^Other; t: Node
abbrev pub variables : List (Symbol × TypeId)
variables =
    (x, integer) ∷ (y, nine) ∷ (i, three) ∷ (b, boolean) ∷ (a, row_of_nine) ∷ (p, ref) ∷ (q, other_ref) ∷ (t, node) ∷ []

abbrev pub plain_item : Item → GlobalItem
plain_item item = record { item = item; is_var = false; line = 1 }

abbrev pub var_item : Item → GlobalItem
var_item item = record { item = item; is_var = true; line = 1 }

-- a procedure that does nothing
abbrev pub nothing : Routine
nothing = record {
  name = f;
  line = 1;
  formals = [];
  result = None;
  globals = [];
  initial = [];
  entry = None;
  exit = None;
  locals = [];
  body = Empty;
}

-- PROCEDURE f(VAR n: INTEGER; x: INTEGER); GLOBAL (VAR b, #Node; p); INITIAL n = p0; ENTRY x = n; EXIT n = p0; VAR i: 1..3;
-- BEGIN n := x; b := p = NIL; p^.val := i END
abbrev pub sharing : Routine
sharing = record {
  name = f;
  line = 1;
  formals = place_formal n integer ∷ value_formal x integer ∷ [];
  result = None;
  globals = var_item (Variable b) ∷ var_item (Class node) ∷ plain_item (Variable p) ∷ [];
  initial = (p0, Variable n) ∷ [];
  entry = Some (note 1 (equal (named x) (named n)));
  exit = Some (note 1 (equal (named n) (named p0)));
  locals = (i, three) ∷ [];
  body = block (set n (read x) ∷ set b (Compared comparison.Equal (read p) (NilOf node)) ∷ Assign (content p) (read i) ∷ []);
}

-- FUNCTION g(n: INTEGER): ^Node; GLOBAL (p); BEGIN g := p END
abbrev pub pointing : Routine
pointing = record {
  name = g;
  line = 1;
  formals = value_formal n integer ∷ [];
  result = Some ref;
  globals = plain_item (Variable p) ∷ [];
  initial = [];
  entry = None;
  exit = Some (note 1 (equal (named g) (named p)));
  locals = [];
  body = set g (read p);
}

-- over the variables, with a procedure and a function
abbrev pub over : Routine → Routine → Statement → Program
over one two s = program variables (one ∷ two ∷ []) None None s

abbrev pub with_main : Statement → Program
with_main s = over sharing pointing s

abbrev pub sharing_call : Designator → Expression → Statement
sharing_call d e = Perform (call (routine 0) 1 (by_place d (by_value e no_arguments)))

abbrev pub pointing_call : Expression → Call
pointing_call e = call (routine 1) 1 (by_value e no_arguments)

-- f(x, 1); x := g(2)^.val; p := g(3)
abbrev pub shared : Program
shared = with_main
    (block (sharing_call (at x) (num 1) ∷ set x (Through (pointing_call (num 2)) 1 node (at_field node val no_selectors))
    ∷ set p (Result (pointing_call (num 3))) ∷ []))

-- the programs whose runs are worked out
abbrev pub run_programs : List Program
run_programs =
    loops.no_turn ∷ loops.counting_up 1 3 ∷ loops.counting_up 3 5 ∷ loops.counting_down ∷ loops.ends_once
    ∷ loops.ends_first ∷ loops.once ∷ loops.upward ∷ loops.test_by_zero ∷ loops.choosing
    ∷ faults.with_body (set b (faults.both_sides connective.And)) ∷ faults.with_body (set i (num 4))
    ∷ faults.with_body (faults.branching (read b))
    ∷ program [] (faults.procedure ∷ []) None None Empty
    ∷ calls.swapping ∷ calls.filling ∷ calls.twice ∷ calls.factorial ∷ calls.changing ∷ calls.descending
    ∷ cells.with_body (Assign (content p) (num 1)) ∷ cells.creating ∷ []

-- and those whose conditions are
abbrev pub condition_programs : List Program
condition_programs =
    statements.nested ∷ statements.cases
    ∷ statements.forever (Assert (note 5 (equal (named x) (number 0)))) ∷ statements.repeating
    ∷ statements.counting ∷ statements.counting_down ∷ statements.elements ∷ statements.shared ∷ statements.creating
    ∷ conditions.swapping ∷ conditions.filling ∷ conditions.stepping ∷ conditions.factorial
    ∷ conditions.twice ∷ conditions.in_a_test
    ∷ doubts.wrong ∷ doubts.about_fact ∷ []

-- all of these programs are well typed, and their routines share rightly
abbrev pub AreRight : List Program → Type 0
AreRight programs = IsTrue (list_all (λ r. well_typed r && framed r) programs)
