-- What calls do with VAR arguments at parts and in cells, with calls in arguments and indices, and which areas are apart.
use Rattle.std.specs.Prelude.{◌≡◌, ℕ, Bool, true, false, List, [], ◌∷◌, Some, None, pos}
use Rattle.spv_logic.specs.declared.names.names.Symbol.{Symbol}
use Rattle.spv_logic.specs.declared.conditions.Kind.TheVariants as kind
use Rattle.spv_logic.specs.Values.{ArrayOf, no_rows}
use Rattle.spv_program.specs.declared.operators.Arithmetic.TheVariants as arithmetic
use Rattle.spv_program.specs.declared.operators.Comparison.TheVariants as comparison
use Rattle.spv_program.specs.declared.types.Item.{Item}
use Rattle.spv_program.specs.declared.types.Item.TheVariants.{Variable, Class}
use Rattle.spv_program.specs.Expressions.{Read, Calculated, Compared, designator, no_selectors, at_field, call, no_arguments, by_value, by_place}
use Rattle.spv_program.specs.Statements.{Empty, Assign, Perform, If, Assert}
use Rattle.spv_program.specs.Programs.{GlobalItem, Routine, Program}
use Rattle.spv_meaning.specs.declared.faults.Fault.TheVariants as fault
use Rattle.spv_meaning.specs.Places.{Place, IndexStep, FieldStep, ProgramVariable, CellOf, Referring, whole}
use Rattle.spv_meaning.specs.Starts.{apart}
use Rattle.spv_worked.specs.Small.{x, y, a, p, q, f, g, n, t, val, integer, row_of_nine, ref, node, other, program, num, at, read, set, element, content, block, named, equal, note, value_formal, place_formal, routine, z, told, int, state, main_run, ended, stopped, reached}
use Rattle.spv_worked.specs.CellRuns.{node_cell, other_cell, node_with, start}
use Rattle.spv_worked.specs.CallConditions.{fill, inc, inc_of}
use Rattle.spv_worked.specs.PlaceConditions.{passing_on, summing}

-- ---- VAR arguments at parts and in cells

-- fill(q^.val, 5); x := p^.val, where p and q lead to one cell
abbrev pub FillASharedCell : Type 0
FillASharedCell =
    told (x ∷ []) (int p ∷ int n ∷ [])
    (main_run (program ((x, integer) ∷ (p, ref) ∷ (q, ref) ∷ []) (fill ∷ []) None None
    (block (Perform (call (routine 0) 10 (by_place (content q) (by_value (num 5) no_arguments))) ∷ set x (Read (content p)) ∷ []))) 1 (start 1 1) [])
    ≡ ended (5 ∷ []) (reached kind.Entry 4 (10 ∷ 5 ∷ []) ∷ reached kind.Exit 5 (5 ∷ 5 ∷ []) ∷ [])

-- fill(t.val, 5); x := t.val
abbrev pub FillAField : Type 0
FillAField =
    told (x ∷ []) []
    (main_run (program ((x, integer) ∷ (t, node) ∷ []) (fill ∷ []) None None
    (block (Perform (call (routine 0) 10 (by_place (designator 1 t (at_field node val no_selectors)) (by_value (num 5) no_arguments)))
    ∷ set x (Read (designator 1 t (at_field node val no_selectors))) ∷ []))) 1 (state ((x, z 0) ∷ (t, node_with 10) ∷ [])) [])
    ≡ ended (5 ∷ []) (reached kind.Entry 4 [] ∷ reached kind.Exit 5 [] ∷ [])

-- a VAR parameter is given on, and the place is that of x still
abbrev pub PassOn : Type 0
PassOn =
    told (x ∷ []) [] (main_run passing_on 2 (state ((x, z 0) ∷ [])) [])
    ≡ ended (7 ∷ []) (reached kind.Entry 4 [] ∷ reached kind.Exit 5 [] ∷ reached kind.Exit 7 [] ∷ [])

-- PROCEDURE f(VAR p: INTEGER; n: INTEGER); BEGIN IF n = 0 THEN p := 1 ELSE BEGIN f(p, n - 1); p := p + p END END
abbrev pub doubling : Routine
doubling = record {
  name = f;
  line = 3;
  formals = place_formal p integer ∷ value_formal n integer ∷ [];
  result = None;
  globals = [];
  initial = [];
  entry = None;
  exit = None;
  locals = [];
  body = If 4 (Compared comparison.Equal (read n) (num 0)) (set p (num 1))
      (block (Perform (call (routine 0) 4 (by_place (at p) (by_value (Calculated arithmetic.Minus (read n) (num 1)) no_arguments)))
      ∷ set p (Calculated arithmetic.Plus (read p) (read p)) ∷ []));
}

-- f(x, 3): each call's place is that of x
abbrev pub RecursionByPlace : Type 0
RecursionByPlace =
    told (x ∷ []) []
    (main_run (program ((x, integer) ∷ []) (doubling ∷ []) None None (Perform (call (routine 0) 10 (by_place (at x) (by_value (num 3) no_arguments)))))
    4 (state ((x, z 0) ∷ [])) [])
    ≡ ended (8 ∷ []) []

-- ---- calls in arguments and indices

-- x := t(inc(x), g(y)), from left to right, the inner calls first
abbrev pub Summing : Type 0
Summing =
    told (x ∷ []) (int n ∷ []) (main_run summing 1 (state ((x, z 2) ∷ (y, z 5) ∷ [])) (z 0 ∷ z 0 ∷ z 0 ∷ []))
    ≡ ended (7 ∷ []) (reached kind.Exit 4 (2 ∷ []) ∷ reached kind.Exit 5 (5 ∷ []) ∷ reached kind.Exit 6 (3 ∷ []) ∷ [])

-- a[inc(x)] := 8; x := a[3]
abbrev pub writing_at_a_call : Program
writing_at_a_call =
    program ((a, row_of_nine) ∷ (x, integer) ∷ []) (inc ∷ []) None None
    (block (Assign (element a (inc_of (read x))) (num 8) ∷ set x (Read (element a (num 3))) ∷ []))

abbrev pub CallInAnIndex : Type 0
CallInAnIndex =
    told (x ∷ []) (int n ∷ []) (main_run writing_at_a_call 1 (state ((a, ArrayOf (z 0) no_rows) ∷ (x, z 2) ∷ [])) (z 0 ∷ []))
    ≡ ended (8 ∷ []) (reached kind.Exit 4 (2 ∷ []) ∷ [])

-- the index is tested when the call has ended
abbrev pub CallLeadsOut : Type 0
CallLeadsOut =
    told (x ∷ []) (int n ∷ []) (main_run writing_at_a_call 1 (state ((a, ArrayOf (z 0) no_rows) ∷ (x, z 9) ∷ [])) (z 0 ∷ []))
    ≡ stopped fault.Index (reached kind.Exit 4 (9 ∷ []) ∷ [])

-- ---- INITIAL names in a body

-- PROCEDURE f; GLOBAL (VAR x); INITIAL x = g; BEGIN x := 7; ASSERT g = x END
abbrev pub remembering : Routine
remembering = record {
  name = f;
  line = 3;
  formals = [];
  result = None;
  globals = record { item = Variable x; is_var = true; line = 3 } ∷ [];
  initial = (g, Variable x) ∷ [];
  entry = None;
  exit = None;
  locals = [];
  body = block (set x (num 7) ∷ Assert (note 5 (equal (named g) (named x))) ∷ []);
}

-- the name shows what the variable was
abbrev pub InitialNameStays : Type 0
InitialNameStays =
    told (x ∷ []) (int g ∷ int x ∷ []) (main_run (program ((x, integer) ∷ []) (remembering ∷ []) None None (Perform (call (routine 0) 10 no_arguments))) 1 (state ((x, z 3) ∷ [])) [])
    ≡ ended (7 ∷ []) (reached kind.Assert 5 (3 ∷ 7 ∷ []) ∷ [])

-- ---- areas

abbrev shared : List Item → List GlobalItem
shared [] = []
shared (item ∷ others) = record { item = item; is_var = false; line = 3 } ∷ shared others

-- whether what p and q refer to and these items are apart, where the heap has a cell of Node (1) and one of Other (2)
abbrev pub are_apart : Place → Place → List Item → Bool
are_apart at_p at_q items =
    apart
    (Some (record {
      name = f;
      line = 3;
      formals = place_formal p integer ∷ place_formal q integer ∷ [];
      result = None;
      globals = shared items;
      initial = [];
      entry = None;
      exit = None;
      locals = [];
      body = Empty;
    }))
    (record {
      variables = [];
      frames = record { routine = routine 0; names = (p, Referring at_p) ∷ (q, Referring at_q) ∷ [] } ∷ [];
      heap = node_cell 1 10 ∷ other_cell 2 ∷ [];
    })

abbrev variable : Symbol → Place
variable v = whole (ProgramVariable v)

-- a[k]
abbrev one_of_a : ℕ → Place
one_of_a k = record { root = ProgramVariable a; path = IndexStep (pos k) ∷ [] }

-- the val of a cell
abbrev val_of : ℕ → Place
val_of cell = record { root = CellOf cell; path = FieldStep val ∷ [] }

-- two variables, two elements, an element and another variable, the vals of two cells, a place and what is no part of it
abbrev pub Apart : Type 0
Apart =
    (are_apart (variable x) (variable y) [] ≡ true)
    × (are_apart (one_of_a 1) (one_of_a 2) [] ≡ true)
    × (are_apart (one_of_a 1) (variable x) (Variable y ∷ []) ≡ true)
    × (are_apart (val_of 1) (val_of 2) [] ≡ true)
    × (are_apart (val_of 1) (variable x) (Class other ∷ []) ≡ true)

-- one place twice, a part of the other, a variable of the GLOBAL list, a cell whose class is in it, an item twice
abbrev pub NotApart : Type 0
NotApart =
    (are_apart (variable x) (variable x) [] ≡ false)
    × (are_apart (variable a) (one_of_a 2) [] ≡ false)
    × (are_apart (one_of_a 1) (variable x) (Variable a ∷ []) ≡ false)
    × (are_apart (val_of 1) (variable x) (Class node ∷ []) ≡ false)
    × (are_apart (variable x) (variable y) (Class node ∷ Class node ∷ []) ≡ false)
