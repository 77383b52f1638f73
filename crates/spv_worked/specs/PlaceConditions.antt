-- The conditions of calls with VAR arguments at parts and in cells, of calls in indices and arguments, of classes in GLOBAL lists, and of
-- NEW for a part.
use Rattle.std.specs.Prelude.{ℕ, true, List, [], ◌∷◌, ◌++◌, Option, Some, None}
use Rattle.spv_logic.specs.declared.names.names.Symbol.{Symbol}
use Rattle.spv_logic.specs.declared.types.TypeId.{TypeId}
use Rattle.spv_logic.specs.declared.conditions.Kind.TheVariants as kind
use Rattle.spv_logic.specs.declared.conditions.RoutineId.{RoutineId}
use Rattle.spv_logic.specs.declared.types.Sort.TheVariants as sort
use Rattle.spv_logic.specs.declared.operators.Head.TheVariants as head
use Rattle.spv_logic.specs.Terms.{Term}
use Rattle.spv_program.specs.declared.operators.Arithmetic.{Arithmetic}
use Rattle.spv_program.specs.declared.operators.Arithmetic.TheVariants as arithmetic
use Rattle.spv_program.specs.declared.operators.Comparison.TheVariants as comparison
use Rattle.spv_program.specs.declared.types.TypeForm.TheVariants as form
use Rattle.spv_program.specs.declared.types.Item.TheVariants.{Variable, Class}
use Rattle.spv_program.specs.Expressions.{Expression, Result, Calculated, designator, no_selectors, at_index, at_field, at_cell, call, no_arguments, by_value, by_place}
use Rattle.spv_program.specs.Formulas as formula
use Rattle.spv_program.specs.Statements.{Empty, Assign, Perform, New, While}
use Rattle.spv_program.specs.Programs.{Formal, Routine, Program}
use Rattle.spv_program.specs.Terms.{alone, unary, binary, ternary}
use Rattle.spv_worked.specs.Small.{x, y, i, b, a, p, q, f, g, n, t, val, Node, Fact, integer, boolean, nine, row_of_nine, ref, node, program, forms, name, type, num, at, read, set, element, content, named, number, equal, note, value_formal, place_formal, routine}
use Rattle.spv_worked.specs.Terms.{X, N, fresh, of, eq, at_most, plus, minus, no, cells, NIL, condition}
use Rattle.spv_worked.specs.StatementConditions.{Are, A, Q, with_val}
use Rattle.spv_worked.specs.CallConditions.{first, fill, inc, inc_of}

abbrev second : Option RoutineId
second = Some (routine 1)

-- the conditions of fill itself
abbrev fill_stands : Term
fill_stands = eq (X n) (X n)

-- ---- VAR arguments at parts and in cells

-- EXIT q^.val = 5; fill(q^.val, 5)
abbrev pub filling_a_cell : Program
filling_a_cell =
    program ((q, ref) ∷ []) (fill ∷ []) None (Some (note 8 (equal (formula.FieldOf (formula.Content 8 node (named q)) val) (number 5))))
    (Perform (call (routine 0) 9 (by_place (content q) (by_value (num 5) no_arguments))))

-- the class has P@1 in the field of the cell that q leads to, whatever else leads there
abbrev pub FillACell : Type 0
FillACell = Are filling_a_cell
    (condition first kind.Exit 5 (at_most (N 0) (X n) ∷ []) fill_stands
    ∷ condition None kind.Entry 9 [] (at_most (N 0) (N 5))
    ∷ condition None kind.Exit 8 (eq (fresh p 1) (N 5) ∷ []) (eq (unary (head.Field val) (binary head.Cell (with_val cells Q (fresh p 1)) Q)) (N 5)) ∷ [])

-- EXIT t.val = 5; fill(t.val, 5)
abbrev pub filling_a_field : Program
filling_a_field =
    program ((t, node) ∷ []) (fill ∷ []) None (Some (note 8 (equal (formula.FieldOf (named t) val) (number 5))))
    (Perform (call (routine 0) 9 (by_place (designator 1 t (at_field node val no_selectors)) (by_value (num 5) no_arguments))))

abbrev T : Term
T = of (sort.Whole node) t 0

abbrev pub FillAField : Type 0
FillAField = Are filling_a_field
    (condition first kind.Exit 5 (at_most (N 0) (X n) ∷ []) fill_stands
    ∷ condition None kind.Entry 9 [] (at_most (N 0) (N 5))
    ∷ condition None kind.Exit 8 (eq (fresh p 1) (N 5) ∷ []) (eq (unary (head.Field val) (binary (head.Put val) T (fresh p 1))) (N 5)) ∷ [])

-- as fill, without ENTRY, and with i in a VAR group
abbrev pub fill_and_move : Routine
fill_and_move = record {
  name = f;
  line = 3;
  formals = place_formal p integer ∷ value_formal n integer ∷ [];
  result = None;
  globals = record { item = Variable i; is_var = true; line = 3 } ∷ [];
  initial = [];
  entry = None;
  exit = Some (note 5 (equal (named p) (named n)));
  locals = [];
  body = set p (read n);
}

-- EXIT a[i] = 5; f(a[i], 5)
abbrev pub filling_and_moving : Program
filling_and_moving =
    program ((a, row_of_nine) ∷ (i, integer) ∷ []) (fill_and_move ∷ []) None (Some (note 8 (equal (formula.Element (named a) (named i)) (number 5))))
    (Perform (call (routine 0) 9 (by_place (element a (read i)) (by_value (num 5) no_arguments))))

-- the place is that of the old i, and EXIT of the main block speaks of the new one
abbrev pub FillAndMove : Type 0
FillAndMove = Are filling_and_moving
    (condition first kind.Exit 5 [] fill_stands
    ∷ condition None kind.Exit 8 (eq (fresh p 1) (N 5) ∷ []) (eq (binary head.Select (ternary head.Store A (X i) (fresh p 1)) (fresh i 1)) (N 5)) ∷ [])

-- PROCEDURE g(VAR q: INTEGER); EXIT q = 7; BEGIN fill(q, 7) END
abbrev pub fill_on : Routine
fill_on = record {
  name = g;
  line = 6;
  formals = place_formal q integer ∷ [];
  result = None;
  globals = [];
  initial = [];
  entry = None;
  exit = Some (note 7 (equal (named q) (number 7)));
  locals = [];
  body = Perform (call (routine 0) 8 (by_place (at q) (by_value (num 7) no_arguments)));
}

-- EXIT x = 7; g(x)
abbrev pub passing_on : Program
passing_on =
    program ((x, integer) ∷ []) (fill ∷ fill_on ∷ []) None (Some (note 9 (equal (named x) (number 7))))
    (Perform (call (routine 1) 10 (by_place (at x) no_arguments)))

-- a VAR parameter is given on
abbrev pub PassOn : Type 0
PassOn = Are passing_on
    (condition first kind.Exit 5 (at_most (N 0) (X n) ∷ []) fill_stands
    ∷ condition second kind.Entry 8 [] (at_most (N 0) (N 7))
    ∷ condition second kind.Exit 7 (eq (fresh p 1) (N 7) ∷ []) (eq (fresh p 1) (N 7))
    ∷ condition None kind.Exit 9 (eq (fresh q 1) (N 7) ∷ []) (eq (fresh q 1) (N 7)) ∷ [])

-- ---- calls in arguments and indices

-- FUNCTION name(formals): INTEGER; EXIT name = s o u; BEGIN name := s o u END
abbrev calculating : Symbol → ℕ → List Formal → Arithmetic → Symbol → formula.Formula → Expression → Routine
calculating name line formals o s u e = record {
  name = name;
  line = line;
  formals = formals;
  result = Some integer;
  globals = [];
  initial = [];
  entry = None;
  exit = Some (note line (equal (named name) (formula.Calculated o (named s) u)));
  locals = [];
  body = set name (Calculated o (read s) e);
}

-- FUNCTION g(n): EXIT g = n - 1, and FUNCTION t(n, i): EXIT t = n + i
abbrev pub dec : Routine
dec = calculating g 5 (value_formal n integer ∷ []) arithmetic.Minus n (number 1) (num 1)

abbrev pub sum : Routine
sum = calculating t 6 (value_formal n integer ∷ value_formal i integer ∷ []) arithmetic.Plus n (named i) (read i)

-- EXIT x = 5; x := t(inc(x), g(y))
abbrev pub summing : Program
summing =
    program ((x, integer) ∷ (y, integer) ∷ []) (inc ∷ dec ∷ sum ∷ []) None (Some (note 9 (equal (named x) (number 5))))
    (set x (Result (call (routine 2) 10 (by_value (inc_of (read x)) (by_value (Result (call (routine 1) 10 (by_value (read y) no_arguments))) no_arguments)))))

-- the calls in the arguments come first, from left to right
abbrev pub Summing : Type 0
Summing = Are summing
    (condition first kind.Exit 4 [] (eq (plus (X n) (N 1)) (plus (X n) (N 1)))
    ∷ condition second kind.Exit 5 [] (eq (minus (X n) (N 1)) (minus (X n) (N 1)))
    ∷ condition (Some (routine 2)) kind.Exit 6 [] (eq (plus (X n) (X i)) (plus (X n) (X i)))
    ∷ condition None kind.Exit 9
    (eq (fresh f 1) (plus (X x) (N 1)) ∷ eq (fresh g 1) (minus (X y) (N 1)) ∷ eq (fresh t 1) (plus (fresh f 1) (fresh g 1)) ∷ [])
    (eq (fresh t 1) (N 5)) ∷ [])

-- EXIT a[1] = 3; a[inc(x)] := 3
abbrev pub calling_in_an_index : Program
calling_in_an_index =
    program ((a, row_of_nine) ∷ (x, integer) ∷ []) (inc ∷ []) None (Some (note 7 (equal (formula.Element (named a) (number 1)) (number 3))))
    (Assign (element a (inc_of (read x))) (num 3))

abbrev pub CallInAnIndex : Type 0
CallInAnIndex = Are calling_in_an_index
    (condition first kind.Exit 4 [] (eq (plus (X n) (N 1)) (plus (X n) (N 1)))
    ∷ condition None kind.Exit 7 (eq (fresh f 1) (plus (X x) (N 1)) ∷ []) (eq (binary head.Select (ternary head.Store A (fresh f 1) (N 3)) (N 1)) (N 3)) ∷ [])

-- ---- classes, and items in loops

-- PROCEDURE f; GLOBAL (VAR #Node); INITIAL #Node = g; EXIT Fact(g, #Node); BEGIN END
abbrev pub remake : Routine
remake = record {
  name = f;
  line = 3;
  formals = [];
  result = None;
  globals = record { item = Class node; is_var = true; line = 3 } ∷ [];
  initial = (g, Class node) ∷ [];
  entry = None;
  exit = Some (note 4 (formula.Applied Fact (formula.formulas (named g) (formula.formulas (formula.ClassOf 4 node) formula.no_formulas))));
  locals = [];
  body = Empty;
}

-- DECLARE Fact(#Node, #Node): BOOLEAN; EXIT p^.val = 1; f
abbrev pub remaking : Program
remaking =
    record (program ((p, ref) ∷ []) (remake ∷ []) None (Some (note 8 (equal (formula.FieldOf (formula.Content 8 node (named p)) val) (number 1))))
    (Perform (call (routine 0) 9 no_arguments)))
    { symbols = record { name = Fact; args = sort.Class node ∷ sort.Class node ∷ []; result = sort.Bool } ∷ [] }

abbrev pub P : Term
P = of (sort.Ptr node) p 0

abbrev later_cells : Term
later_cells = alone (head.ClassVar node 1)

-- the cells before and behind the call
abbrev pub Remaking : Type 0
Remaking = Are remaking
    (condition first kind.Exit 4 [] (binary (head.App Fact) cells cells)
    ∷ condition None kind.Exit 8 (binary (head.App Fact) cells later_cells ∷ []) (eq (unary (head.Field val) (binary head.Cell later_cells P)) (N 1)) ∷ [])

-- PROCEDURE f; GLOBAL (VAR x); EXIT x = 1; BEGIN x := 1 END
abbrev pub reset : Routine
reset = record {
  name = f;
  line = 3;
  formals = [];
  result = None;
  globals = record { item = Variable x; is_var = true; line = 3 } ∷ [];
  initial = [];
  entry = None;
  exit = Some (note 4 (equal (named x) (number 1)));
  locals = [];
  body = set x (num 1);
}

-- EXIT x = 1; INVARIANT x = 1 WHILE b DO f
abbrev pub resetting : Program
resetting =
    program ((x, integer) ∷ (b, boolean) ∷ []) (reset ∷ []) None (Some (note 7 (equal (named x) (number 1))))
    (While 8 (Some (note 8 (equal (named x) (number 1)))) (read b) (Perform (call (routine 0) 8 no_arguments)))

abbrev B : Term
B = of sort.Bool b 0

-- the loop renames what its body's call may change
abbrev pub Resetting : Type 0
Resetting = Are resetting
    (condition first kind.Exit 4 [] (eq (N 1) (N 1))
    ∷ condition None kind.Invariant 8 [] (eq (X x) (N 1))
    ∷ condition None kind.Preserved 8 (eq (fresh x 2) (N 1) ∷ B ∷ eq (fresh x 1) (N 1) ∷ []) (eq (fresh x 1) (N 1))
    ∷ condition None kind.Exit 7 (eq (fresh x 2) (N 1) ∷ no B ∷ []) (eq (fresh x 2) (N 1)) ∷ [])

-- ---- NEW for a part

-- ARRAY [1..9] OF ^Node
abbrev pub row_of_refs : TypeId
row_of_refs = type 9

-- EXIT a[i] <> p; NEW(a[i])
abbrev pub creating_in_a_row : Program
creating_in_a_row =
    record (program ((a, row_of_refs) ∷ (i, integer) ∷ (p, ref) ∷ []) [] None
    (Some (note 4 (formula.Compared comparison.NotEqual (formula.Element (named a) (named i)) (named p))))
    (New 5 (designator 1 a (at_index row_of_refs (read i) no_selectors)) node))
    { forms = forms ++ form.Array nine ref ∷ []; titles = None ∷ None ∷ None ∷ None ∷ None ∷ None ∷ Some Node ∷ None ∷ None ∷ None ∷ [] }

abbrev refs : Term
refs = of (sort.Whole row_of_refs) a 0

abbrev new_one : Term
new_one = of (sort.Ptr node) a 1

-- the element takes the new pointer, and the class the new cell
abbrev pub CreateInARow : Type 0
CreateInARow = Are creating_in_a_row
    (condition None kind.Exit 4 (no (eq new_one NIL) ∷ no (binary head.PointerTo new_one cells) ∷ [])
    (no (eq (binary head.Select (ternary head.Store refs (X i) new_one) (X i)) P)) ∷ [])

-- ^Link, and Link = RECORD val: INTEGER; next: ^Link END
abbrev pub to_link : TypeId
to_link = type 9

abbrev pub link : TypeId
link = type 10

abbrev pub Link : Symbol
Link = name 17

abbrev pub next : Symbol
next = name 18

-- EXIT p^.next <> p; NEW(p^.next)
abbrev pub creating_in_a_cell : Program
creating_in_a_cell =
    record (program ((p, to_link) ∷ []) [] None
    (Some (note 4 (formula.Compared comparison.NotEqual (formula.FieldOf (formula.Content 4 link (named p)) next) (named p))))
    (New 5 (designator 1 p (at_cell 5 link (at_field link next no_selectors))) link)) {
      forms = forms ++ form.Pointer link ∷ form.Record (record { name = val; of = integer } ∷ record { name = next; of = to_link } ∷ []) ∷ [];
      titles = None ∷ None ∷ None ∷ None ∷ None ∷ None ∷ Some Node ∷ None ∷ None ∷ None ∷ Some Link ∷ [];
      types = (Node, node) ∷ (Link, link) ∷ [];
    }

abbrev links : Term
links = alone (head.ClassVar link 0)

abbrev here : Term
here = of (sort.Ptr link) p 0

abbrev new_link : Term
new_link = of (sort.Ptr link) p 1

abbrev more_links : Term
more_links = ternary head.Extend links new_link (of (sort.Whole link) Link 1)

-- the cell that p leads to takes the new pointer, in the class that has the new cell
abbrev pub CreateInACell : Type 0
CreateInACell = Are creating_in_a_cell
    (condition None kind.Exit 4 (no (eq new_link (alone (head.Nil link))) ∷ no (binary head.PointerTo new_link links) ∷ [])
    (no (eq (unary (head.Field next) (binary head.Cell (ternary head.SetCell more_links here (binary (head.Put next) (binary head.Cell more_links here) new_link)) here)) here)) ∷ [])

-- the programs of these examples
abbrev pub programs : List Program
programs =
    filling_a_cell ∷ filling_a_field ∷ filling_and_moving ∷ passing_on ∷ summing ∷ calling_in_an_index ∷ remaking ∷ resetting ∷ creating_in_a_row ∷ creating_in_a_cell ∷ []
