-- What expressions with calls give, beside what their terms are worth.
use Rattle.std.specs.Prelude.{◌≡◌, ℕ, Bool, true, false, List, [], ◌∷◌, ◌++◌, map, Option, Some, None, pos, if◌then◌else◌}
use Rattle.std.specs.List.{list_all}
use Rattle.spv_logic.specs.declared.names.names.Symbol.{Symbol}
use Rattle.spv_logic.specs.declared.types.TypeId.{TypeId}
use Rattle.spv_logic.specs.declared.types.Sort.TheVariants as sort
use Rattle.spv_logic.specs.declared.operators.Head.{Head}
use Rattle.spv_logic.specs.declared.operators.Head.TheVariants as head
use Rattle.spv_logic.specs.Values.{Value, Pointer, ArrayOf, RecordOf, no_rows, row}
use Rattle.spv_logic.specs.Terms.{Term, head_eq, eval}
use Rattle.spv_logic.specs.Conditions.{Valuation, View, both, holds}
use Rattle.spv_program.specs.declared.operators.Arithmetic.TheVariants as arithmetic
use Rattle.spv_program.specs.declared.operators.Comparison.TheVariants as comparison
use Rattle.spv_program.specs.declared.types.Item.TheVariants.{Variable, Class}
use Rattle.spv_program.specs.declared.types.TypeForm.TheVariants as form
use Rattle.spv_program.specs.Expressions.{Expression, Read, Result, Calculated, Compared, designator, no_selectors, at_index, at_field, at_cell, call, no_arguments, by_value}
use Rattle.spv_program.specs.Formulas as formula
use Rattle.spv_program.specs.Statements.{Empty, If}
use Rattle.spv_program.specs.Programs.{Routine, Program, shapes}
use Rattle.spv_program.specs.Supplies.{full_supply}
use Rattle.spv_program.specs.Terms.{unary, binary}
use Rattle.spv_program.specs.ExpressionTerms.{Called, valued}
use Rattle.spv_meaning.specs.Places.{State}
use Rattle.spv_meaning.specs.Views.{now_view}
use Rattle.spv_meaning.specs.Outcomes.{Ended}
use Rattle.spv_meaning.specs.Correct.{valuation_of, begun}
use Rattle.spv_meaning.specs.Evaluation.{evaluate}
use Rattle.spv_frame_law.specs.Laws.{below_turns}
use Rattle.spv_worked.specs.Small.{x, y, a, p, f, g, n, t, val, Node, name, type, integer, row_of_nine, nine, ref, node, forms, program, num, read, set, element, content, named, number, equal, note, value_formal, routine, z, state, with_cells}
use Rattle.spv_worked.specs.Terms.{X, N, fresh, of, eq, plus, minus, cells}
use Rattle.spv_worked.specs.StatementConditions.{A}
use Rattle.spv_worked.specs.CellRuns.{node_cell}
use Rattle.spv_worked.specs.CallConditions.{inc, inc_of}
use Rattle.spv_worked.specs.PlaceConditions.{P, summing}

-- ---- what is told

-- values of fresh variables of sort Int
abbrev pub window : List (Symbol × (ℕ × ℕ)) → View
window [] h = None
window (one ∷ others) h = if head_eq h (head.Var one.0 sort.Int one.1.0) then Some (z one.1.1) else window others h

-- what a state shows in the main block, and these values
abbrev pub beside : Program → State → List (Symbol × (ℕ × ℕ)) → Valuation
beside prog start values = valuation_of (shapes prog) (both (window values) (now_view prog None start))

abbrev pub worth : Program → State → List (Symbol × (ℕ × ℕ)) → Term → Value
worth prog start values t = eval (λ symbol arguments. z 0) (beside prog start values) t

-- whether what a call promises holds
abbrev pub keeps_promise : Program → State → List (Symbol × (ℕ × ℕ)) → Option Term → Bool
keeps_promise prog start values None = true
keeps_promise prog start values (Some t) = holds (λ symbol arguments. z 0) (beside prog start values) t

-- an expression of the main block: its term, what its calls promise in their order, what its run gives, and that the term is worth just that, and
-- each promise holds, where the calls' fresh variables have these values; the state stays
pub record Gives (prog : Program) (start : State) (choices : List Value) (e : Expression) (t : Term) (promises : List (Option Term)) (values : List (Symbol × (ℕ × ℕ))) (result : ℕ) : Type 0 where
  pub term : (valued prog None full_supply e).term ≡ t
  pub calls : map (λ (c : Called). c.gives) (valued prog None full_supply e).calls ≡ promises
  pub run : (evaluate prog (below_turns prog 3) (begun prog None start) e start choices).end ≡ Ended (record { value = z result; state = start })
  pub worth_it : worth prog start values t ≡ z result
  pub promised : list_all (keeps_promise prog start values) promises ≡ true

-- ---- a recursive function in an index, behind it a field, a pointer and a field

abbrev next : Symbol
next = name 17

-- RECORD next: ^Node END, and ARRAY [1..9] OF these
abbrev link : TypeId
link = type 9

abbrev row_of_links : TypeId
row_of_links = type 10

-- p^.val + n
abbrev val_and_n : formula.Formula
val_and_n = formula.Calculated arithmetic.Plus (formula.FieldOf (formula.Content 4 node (named p)) val) (named n)

-- FUNCTION f(n: INTEGER): INTEGER; GLOBAL (p, #Node); EXIT f = p^.val + n;
-- BEGIN IF n = 0 THEN f := p^.val ELSE f := f(n - 1) + 1 END
abbrev pub counting_from_a_cell : Routine
counting_from_a_cell = record {
  name = f;
  line = 3;
  formals = value_formal n integer ∷ [];
  result = Some integer;
  globals = record { item = Variable p; is_var = false; line = 3 } ∷ record { item = Class node; is_var = false; line = 3 } ∷ [];
  initial = [];
  entry = None;
  exit = Some (note 4 (equal (named f) val_and_n));
  locals = [];
  body = If 5 (Compared comparison.Equal (read n) (num 0)) (set f (Read (content p)))
      (set f (Calculated arithmetic.Plus (Result (call (routine 0) 5 (by_value (Calculated arithmetic.Minus (read n) (num 1)) no_arguments))) (num 1)));
}

abbrev pub linking : Program
linking =
    record (program ((a, row_of_links) ∷ (p, ref) ∷ (x, integer) ∷ []) (counting_from_a_cell ∷ []) None None Empty)
    { forms = forms ++ form.Record (record { name = next; of = ref } ∷ []) ∷ form.Array nine link ∷ []; titles = None ∷ None ∷ None ∷ None ∷ None ∷ None ∷ Some Node ∷ None ∷ None ∷ None ∷ None ∷ [] }

-- a[f(x)].next^.val
abbrev pub through_a_link : Expression
through_a_link =
    Read (designator 1 a (at_index row_of_links (Result (call (routine 0) 8 (by_value (read x) no_arguments))) (at_field link next (at_cell 1 node (at_field node val no_selectors)))))

abbrev leading_to : ℕ → Value
leading_to cell = RecordOf (row (pos 17) (Pointer cell) no_rows)

-- a[3].next leads to cell 1, which has 10; p leads to cell 2, which has 1; x is 2
abbrev pub linked : State
linked =
    with_cells (node_cell 1 10 ∷ node_cell 2 1 ∷ [])
    (state ((a, ArrayOf (leading_to 0) (row (pos 3) (leading_to 1) no_rows)) ∷ (p, Pointer 2) ∷ (x, z 2) ∷ []))

-- the val of a cell
abbrev val_in : Term → Term
val_in q = unary (head.Field val) (binary head.Cell cells q)

abbrev links : Term
links = of (sort.Whole row_of_links) a 0

-- f(2) gives 3 through f(1) and f(0)
abbrev pub ReadsThroughALink : Type 0
ReadsThroughALink =
    Gives linking linked (z 0 ∷ z 0 ∷ z 0 ∷ []) through_a_link (val_in (unary (head.Field next) (binary head.Select links (fresh f 1))))
    (Some (eq (fresh f 1) (plus (val_in P) (X x))) ∷ []) ((f, (1, 3)) ∷ []) 10

-- the term hangs on what the function gave: elsewhere a has NIL, and a class its default
abbrev pub OtherwiseItReadsElsewhere : Type 0
OtherwiseItReadsElsewhere = worth linking linked ((f, (1, 2)) ∷ []) (valued linking None full_supply through_a_link).term ≡ z 0

-- ---- calls in arguments

-- t(inc(x), g(y)): two inner calls, then the outer one of their fresh variables
abbrev pub CallsInArguments : Type 0
CallsInArguments =
    Gives summing (state ((x, z 2) ∷ (y, z 5) ∷ [])) (z 0 ∷ z 0 ∷ z 0 ∷ [])
    (Result (call (routine 2) 10 (by_value (inc_of (read x)) (by_value (Result (call (routine 1) 10 (by_value (read y) no_arguments))) no_arguments)))) (fresh t 1)
    (Some (eq (fresh f 1) (plus (X x) (N 1))) ∷ Some (eq (fresh g 1) (minus (X y) (N 1))) ∷ Some (eq (fresh t 1) (plus (fresh f 1) (fresh g 1))) ∷ [])
    ((f, (1, 3)) ∷ (g, (1, 4)) ∷ (t, (1, 7)) ∷ []) 7

-- inc(inc(x)): one function twice has two fresh variables
abbrev pub OneFunctionTwice : Type 0
OneFunctionTwice =
    Gives summing (state ((x, z 2) ∷ (y, z 5) ∷ [])) (z 0 ∷ z 0 ∷ []) (inc_of (inc_of (read x))) (fresh f 2)
    (Some (eq (fresh f 1) (plus (X x) (N 1))) ∷ Some (eq (fresh f 2) (plus (fresh f 1) (N 1))) ∷ []) ((f, (1, 3)) ∷ (f, (2, 4)) ∷ []) 4

-- ---- a call in an index

abbrev pub indexing : Program
indexing = program ((a, row_of_nine) ∷ (x, integer) ∷ []) (inc ∷ []) None None Empty

-- a[inc(x)]
abbrev pub CallInAnIndex : Type 0
CallInAnIndex =
    Gives indexing (state ((a, ArrayOf (z 0) (row (pos 3) (z 8) no_rows)) ∷ (x, z 2) ∷ [])) (z 0 ∷ []) (Read (element a (inc_of (read x)))) (binary head.Select A (fresh f 1))
    (Some (eq (fresh f 1) (plus (X x) (N 1))) ∷ []) ((f, (1, 3)) ∷ []) 8

-- ---- a function that reads a cell

-- FUNCTION f: INTEGER; GLOBAL (p, #Node); EXIT f = p^.val; BEGIN f := p^.val END
abbrev pub reading_a_cell : Routine
reading_a_cell = record {
  name = f;
  line = 3;
  formals = [];
  result = Some integer;
  globals = record { item = Variable p; is_var = false; line = 3 } ∷ record { item = Class node; is_var = false; line = 3 } ∷ [];
  initial = [];
  entry = None;
  exit = Some (note 4 (equal (named f) (formula.FieldOf (formula.Content 4 node (named p)) val)));
  locals = [];
  body = set f (Read (content p));
}

abbrev pub reading : Program
reading = program ((p, ref) ∷ []) (reading_a_cell ∷ []) None None Empty

-- f + p^.val: the function and the place read the same cell
abbrev pub FunctionReadsACell : Type 0
FunctionReadsACell =
    Gives reading (with_cells (node_cell 2 5 ∷ []) (state ((p, Pointer 2) ∷ []))) (z 0 ∷ [])
    (Calculated arithmetic.Plus (Result (call (routine 0) 8 no_arguments)) (Read (content p))) (plus (fresh f 1) (val_in P))
    (Some (eq (fresh f 1) (val_in P)) ∷ []) ((f, (1, 5)) ∷ []) 10

-- the programs of these examples
abbrev pub programs : List Program
programs = linking ∷ indexing ∷ reading ∷ []
