-- Small loops, calls, headings, types and annotations: what comes from them and what does not.
use Rattle.std.specs.Prelude.{ℕ, Bool, true, false, [], ◌∷◌, Some, None, pos}
use Rattle.spv_logic.specs.declared.conditions.RoutineId.{RoutineId}
use Rattle.spv_logic.specs.declared.types.TypeId.{TypeId}
use Rattle.spv_logic.specs.declared.names.names.Symbol.{Symbol}
use Rattle.spv_tree.specs.declared.syntax.names.Constant.{Constant}
use Rattle.spv_tree.specs.declared.syntax.names.Scalar.TheVariants as scalar
use Rattle.spv_tree.specs.declared.syntax.operators.Comparison.TheVariants as comparing
use Rattle.spv_tree.specs.declared.syntax.operators.Direction.{Direction as DirectionSign}
use Rattle.spv_tree.specs.declared.syntax.operators.Direction.TheVariants as towards
use Rattle.spv_tree.specs.declared.syntax.routines.Clauses.{Clauses}
use Rattle.spv_tree.specs.declared.syntax.routines.Group.{Group}
use Rattle.spv_tree.specs.declared.syntax.routines.GroupForm.TheVariants.{Variables}
use Rattle.spv_tree.specs.declared.syntax.routines.Heading.{Heading}
use Rattle.spv_tree.specs.declared.syntax.routines.Locals.{Locals}
use Rattle.spv_tree.specs.declared.syntax.routines.RoutineMark.TheVariants.{Announced, Begins, Ends}
use Rattle.spv_tree.specs.syntax.Formulas as tree
use Rattle.spv_tree.specs.syntax.Statements as trees
use Rattle.spv_tree.specs.syntax.Types as types
use Rattle.spv_program.specs.declared.operators.Comparison.TheVariants as comparison
use Rattle.spv_program.specs.declared.operators.Direction.{Direction}
use Rattle.spv_program.specs.declared.operators.Direction.TheVariants as direction
use Rattle.spv_program.specs.declared.types.TypeForm.TheVariants as form
use Rattle.spv_program.specs.Expressions.{Arguments, call, no_arguments, by_value}
use Rattle.spv_program.specs.declared.operators.BuiltIn.{BuiltIn}
use Rattle.spv_program.specs.declared.operators.BuiltIn.TheVariants as known
use Rattle.spv_program.specs.Formulas.{Formula, Annotation, Compared, Named, Implied, Known, formulas, no_formulas}
use Rattle.spv_typing.specs.Known as walk
use Rattle.spv_program.specs.Statements.{Statement, Empty, Perform, For}
use Rattle.spv_program.specs.Programs.{Formal, Routine}
use Rattle.spv_type_soundness.specs.faithfulness.Names.{View, at_top}
use Rattle.spv_type_soundness.specs.faithfulness.Formulas.{FormulaFrom, AnnotationFrom}
use Rattle.spv_type_soundness.specs.faithfulness.Statements.{StatementFrom}
use Rattle.spv_type_soundness.specs.faithfulness.Types.{TypeFrom}
use Rattle.spv_type_soundness.specs.faithfulness.Routines.{FormalsFrom, RoutinesFrom}
use Rattle.spv_type_soundness.specs.faithfulness.Examples.{c, named, x, y, start, integer, program, view, name, number, variable, alone, related, read, one, No, FromStatement, assign, assigning}

-- ---- FOR

abbrev pub counting : Direction → ℕ → ℕ → Statement
counting d from to =
    For 1 None (record { variable = x; direction = d; first = numeral from; last = numeral to }) (assign y one)
  where
    numeral : ℕ → Rattle.spv_program.specs.Expressions.Expression
    numeral n = Rattle.spv_program.specs.Expressions.Numeral (pos n)

abbrev pub for_of : Symbol → DirectionSign → ℕ → ℕ → trees.Statement
for_of s d from to =
    trees.repetition 1 None (trees.for_loop 1 (name s) (alone (number from)) d (alone (number to)) (assigning y (alone (number 1))))

abbrev pub for_tree : DirectionSign → ℕ → ℕ → trees.Statement
for_tree = for_of x

-- nothing counts with the constant c
abbrev pub CountersAreKept : Type 0
CountersAreKept =
    FromStatement (counting direction.Up 1 2) (for_tree towards.Up 1 2)
    × No (FromStatement (counting direction.Up 1 2) (for_tree towards.Down 1 2))
    × No (FromStatement (counting direction.Up 1 2) (for_tree towards.Up 2 1))
    × No (FromStatement (counting direction.Up 1 2) (for_tree towards.Up 1 1))
    × ((s : Statement) → No (FromStatement s (for_of c towards.Up 1 2)))

-- ---- calls

abbrev pub p : Symbol
p = named 20

-- a program with the procedure p, whose parameter is a value
abbrev pub routine : Routine
routine = record {
  name = p;
  line = 1;
  formals = record { name = named 21; of = integer; by_place = false; line = 1 } ∷ [];
  result = None;
  globals = [];
  initial = [];
  entry = None;
  exit = None;
  locals = [];
  body = Empty;
}

abbrev pub with_p : View
with_p = at_top start (record program { routines = routine ∷ [] })

abbrev pub first_routine : RoutineId
first_routine = record { 0 = 0 }

abbrev pub calling : RoutineId → Arguments → Statement
calling r given = Perform (call r 1 given)

-- `p(x)`
abbrev pub call_tree : trees.Statement
call_tree = trees.call 1 (name p) (Some (record { first = alone (variable x); more = [] }))

abbrev pub CallsAreKept : Type 0
CallsAreKept =
    StatementFrom with_p with_p (calling first_routine (by_value (read x) no_arguments)) call_tree
    × No (StatementFrom with_p with_p (calling (record { 0 = 1 }) (by_value (read x) no_arguments)) call_tree)
    × No (StatementFrom with_p with_p (calling first_routine no_arguments) call_tree)
    × No (StatementFrom view view (calling first_routine (by_value (read x) no_arguments)) call_tree)

-- ---- headings and routines

abbrev pub formal : Bool → Formal
formal by_place = record { name = named 21; of = integer; by_place = by_place; line = 1 }

-- `a: INTEGER` or `VAR a: INTEGER`
abbrev pub group : Bool → Group
group is_var = record { line = 1; form = Variables is_var (record { first = name (named 21); more = [] }) (name (named 0)) }

-- `VAR a: BOOLEAN`
abbrev pub boolean_group : Group
boolean_group = record { line = 1; form = Variables true (record { first = name (named 21); more = [] }) (name (named 1)) }

abbrev pub ParametersAreKept : Type 0
ParametersAreKept =
    FormalsFrom start program [] (group true ∷ []) (formal true ∷ [])
    × No (FormalsFrom start program [] (group true ∷ []) (formal false ∷ []))
    × No (FormalsFrom start program [] (group true ∷ []) [])
    × No (FormalsFrom start program [] (boolean_group ∷ []) (formal true ∷ []))

-- no routine is lost, none is without a body, and no body without a heading
abbrev pub RoutinesAreKept : Type 0
RoutinesAreKept =
    (h : Heading) (c : Clauses) (l : Locals) (b : trees.Block)
    → No (RoutinesFrom start program [] (Begins h c l ∷ Ends b ∷ []) [])
    × No (RoutinesFrom start program [] (Announced h c ∷ []) [])
    × No (RoutinesFrom start program [] [] (routine ∷ []))
    × No (RoutinesFrom start program [] (Ends b ∷ []) (routine ∷ []))

-- ---- types

abbrev pub numeral_text : ℕ → Constant
numeral_text n = record { line = 1; sign = None; value = scalar.Number n }

-- a program whose third type is `1..9`
abbrev pub with_range : View
with_range = at_top start (record program { forms = form.Integer ∷ form.Boolean ∷ form.Range (pos 1) (pos 9) ∷ [] })

abbrev pub third : TypeId
third = record { 0 = 2 }

abbrev pub RangesAreKept : Type 0
RangesAreKept =
    TypeFrom with_range [] third (types.range 1 (numeral_text 1) (numeral_text 9))
    × No (TypeFrom with_range [] third (types.range 1 (numeral_text 1) (numeral_text 8)))
    × No (TypeFrom with_range [] third (types.range 1 (numeral_text 2) (numeral_text 9)))
    × No (TypeFrom with_range [] integer (types.range 1 (numeral_text 1) (numeral_text 9)))
    × No (TypeFrom with_range [] third (types.named 1 (name (named 0))))

-- ---- annotations

abbrev pub noted : ℕ → Annotation
noted line = record { formula = Compared comparison.Equal (Named 1 x) (Named 1 y); line = line }

abbrev pub NotesAreKept : Type 0
NotesAreKept =
    AnnotationFrom view (noted 1) (related comparing.Equal (variable x) (variable y))
    × No (AnnotationFrom view (noted 2) (related comparing.Equal (variable x) (variable y)))

abbrev pub Note : Formula → tree.Formula → Type 0
Note = FormulaFrom view

-- `x -> y`
abbrev pub implication : tree.Formula
implication = tree.formula 1 (tree.relation 1 (tree.simple 1 None (variable x) tree.no_more_terms) tree.no_right_side)
    (tree.implies (alone (variable y)))

abbrev pub ImplicationsAreKept : Type 0
ImplicationsAreKept =
    Note (Implied (Named 1 x) (Named 1 y)) implication
    × No (Note (Implied (Named 1 y) (Named 1 x)) implication)
    × No (Note (Named 1 x) implication)
    × No (Note (Named 2 x) (alone (variable x)))

-- ---- functions that are known from the start

abbrev pub car : Symbol
car = named 30

abbrev pub with_car : View
with_car = at_top (record start { functions = (car, walk.Car) ∷ []; reserved = car ∷ [] }) program

-- `CAR(x)`
abbrev pub car_tree : tree.Formula
car_tree = alone (tree.term 1 (tree.application 1 (name car) (alone (variable x)) tree.no_more_formulas tree.no_selectors)
    tree.no_more_factors)

abbrev pub applied : BuiltIn → Formula → Formula
applied b a = Known b (formulas a no_formulas)

abbrev pub FunctionsAreKept : Type 0
FunctionsAreKept =
    FormulaFrom with_car (applied known.Car (Named 1 x)) car_tree
    × No (FormulaFrom with_car (applied known.Cdr (Named 1 x)) car_tree)
    × No (FormulaFrom with_car (Named 1 x) car_tree)
