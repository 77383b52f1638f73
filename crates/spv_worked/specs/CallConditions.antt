-- The conditions of small programs with routines.
use Rattle.std.specs.Prelude.{ℕ, true, false, [], ◌∷◌, Option, Some, None}
use Rattle.spv_logic.specs.declared.conditions.Kind.TheVariants as kind
use Rattle.spv_logic.specs.declared.conditions.RoutineId.{RoutineId}
use Rattle.spv_logic.specs.declared.types.Sort.TheVariants as sort
use Rattle.spv_logic.specs.declared.operators.Head.TheVariants as head
use Rattle.spv_logic.specs.Terms.{Term}
use Rattle.spv_program.specs.declared.operators.Arithmetic.TheVariants as arithmetic
use Rattle.spv_program.specs.declared.operators.Comparison.TheVariants as comparison
use Rattle.spv_program.specs.declared.operators.Connective.TheVariants as connective
use Rattle.spv_program.specs.declared.types.Item.TheVariants.{Variable, Class}
use Rattle.spv_program.specs.Expressions.{Expression, Result, Calculated, Compared, call, no_arguments, by_value, by_place}
use Rattle.spv_program.specs.Formulas as formula
use Rattle.spv_program.specs.Statements.{Empty, Perform, While}
use Rattle.spv_program.specs.Programs.{Routine, Program}
use Rattle.spv_program.specs.Terms.{alone, unary, binary, ternary}
use Rattle.spv_worked.specs.Small.{x, y, i, b, a, p, q, f, n, Fact, integer, boolean, row_of_nine, program, num, at, read, set, element, named, number, equal, note, value_formal, place_formal, routine}
use Rattle.spv_worked.specs.Terms.{X, N, fresh, of, TRUE, eq, less, at_most, plus, minus, times, no, both_of, condition}
use Rattle.spv_worked.specs.CallRuns.{swap, fac}
use Rattle.spv_worked.specs.StatementConditions.{Are, A}

abbrev pub first : Option RoutineId
first = Some (routine 0)

-- ---- VAR parameters

-- ENTRY (x = 1) AND (y = 2); EXIT (x = 2) AND (y = 1); swap(x, y)
abbrev pub swapping : Program
swapping =
    program ((x, integer) ∷ (y, integer) ∷ []) (swap ∷ [])
    (Some (note 8 (formula.Joined connective.And (equal (named x) (number 1)) (equal (named y) (number 2)))))
    (Some (note 9 (formula.Joined connective.And (equal (named x) (number 2)) (equal (named y) (number 1)))))
    (Perform (call (routine 0) 10 (by_place (at x) (by_place (at y) no_arguments))))

abbrev pub Swap : Type 0
Swap = Are swapping
    (condition first kind.Exit 5 [] (both_of (eq (X q) (X q)) (eq (X p) (X p)))
    ∷ condition None kind.Exit 9
    (both_of (eq (X x) (N 1)) (eq (X y) (N 2)) ∷ both_of (eq (fresh p 1) (X y)) (eq (fresh q 1) (X x)) ∷ [])
    (both_of (eq (fresh p 1) (N 2)) (eq (fresh q 1) (N 1))) ∷ [])

-- fill has ENTRY n >= 0 and EXIT p = n, over VAR p and n, and its body is p := n
abbrev pub fill : Routine
fill = record {
  name = f;
  line = 3;
  formals = place_formal p integer ∷ value_formal n integer ∷ [];
  result = None;
  globals = [];
  initial = [];
  entry = Some (note 4 (formula.Compared comparison.AtLeast (named n) (number 0)));
  exit = Some (note 5 (equal (named p) (named n)));
  locals = [];
  body = set p (read n);
}

-- EXIT a[i] = 5; fill(a[i], 5)
abbrev pub filling : Program
filling =
    program ((a, row_of_nine) ∷ (i, integer) ∷ []) (fill ∷ []) None (Some (note 8 (equal (formula.Element (named a) (named i)) (number 5))))
    (Perform (call (routine 0) 9 (by_place (element a (read i)) (by_value (num 5) no_arguments))))

-- ENTRY is wanted at the line of the call; the whole a has P@1 at its place
abbrev pub Fill : Type 0
Fill = Are filling
    (condition first kind.Exit 5 (at_most (N 0) (X n) ∷ []) (eq (X n) (X n))
    ∷ condition None kind.Entry 9 [] (at_most (N 0) (N 5))
    ∷ condition None kind.Exit 8 (eq (fresh p 1) (N 5) ∷ []) (eq (binary head.Select (ternary head.Store A (X i) (fresh p 1)) (X i)) (N 5)) ∷ [])

-- ---- GLOBAL items

-- PROCEDURE step(n: INTEGER); GLOBAL (VAR x; y); INITIAL x = p; EXIT x = p + n; BEGIN n := n + 1 END
abbrev pub step : Routine
step = record {
  name = f;
  line = 3;
  formals = value_formal n integer ∷ [];
  result = None;
  globals = record { item = Variable x; is_var = true; line = 3 } ∷ record { item = Variable y; is_var = false; line = 3 } ∷ [];
  initial = (p, Variable x) ∷ [];
  entry = None;
  exit = Some (note 5 (equal (named x) (formula.Calculated arithmetic.Plus (named p) (named n))));
  locals = [];
  body = set n (Calculated arithmetic.Plus (read n) (num 1));
}

-- EXIT x = y; step(x)
abbrev pub stepping : Program
stepping =
    program ((x, integer) ∷ (y, integer) ∷ []) (step ∷ []) None (Some (note 8 (equal (named x) (named y))))
    (Perform (call (routine 0) 9 (by_value (read x) no_arguments)))

-- in its own condition the EXIT of step has n as it was at the entry; at the call x is X@1, and y stays
abbrev pub Step : Type 0
Step = Are stepping
    (condition first kind.Exit 5 [] (eq (X x) (plus (X x) (X n)))
    ∷ condition None kind.Exit 8 (eq (fresh x 1) (plus (X x) (X x)) ∷ []) (eq (fresh x 1) (X y)) ∷ [])

-- ---- functions

-- FUNCTION fac(n: INTEGER): INTEGER; ENTRY n >= 0; EXIT fac = Fact(n); with an empty main block
abbrev pub factorial : Program
factorial = program [] (fac ∷ []) None None Empty

abbrev pub fact : Term → Term
fact t = unary (head.App Fact) t

abbrev pub Factorial : Type 0
Factorial = Are factorial
    (condition first kind.Exit 5 (at_most (N 0) (X n) ∷ eq (X n) (N 0) ∷ []) (eq (N 1) (fact (X n)))
    ∷ condition first kind.Entry 6 (at_most (N 0) (X n) ∷ no (eq (X n) (N 0)) ∷ []) (at_most (N 0) (minus (X n) (N 1)))
    ∷ condition first kind.Exit 5
    (at_most (N 0) (X n) ∷ no (eq (X n) (N 0)) ∷ eq (fresh f 1) (fact (minus (X n) (N 1))) ∷ [])
    (eq (times (X n) (fresh f 1)) (fact (X n))) ∷ [])

-- FUNCTION inc(n: INTEGER): INTEGER; EXIT inc = n + 1; BEGIN inc := n + 1 END
abbrev pub inc : Routine
inc = record {
  name = f;
  line = 3;
  formals = value_formal n integer ∷ [];
  result = Some integer;
  globals = [];
  initial = [];
  entry = None;
  exit = Some (note 4 (equal (named f) (formula.Calculated arithmetic.Plus (named n) (number 1))));
  locals = [];
  body = set f (Calculated arithmetic.Plus (read n) (num 1));
}

abbrev pub inc_of : Expression → Expression
inc_of e = Result (call (routine 0) 8 (by_value e no_arguments))

-- ENTRY x = 4; EXIT x = 6; x := inc(inc(x))
abbrev pub twice : Program
twice =
    program ((x, integer) ∷ []) (inc ∷ []) (Some (note 6 (equal (named x) (number 4)))) (Some (note 7 (equal (named x) (number 6))))
    (set x (inc_of (inc_of (read x))))

abbrev pub Twice : Type 0
Twice = Are twice
    (condition first kind.Exit 4 [] (eq (plus (X n) (N 1)) (plus (X n) (N 1)))
    ∷ condition None kind.Exit 7
    (eq (X x) (N 4) ∷ eq (fresh f 1) (plus (X x) (N 1)) ∷ eq (fresh f 2) (plus (fresh f 1) (N 1)) ∷ [])
    (eq (fresh f 2) (N 6)) ∷ [])

-- EXIT x = 9; INVARIANT x < 9 WHILE inc(x) < 9 DO x := inc(x)
abbrev pub in_a_test : Program
in_a_test =
    program ((x, integer) ∷ []) (inc ∷ []) None (Some (note 6 (equal (named x) (number 9))))
    (While 7 (Some (note 7 (formula.Compared comparison.Less (named x) (number 9))))
    (Compared comparison.Less (inc_of (read x)) (num 9)) (set x (inc_of (read x))))

-- the call of the test is one for all its uses; the body's call has the next number
abbrev pub CallInATest : Type 0
CallInATest = Are in_a_test
    (condition first kind.Exit 4 [] (eq (plus (X n) (N 1)) (plus (X n) (N 1)))
    ∷ condition None kind.Invariant 7 [] (less (X x) (N 9))
    ∷ condition None kind.Preserved 7
    (less (fresh x 1) (N 9) ∷ eq (fresh f 1) (plus (fresh x 1) (N 1)) ∷ less (fresh f 1) (N 9) ∷ eq (fresh f 2) (plus (fresh x 1) (N 1)) ∷ [])
    (less (fresh f 2) (N 9))
    ∷ condition None kind.Exit 6
    (less (fresh x 1) (N 9) ∷ eq (fresh f 1) (plus (fresh x 1) (N 1)) ∷ no (less (fresh f 1) (N 9)) ∷ [])
    (eq (fresh x 1) (N 9)) ∷ [])

-- ---- classes in GLOBAL lists

-- PROCEDURE f; GLOBAL (VAR #INTEGER); EXIT TRUE; BEGIN END
abbrev pub renumber : Routine
renumber = record {
  name = f;
  line = 3;
  formals = [];
  result = None;
  globals = record { item = Class integer; is_var = true; line = 3 } ∷ [];
  initial = [];
  entry = None;
  exit = Some (note 4 (formula.Boolean true));
  locals = [];
  body = Empty;
}

-- DECLARE Fact(#INTEGER): BOOLEAN; INVARIANT Fact(#INTEGER) WHILE b DO f
abbrev pub numbering : Program
numbering =
    record (program ((b, boolean) ∷ []) (renumber ∷ []) None None
    (While 6 (Some (note 6 (formula.Applied Fact (formula.formulas (formula.ClassOf 6 integer) formula.no_formulas)))) (read b)
    (Perform (call (routine 0) 7 no_arguments)))) { symbols = record { name = Fact; args = sort.Class integer ∷ []; result = sort.Bool } ∷ [] }

-- the class of a type without a name
abbrev pub numbers : ℕ → Term
numbers k = alone (head.ClassVar integer k)

-- the loop renames the class that the call may change, though its type has no name
abbrev pub Numbering : Type 0
Numbering = Are numbering
    (condition first kind.Exit 4 [] TRUE
    ∷ condition None kind.Invariant 6 [] (fact (numbers 0))
    ∷ condition None kind.Preserved 6 (fact (numbers 2) ∷ of sort.Bool b 0 ∷ TRUE ∷ []) (fact (numbers 1)) ∷ [])
