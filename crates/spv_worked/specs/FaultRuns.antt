-- Where runs stop, and in which order.
use Rattle.std.specs.Prelude.{◌≡◌, ℕ, true, false, [], ◌∷◌, None}
use Rattle.spv_logic.specs.Values.{Truth, ArrayOf, no_rows}
use Rattle.spv_program.specs.declared.operators.Arithmetic.TheVariants as arithmetic
use Rattle.spv_program.specs.declared.operators.Comparison.TheVariants as comparison
use Rattle.spv_program.specs.declared.operators.Connective.TheVariants as connective
use Rattle.spv_program.specs.Expressions.{Expression, Boolean, Read, Calculated, Compared, Joined, call, no_arguments, by_value}
use Rattle.spv_program.specs.Statements.{Statement, Empty, Assign, Perform, If}
use Rattle.spv_program.specs.Programs.{Routine, Program}
use Rattle.spv_meaning.specs.declared.faults.Fault.{Fault}
use Rattle.spv_meaning.specs.declared.faults.Fault.TheVariants as fault
use Rattle.spv_meaning.specs.Places.{State}
use Rattle.spv_program.specs.declared.operators.Connective.{Connective}
use Rattle.spv_worked.specs.Small.{x, i, b, a, f, n, integer, boolean, three, nine, row_of_nine, program, num, read, set, element, one_by_zero, value_formal, routine, z, told, state, main_run, ended, stopped}

-- VAR x: INTEGER; b: BOOLEAN; i: 1..3; a: ARRAY [1..9] OF INTEGER
abbrev pub with_body : Statement → Program
with_body s = program ((x, integer) ∷ (b, boolean) ∷ (i, three) ∷ (a, row_of_nine) ∷ []) [] None None s

-- b is FALSE, i is 1, and each element of a is 5
abbrev pub start : State
start = state ((x, z 0) ∷ (b, Truth false) ∷ (i, z 1) ∷ (a, ArrayOf (z 5) no_rows) ∷ [])

abbrev pub Stops : Fault → Statement → Type 0
Stops why s = told (x ∷ []) [] (main_run (with_body s) 3 start []) ≡ stopped why []

abbrev pub Gives : ℕ → Expression → Type 0
Gives k e = told (x ∷ []) [] (main_run (with_body (set x e)) 3 start []) ≡ ended (k ∷ []) []

-- b AND (1 DIV 0 = 1): both sides are evaluated, though b is FALSE; so are those of OR
abbrev pub both_sides : Connective → Expression
both_sides o = Joined o (read b) (Compared comparison.Equal one_by_zero (num 1))

abbrev pub BothSidesOfAnd : Type 0
BothSidesOfAnd = Stops fault.Zero (set b (both_sides connective.And))

abbrev pub BothSidesOfOr : Type 0
BothSidesOfOr = Stops fault.Zero (If 1 (both_sides connective.Or) Empty Empty)

-- IF e THEN x := 1 ELSE x := 2
abbrev pub branching : Expression → Statement
branching e = If 3 e (set x (num 1)) (set x (num 2))

abbrev pub Branches : ℕ → Expression → Type 0
Branches k e = told (x ∷ []) [] (main_run (with_body (branching e)) 0 start []) ≡ ended (k ∷ []) []

-- TRUE AND b, and b OR TRUE, where b is FALSE: the right side counts
abbrev pub RightSideOfAnd : Type 0
RightSideOfAnd = Branches 2 (Joined connective.And (Boolean true) (read b))

abbrev pub RightSideOfOr : Type 0
RightSideOfOr = Branches 1 (Joined connective.Or (read b) (Boolean true))

-- x MOD 0
abbrev pub RemainderByZero : Type 0
RemainderByZero = Stops fault.Zero (set x (Calculated arithmetic.Mod (read x) (num 0)))

-- i := 4, where i is of 1..3
abbrev pub OutsideItsRange : Type 0
OutsideItsRange = Stops fault.Range (set i (num 4))

abbrev pub AtItsBound : Type 0
AtItsBound = told (i ∷ []) [] (main_run (with_body (set i (num 3))) 0 start []) ≡ ended (3 ∷ []) []

-- a[10] and a[0], where the indices are 1..9, read and written
abbrev pub IndexTooLarge : Type 0
IndexTooLarge = Stops fault.Index (set x (Read (element a (num 10))))

abbrev pub IndexTooSmall : Type 0
IndexTooSmall = Stops fault.Index (Assign (element a (num 0)) (num 1))

-- the place on the left is fixed first: a[10] := 1 DIV 0, and i := 1 DIV 0
abbrev pub PlaceBeforeValue : Type 0
PlaceBeforeValue = Stops fault.Index (Assign (element a (num 10)) one_by_zero)

abbrev pub ValueBeforeItsRange : Type 0
ValueBeforeItsRange = Stops fault.Zero (set i (Calculated arithmetic.Plus (num 4) one_by_zero))

-- from left to right: a[10] + 1 DIV 0, and 1 DIV 0 + a[10]
abbrev pub LeftOperandFirst : Type 0
LeftOperandFirst = Stops fault.Index (set x (Calculated arithmetic.Plus (Read (element a (num 10))) one_by_zero))

abbrev pub RightOperandLast : Type 0
RightOperandLast = Stops fault.Zero (set x (Calculated arithmetic.Plus one_by_zero (Read (element a (num 10)))))

-- PROCEDURE f(i: 1..9; n: INTEGER); BEGIN END
abbrev pub procedure : Routine
procedure = record {
  name = f;
  line = 2;
  formals = value_formal i nine ∷ value_formal n integer ∷ [];
  result = None;
  globals = [];
  initial = [];
  entry = None;
  exit = None;
  locals = [];
  body = Empty;
}

-- f(10, 1 DIV 0): a value argument's subrange is tested when it is evaluated
abbrev pub RangeBeforeTheNextArgument : Type 0
RangeBeforeTheNextArgument =
    told [] [] (main_run (program [] (procedure ∷ []) None None (Perform
    (call (routine 0) 3 (by_value (num 10) (by_value one_by_zero no_arguments))))) 3 (state []) [])
    ≡ stopped fault.Range []

-- f(9, 1 DIV 0)
abbrev pub LaterArgument : Type 0
LaterArgument =
    told [] [] (main_run (program [] (procedure ∷ []) None None (Perform
    (call (routine 0) 3 (by_value (num 9) (by_value one_by_zero no_arguments))))) 3 (state []) [])
    ≡ stopped fault.Zero []

-- what operators give: a[3] is 5, 7 DIV 2 is 3, 7 MOD 2 is 1
abbrev pub ElementIsRead : Type 0
ElementIsRead = Gives 5 (Read (element a (num 3)))

abbrev pub Quotient : Type 0
Quotient = Gives 3 (Calculated arithmetic.Div (num 7) (num 2))

abbrev pub Remainder : Type 0
Remainder = Gives 1 (Calculated arithmetic.Mod (num 7) (num 2))
