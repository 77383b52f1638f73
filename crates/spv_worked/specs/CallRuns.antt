-- What calls do.
use Rattle.std.specs.Prelude.{◌≡◌, ℕ, true, [], ◌∷◌, Some, None}
use Rattle.spv_logic.specs.declared.conditions.Kind.TheVariants as kind
use Rattle.spv_logic.specs.declared.types.Sort.TheVariants as sort
use Rattle.spv_logic.specs.declared.operators.Head.{Head}
use Rattle.spv_logic.specs.declared.operators.Head.TheVariants as head
use Rattle.spv_logic.specs.Values.{ArrayOf, no_rows}
use Rattle.spv_program.specs.declared.operators.Arithmetic.TheVariants as arithmetic
use Rattle.spv_program.specs.declared.operators.Comparison.TheVariants as comparison
use Rattle.spv_program.specs.declared.operators.Connective.TheVariants as connective
use Rattle.spv_program.specs.declared.types.Item.TheVariants.{Variable}
use Rattle.spv_program.specs.Expressions.{Read, Result, Calculated, Compared, call, no_arguments, by_value, by_place}
use Rattle.spv_program.specs.Formulas as formula
use Rattle.spv_program.specs.Statements.{Empty, Perform, If}
use Rattle.spv_program.specs.Programs.{Routine, Program}
use Rattle.spv_worked.specs.Small.{x, y, i, a, p, q, f, n, t, p0, q0, Fact, integer, row_of_nine, program, num, at, read, set, element, block, named, number, equal, note, value_formal, place_formal, routine, z, Reached, told, int, state, main_run, ended, going, reached}

-- ---- VAR parameters

-- PROCEDURE swap(VAR p, q: INTEGER); INITIAL p = p0, q = q0; EXIT (p = q0) AND (q = p0);
-- VAR t: INTEGER; BEGIN t := p; p := q; q := t END
abbrev pub swap : Routine
swap = record {
  name = f;
  line = 3;
  formals = place_formal p integer ∷ place_formal q integer ∷ [];
  result = None;
  globals = [];
  initial = (p0, Variable p) ∷ (q0, Variable q) ∷ [];
  entry = None;
  exit = Some (note 5 (formula.Joined connective.And (equal (named p) (named q0)) (equal (named q) (named p0))));
  locals = (t, integer) ∷ [];
  body = block (set t (read p) ∷ set p (read q) ∷ set q (read t) ∷ []);
}

abbrev pub swapping : Program
swapping =
    program ((x, integer) ∷ (y, integer) ∷ []) (swap ∷ []) None None
    (Perform (call (routine 0) 10 (by_place (at x) (by_place (at y) no_arguments))))

-- the places of x and y are changed; EXIT sees the new values, and those of the entry under p0 and q0
abbrev pub SwapByPlace : Type 0
SwapByPlace =
    told (x ∷ y ∷ []) (int p ∷ int q ∷ int p0 ∷ int q0 ∷ []) (main_run swapping 1 (state ((x, z 1) ∷ (y, z 2) ∷ [])) (z 77 ∷ []))
    ≡ ended (2 ∷ 1 ∷ []) (reached kind.Exit 5 (2 ∷ 1 ∷ 1 ∷ 2 ∷ []) ∷ [])

-- PROCEDURE fill(VAR p: INTEGER; n: INTEGER); GLOBAL (VAR i); BEGIN i := 2; p := n END
abbrev pub fill : Routine
fill = record {
  name = f;
  line = 3;
  formals = place_formal p integer ∷ value_formal n integer ∷ [];
  result = None;
  globals = record { item = Variable i; is_var = true; line = 4 } ∷ [];
  initial = [];
  entry = None;
  exit = None;
  locals = [];
  body = block (set i (num 2) ∷ set p (read n) ∷ []);
}

-- x := a[1]; y := a[2], to tell what a holds
abbrev pub filling : Program
filling =
    program ((i, integer) ∷ (a, row_of_nine) ∷ (x, integer) ∷ (y, integer) ∷ []) (fill ∷ []) None None
    (block (Perform (call (routine 0) 10 (by_place (element a (read i)) (by_value (num 5) no_arguments)))
    ∷ set x (Read (element a (num 1))) ∷ set y (Read (element a (num 2))) ∷ []))

-- fill(a[i], 5) with i = 1: the place stays a[1], though the body changes i
abbrev pub PlaceStaysFixed : Type 0
PlaceStaysFixed =
    told (i ∷ x ∷ y ∷ []) [] (main_run filling 1 (state ((i, z 1) ∷ (a, ArrayOf (z 0) no_rows) ∷ (x, z 0) ∷ (y, z 0) ∷ [])) [])
    ≡ ended (2 ∷ 5 ∷ 0 ∷ []) []

-- ---- functions

-- FUNCTION inc(n: INTEGER): INTEGER; ENTRY n >= 0; EXIT inc = n + 1; BEGIN inc := n + 1 END
abbrev pub inc : Routine
inc = record {
  name = f;
  line = 3;
  formals = value_formal n integer ∷ [];
  result = Some integer;
  globals = [];
  initial = [];
  entry = Some (note 4 (formula.Compared comparison.AtLeast (named n) (number 0)));
  exit = Some (note 5 (equal (named f) (formula.Calculated arithmetic.Plus (named n) (number 1))));
  locals = [];
  body = set f (Calculated arithmetic.Plus (read n) (num 1));
}

-- x := inc(inc(x))
abbrev pub twice : Program
twice =
    program ((x, integer) ∷ []) (inc ∷ []) None None
    (set x (Result (call (routine 0) 10 (by_value (Result (call (routine 0) 10 (by_value (read x) no_arguments))) no_arguments))))

-- what a value parameter was at the entry
abbrev pub start : Head
start = head.Start n sort.Int

-- the inner call runs first; each meets its ENTRY and its EXIT
abbrev pub InnerCallFirst : Type 0
InnerCallFirst =
    told (x ∷ []) (int n ∷ start ∷ int f ∷ []) (main_run twice 1 (state ((x, z 4) ∷ [])) (z 88 ∷ z 99 ∷ []))
    ≡ ended (6 ∷ []) (reached kind.Entry 4 (4 ∷ 4 ∷ 88 ∷ []) ∷ reached kind.Exit 5 (4 ∷ 4 ∷ 5 ∷ []) ∷ reached kind.Entry 4 (5 ∷ 5 ∷ 99
    ∷ []) ∷ reached kind.Exit 5 (5 ∷ 5 ∷ 6 ∷ []) ∷ [])

-- FUNCTION fac(n: INTEGER): INTEGER; ENTRY n >= 0; EXIT fac = Fact(n);
-- BEGIN IF n = 0 THEN fac := 1 ELSE fac := n * fac(n - 1) END
abbrev pub fac : Routine
fac = record {
  name = f;
  line = 3;
  formals = value_formal n integer ∷ [];
  result = Some integer;
  globals = [];
  initial = [];
  entry = Some (note 4 (formula.Compared comparison.AtLeast (named n) (number 0)));
  exit = Some (note 5 (equal (named f) (formula.Applied Fact (formula.formulas (named n) formula.no_formulas))));
  locals = [];
  body = If 6 (Compared comparison.Equal (read n) (num 0)) (set f (num 1))
      (set f (Calculated arithmetic.Times (read n) (Result
      (call (routine 0) 6 (by_value (Calculated arithmetic.Minus (read n) (num 1)) no_arguments)))));
}

-- x := fac(3)
abbrev pub factorial : Program
factorial = program ((x, integer) ∷ []) (fac ∷ []) None None (set x (Result (call (routine 0) 10 (by_value (num 3) no_arguments))))

abbrev pub entry_with : ℕ → Reached
entry_with k = reached kind.Entry 4 (k ∷ [])

abbrev pub exit_with : ℕ → Reached
exit_with k = reached kind.Exit 5 (k ∷ [])

-- a recursion of depth four, counted with n = 3, 2, 1, 0
abbrev pub Recursion : Type 0
Recursion =
    told (x ∷ []) (int n ∷ []) (main_run factorial 4 (state ((x, z 0) ∷ [])) (z 0 ∷ z 0 ∷ z 0 ∷ z 0 ∷ []))
    ≡ ended (6 ∷ []) (entry_with 3 ∷ entry_with 2 ∷ entry_with 1 ∷ entry_with 0 ∷ exit_with 0 ∷ exit_with 1 ∷ exit_with 2 ∷ exit_with 3 ∷ [])

-- with three turns it is still going: the call with n = 0 does not begin
abbrev pub RecursionIsGoing : Type 0
RecursionIsGoing =
    told (x ∷ []) (int n ∷ []) (main_run factorial 3 (state ((x, z 0) ∷ [])) (z 0 ∷ z 0 ∷ z 0 ∷ z 0 ∷ []))
    ≡ going (entry_with 3 ∷ entry_with 2 ∷ entry_with 1 ∷ [])

-- ---- value parameters

-- PROCEDURE more(n: INTEGER); EXIT TRUE; BEGIN n := n + 1 END
abbrev pub more : Routine
more = record {
  name = f;
  line = 3;
  formals = value_formal n integer ∷ [];
  result = None;
  globals = [];
  initial = [];
  entry = None;
  exit = Some (note 5 (formula.Boolean true));
  locals = [];
  body = set n (Calculated arithmetic.Plus (read n) (num 1));
}

abbrev pub changing : Program
changing = program ((x, integer) ∷ []) (more ∷ []) None None (Perform (call (routine 0) 10 (by_value (read x) no_arguments)))

-- the argument stays; at EXIT the parameter is 5, and its start still 4
abbrev pub StartStays : Type 0
StartStays =
    told (x ∷ []) (int n ∷ start ∷ []) (main_run changing 1 (state ((x, z 4) ∷ [])) [])
    ≡ ended (4 ∷ []) (reached kind.Exit 5 (5 ∷ 4 ∷ []) ∷ [])

-- ---- a procedure that calls itself

-- PROCEDURE down(n: INTEGER); GLOBAL (VAR x); BEGIN IF n > 0 THEN down(n - 1); x := x * 10 + n END
abbrev pub down : Routine
down = record {
  name = f;
  line = 3;
  formals = value_formal n integer ∷ [];
  result = None;
  globals = record { item = Variable x; is_var = true; line = 4 } ∷ [];
  initial = [];
  entry = None;
  exit = None;
  locals = [];
  body = block
      (If 6 (Compared comparison.Greater (read n) (num 0))
      (Perform (call (routine 0) 6 (by_value (Calculated arithmetic.Minus (read n) (num 1)) no_arguments))) Empty
      ∷ set x (Calculated arithmetic.Plus (Calculated arithmetic.Times (read x) (num 10)) (read n)) ∷ []);
}

abbrev pub descending : Program
descending = program ((x, integer) ∷ []) (down ∷ []) None None (Perform (call (routine 0) 10 (by_value (num 2) no_arguments)))

-- behind a call the caller's own names are back: x gets the digits 0, 1, 2
abbrev pub OwnNamesAreBack : Type 0
OwnNamesAreBack = told (x ∷ []) [] (main_run descending 3 (state ((x, z 0) ∷ [])) []) ≡ ended (12 ∷ []) []
