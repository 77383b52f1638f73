-- Programs that are not well typed, for a statement: each breaks one rule alone.
use Rattle.std.specs.Prelude.{true, List, [], ◌∷◌, Some, None, pos}
use Rattle.spv_logic.specs.declared.names.names.Symbol.{Symbol}
use Rattle.spv_program.specs.declared.operators.Comparison.TheVariants as comparison
use Rattle.spv_program.specs.declared.operators.Direction.TheVariants.{Up}
use Rattle.spv_program.specs.declared.types.Item.TheVariants.{Variable}
use Rattle.spv_program.specs.Expressions.{Expression, NilOf, Compared, call, no_arguments}
use Rattle.spv_program.specs.Statements.{Counting, Statement, Empty, Assign, Perform, New, Sequence, If, Case, While, Repeat, For, Assert, no_arms, arm}
use Rattle.spv_program.specs.Programs.{Program}
use Rattle.spv_worked.specs.Small.{x, y, b, a, p, q, f, g, n, integer, ref, node, other, program, named, equal, num, at, read, set, element, content, number, note, place_formal, routine}
use Rattle.spv_worked.specs.TypedPrograms.{var_item, nothing, sharing, pointing, over, with_main, sharing_call}

-- ---- assignments and NEW

-- values of other sorts; a part of a function's own result; NEW of no pointer, and of a pointer to another type
abbrev pub with_wrong_assignments : List Program
with_wrong_assignments =
    with_main (set x (read b))
    ∷ with_main (set b (num 1))
    ∷ with_main (set p (read q))
    ∷ with_main (set p (NilOf other))
    ∷ with_main (Assign (element a (num 1)) (read b))
    ∷ over sharing (record pointing { body = Assign (content g) (num 1) }) Empty
    ∷ with_main (New 1 (at x) node)
    ∷ with_main (New 1 (at q) node)
    ∷ over sharing (record pointing { result = Some ref; body = New 1 (content g) node }) Empty ∷ []

-- ---- IF, CASE, WHILE, REPEAT

-- a statement that is not well typed
abbrev pub wrong : Statement
wrong = set x (read b)

-- tests that are no truth values; a selector that is no number, a label twice; annotations that are no truth values
abbrev pub with_wrong_tests : List Program
with_wrong_tests =
    with_main (If 1 (read x) Empty Empty)
    ∷ with_main (While 1 None (read x) Empty)
    ∷ with_main (Repeat 1 None Empty (read x))
    ∷ with_main (Case 1 (read b) no_arms)
    ∷ with_main (Case 1 (read x) (arm (pos 1 ∷ pos 1 ∷ []) Empty no_arms))
    ∷ with_main (Case 1 (read x) (arm (pos 1 ∷ []) Empty (arm (pos 2 ∷ pos 1 ∷ []) Empty no_arms)))
    ∷ with_main (While 1 (Some (note 1 (number 1))) (read b) Empty)
    ∷ with_main (Repeat 1 (Some (note 1 (number 1))) Empty (read b))
    ∷ with_main (Assert (note 1 (number 1))) ∷ []

-- each part of a statement is well typed
abbrev pub with_wrong_parts : List Program
with_wrong_parts =
    with_main (Sequence wrong Empty)
    ∷ with_main (Sequence Empty wrong)
    ∷ with_main (If 1 (read b) wrong Empty)
    ∷ with_main (If 1 (read b) Empty wrong)
    ∷ with_main (Case 1 (read x) (arm (pos 1 ∷ []) wrong no_arms))
    ∷ with_main (Case 1 (read x) (arm (pos 1 ∷ []) Empty (arm (pos 2 ∷ []) wrong no_arms)))
    ∷ with_main (While 1 None (read b) wrong)
    ∷ with_main (Repeat 1 None wrong (read b))
    ∷ with_main (For 1 None (record { variable = x; direction = Up; first = num 1; last = num 3 }) (set b (num 1)))
    ∷ over (record nothing { body = wrong }) pointing Empty ∷ []

-- ---- FOR

abbrev pub count : Symbol → Expression → Expression → Counting
count v first last = record { variable = v; direction = Up; first = first; last = last }

-- FOR x := 1 TO 3
abbrev pub counting : Statement → Statement
counting s = For 1 None (count x (num 1) (num 3)) s

-- a variable or an end that is no number, and an annotation that is no truth value
abbrev pub with_wrong_heads : List Program
with_wrong_heads =
    with_main (For 1 None (count b (num 1) (num 3)) Empty)
    ∷ with_main (For 1 None (count n (num 1) (num 3)) Empty)
    ∷ with_main (For 1 None (count x (read b) (num 3)) Empty)
    ∷ with_main (For 1 None (count x (num 1) (read b)) Empty)
    ∷ with_main (For 1 (Some (note 1 (number 1))) (count x (num 1) (num 3)) Empty) ∷ []

-- in a routine, a variable of the program and a VAR parameter
abbrev pub with_wrong_counters : List Program
with_wrong_counters =
    over (record nothing { globals = var_item (Variable x) ∷ []; body = counting Empty }) pointing Empty
    ∷ over (record nothing { formals = place_formal x integer ∷ []; body = counting Empty }) pointing Empty
    ∷ over (record nothing { result = Some integer; body = For 1 None (count f (num 1) (num 3)) Empty }) pointing Empty ∷ []

-- a body that changes the variable: by an assignment, by a FOR, by a VAR argument, and by a call of what may change it
abbrev pub with_wrong_bodies : List Program
with_wrong_bodies =
    with_main (counting (set x (num 1)))
    ∷ with_main (counting (counting Empty))
    ∷ with_main (counting (sharing_call (at x) (num 1)))
    ∷ over (record nothing { globals = var_item (Variable x) ∷ [] }) pointing
    (counting (Perform (call (routine 0) 1 no_arguments))) ∷ []

-- ---- INITIAL names

-- PROCEDURE f; GLOBAL (VAR y); INITIAL x = y: the program has a variable x too, which the body does not see
abbrev pub remembering : Statement → Program
remembering s =
    program ((x, integer) ∷ (y, integer) ∷ [])
    (record {
      name = f;
      line = 3;
      formals = [];
      result = None;
      globals = record { item = Variable y; is_var = true; line = 3 } ∷ [];
      initial = (x, Variable y) ∷ [];
      entry = None;
      exit = Some (note 5 (equal (named x) (number 1)));
      locals = [];
      body = s;
    } ∷ []) None None Empty

-- the body writes what the INITIAL name hides, reads it, and tests it
abbrev pub with_initial_names : List Program
with_initial_names =
    remembering (set x (num 1))
    ∷ remembering (set y (read x))
    ∷ remembering (While 6 None (Compared comparison.Less (read x) (num 1)) Empty) ∷ []

-- a name of its own is written
abbrev pub remembers : Program
remembers = remembering (set y (num 1))
