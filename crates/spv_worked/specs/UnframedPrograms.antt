-- Well typed programs whose routines do not share rightly: each breaks one rule alone.
use Rattle.std.specs.Prelude.{true, ◌&&◌, not, List, [], ◌∷◌, Some, None, IsTrue, pos}
use Rattle.std.specs.List.{list_all}
use Rattle.spv_program.specs.declared.types.Item.TheVariants.{Variable, Class}
use Rattle.spv_program.specs.declared.operators.Arithmetic.TheVariants as arithmetic
use Rattle.spv_program.specs.declared.operators.Connective.TheVariants as connective
use Rattle.spv_program.specs.declared.operators.Comparison.TheVariants as comparison
use Rattle.spv_program.specs.declared.operators.Direction.TheVariants.{Up}
use Rattle.spv_program.specs.Expressions.{Designator, Boolean, Read, Result, Through, Negative, Calculated, Compared, Negated, Joined, no_selectors, at_field, call, no_arguments, by_place}
use Rattle.spv_program.specs.Formulas as formula
use Rattle.spv_program.specs.Statements.{Statement, Empty, Assign, Perform, New, Sequence, If, Case, While, Repeat, For, Assert, no_arms, arm}
use Rattle.spv_program.specs.Programs.{Routine, Program}
use Rattle.spv_program.specs.Typing.{well_typed}
use Rattle.spv_program.specs.Frames.{framed}
use Rattle.spv_worked.specs.Small.{x, b, a, p, g, n, equal, val, integer, ref, node, num, at, read, set, element, content, named, note, value_formal, place_formal, routine}
use Rattle.spv_worked.specs.TypedPrograms.{plain_item, var_item, nothing, pointing, pointing_call, over}
use Rattle.spv_worked.specs.CallRuns.{swap}

-- these programs are well typed, and of each some routine does not share rightly
abbrev pub ShareWrongly : List Program → Type 0
ShareWrongly programs = IsTrue (list_all (λ r. well_typed r && not (framed r)) programs)

-- ---- functions change nothing

abbrev pub with_writing_functions : List Program
with_writing_functions =
    over nothing (record pointing { formals = place_formal n integer ∷ [] }) Empty
    ∷ over nothing (record pointing { globals = var_item (Variable p) ∷ [] }) Empty
    ∷ over nothing (record pointing { globals = plain_item (Variable p) ∷ var_item (Class node) ∷ [] }) Empty ∷ []

-- f(.., ..) with two VAR parameters
abbrev pub swapping : Designator → Designator → Statement
swapping d e = Perform (call (routine 0) 1 (by_place d (by_place e no_arguments)))

-- ---- what a routine uses is in its GLOBAL list

-- a procedure with a local n
abbrev pub using : Statement → Routine
using s = record nothing { locals = (n, integer) ∷ []; body = s }

abbrev pub routine_alone : Routine → Program
routine_alone r = over r pointing Empty

-- variables that are read
abbrev pub with_unlisted_reads : List Program
with_unlisted_reads =
    routine_alone (using (set n (read x)))
    ∷ routine_alone (using (If 1 (read b) Empty Empty))
    ∷ routine_alone (using (Case 1 (read x) no_arms))
    ∷ routine_alone (using (While 1 None (read b) Empty))
    ∷ routine_alone (using (Repeat 1 None Empty (read b)))
    ∷ routine_alone (using (For 1 None (record { variable = n; direction = Up; first = read x; last = num 3 }) Empty))
    ∷ routine_alone (using (For 1 None (record { variable = n; direction = Up; first = num 1; last = read x }) Empty))
    ∷ routine_alone (using (Sequence Empty (Case 1 (read n) (arm (pos 1 ∷ []) (set n (read x)) no_arms)))) ∷ []

-- the same in each place of an expression: operands, signs, indices, arguments, and cells behind a function's result
abbrev pub with_unlisted_operands : List Program
with_unlisted_operands =
    routine_alone (using (set n (Calculated arithmetic.Plus (read x) (num 1))))
    ∷ routine_alone (using (set n (Calculated arithmetic.Plus (num 1) (read x))))
    ∷ routine_alone (using (set n (Negative (read x))))
    ∷ routine_alone (using (If 1 (Negated (read b)) Empty Empty))
    ∷ routine_alone (using (If 1 (Compared comparison.Less (read x) (num 1)) Empty Empty))
    ∷ routine_alone (using (If 1 (Compared comparison.Less (num 1) (read x)) Empty Empty))
    ∷ routine_alone (using (If 1 (Joined connective.And (read b) (Boolean true)) Empty Empty))
    ∷ routine_alone (using (If 1 (Joined connective.And (Boolean true) (read b)) Empty Empty))
    ∷ routine_alone (record (using (set n (Read (element a (read x))))) { globals = plain_item (Variable a) ∷ [] })
    ∷ routine_alone (record (using (Assign (element a (read x)) (num 1))) { globals = var_item (Variable a) ∷ [] })
    ∷ routine_alone (record nothing {
      locals = (n, ref) ∷ [];
      globals = plain_item (Variable p) ∷ [];
      body = set n (Result (pointing_call (read x)));
    })
    ∷ routine_alone (record (using (set n (Through (pointing_call (num 1)) 1 node (at_field node val no_selectors)))) {
      globals = plain_item (Variable p) ∷ [];
    })
    ∷ []

-- variables and classes that annotations name
abbrev pub with_unlisted_annotations : List Program
with_unlisted_annotations =
    routine_alone (record nothing { entry = Some (note 1 (named b)) })
    ∷ routine_alone (record nothing { exit = Some (note 1 (named b)) })
    ∷ routine_alone (using (Assert (note 1 (named b))))
    ∷ routine_alone (using (While 1 (Some (note 1 (named b))) (Compared comparison.Less (read n) (num 1)) Empty))
    ∷ routine_alone (using (Repeat 1 (Some (note 1 (named b))) Empty (Compared comparison.Less (read n) (num 1))))
    ∷ routine_alone (using (For 1 (Some (note 1 (named b)))
    (record { variable = n; direction = Up; first = num 1; last = num 3 }) Empty))
    ∷ routine_alone (record nothing {
      formals = value_formal n ref ∷ [];
      entry = Some (note 1 (equal (formula.Content 1 node (named n)) (formula.Content 1 node (named n))));
    }) ∷ []

-- variables that are written: in no list, and in a list without VAR
abbrev pub with_unlisted_writes : List Program
with_unlisted_writes =
    routine_alone (using (set x (num 1)))
    ∷ routine_alone (record (using (set x (num 1))) { globals = plain_item (Variable x) ∷ [] })
    ∷ routine_alone (record (using (Assign (element a (num 1)) (num 1))) { globals = plain_item (Variable a) ∷ [] })
    ∷ over swap (record (using (swapping (at n) (at x))) { name = g; globals = plain_item (Variable x) ∷ [] }) Empty
    ∷ routine_alone (record (using (New 1 (at p) node)) {
      globals = plain_item (Variable p) ∷ var_item (Class node) ∷ [];
    }) ∷ []

-- cells that are read, written and made
abbrev pub with_unlisted_cells : List Program
with_unlisted_cells =
    routine_alone (record (using (set n (Read (content p)))) { globals = plain_item (Variable p) ∷ [] })
    ∷ routine_alone (record (using (set n (Read (content p)))) { globals = plain_item (Class node) ∷ [] })
    ∷ routine_alone (record (using (Assign (content p) (num 1))) {
      globals = plain_item (Variable p) ∷ plain_item (Class node) ∷ [];
    })
    ∷ routine_alone (record nothing { locals = (n, ref) ∷ []; body = New 1 (at n) node })
    ∷ routine_alone (record nothing {
      locals = (n, ref) ∷ [];
      globals = plain_item (Class node) ∷ [];
      body = New 1 (at n) node;
    }) ∷ []

-- ---- calls

-- PROCEDURE g; a caller of f, which is a procedure with this list
abbrev pub caller : Routine
caller = record nothing { name = g; body = Perform (call (routine 0) 1 no_arguments) }

-- what the callee's list has and the caller's lacks, or has without VAR; also of a function in an expression
abbrev pub with_uncovered_calls : List Program
with_uncovered_calls =
    over (record nothing { globals = plain_item (Variable x) ∷ [] }) caller Empty
    ∷ over (record nothing { globals = plain_item (Class node) ∷ [] }) caller Empty
    ∷ over (record nothing { globals = var_item (Variable x) ∷ [] })
    (record caller { globals = plain_item (Variable x) ∷ [] }) Empty
    ∷ over (record nothing {
      locals = (n, ref) ∷ [];
      body = set n (Result (pointing_call (num 1)));
    }) pointing Empty ∷ []

-- PROCEDURE f(VAR n: INTEGER) with an item
abbrev pub with_item : Statement → Program
with_item s =
    over (record nothing {
      formals = place_formal n integer ∷ [];
      globals = plain_item (Variable x) ∷ plain_item (Class node) ∷ [];
    }) pointing s

-- two VAR arguments with one root, in the main block and in a body; and one that begins with what the callee lists
abbrev pub with_meeting_arguments : List Program
with_meeting_arguments =
    over swap pointing (swapping (at x) (at x))
    ∷ over swap pointing (swapping (element a (num 1)) (element a (num 2)))
    ∷ over swap pointing (swapping (content p) (content p))
    ∷ over swap (record nothing { name = g; locals = (n, integer) ∷ []; body = swapping (at n) (at n) }) Empty
    ∷ with_item (Perform (call (routine 0) 1 (by_place (at x) no_arguments)))
    ∷ with_item (Perform (call (routine 0) 1 (by_place (content p) no_arguments))) ∷ []
