-- Programs that do nothing but assign variables and constants to variables.
use Rattle.std.specs.Prelude.{Bool, true, false, ◌&&◌, List, [], ◌∷◌}
use Rattle.spv_program.specs.Expressions.{Expression, Designator, Selectors, Numeral, Boolean, NilOf, Read, designator, no_selectors}
use Rattle.spv_program.specs.Statements.{Statement, Empty, Assign, Sequence}
use Rattle.spv_program.specs.Programs.{Routine, Program}

abbrev pub has_none : Selectors → Bool
has_none no_selectors = true
has_none _ = false

abbrev pub is_variable : Designator → Bool
is_variable (designator line x others) = has_none others

-- a variable, a number, a truth value or NIL
abbrev pub is_simple : Expression → Bool
is_simple (Numeral z) = true
is_simple (Boolean b) = true
is_simple (NilOf t) = true
is_simple (Read d) = is_variable d
is_simple _ = false

abbrev pub is_block : Statement → Bool
is_block Empty = true
is_block (Assign d e) = is_variable d && is_simple e
is_block (Sequence a b) = is_block a && is_block b
is_block _ = false

abbrev pub has_no_routines : List Routine → Bool
has_no_routines [] = true
has_no_routines (r ∷ routines) = false

-- no routines, and a main block of such assignments
abbrev pub only_assigns : Program → Bool
only_assigns p = has_no_routines p.routines && is_block p.main.body
