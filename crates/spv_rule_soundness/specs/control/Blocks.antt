-- Programs whose main block assigns whole variables and has every control statement, and calls nothing.
use Rattle.std.specs.Prelude.{Bool, true, false, ◌&&◌, List, [], ◌∷◌}
use Rattle.spv_program.specs.Expressions.{Expression, Designator, Call, designator, no_selectors}
use Rattle.spv_program.specs.Statements.{Statement, Arms, Empty, Assign, Perform, New, Sequence, If, Case, While, Repeat, For, Assert, no_arms, arm}
use Rattle.spv_program.specs.Programs.{Program}
use Rattle.spv_program.specs.Uses.{expression_calls}
use Rattle.spv_meaning.specs.Assignments.{has_no_routines}

abbrev pub is_whole : Designator → Bool
is_whole (designator line x no_selectors) = true
is_whole _ = false

abbrev pub none : List Call → Bool
none [] = true
none (c ∷ calls) = false

-- whether an expression calls no function
abbrev pub calls_nothing : Expression → Bool
calls_nothing e = none (expression_calls e)

abbrev mutual
  -- whether a statement assigns whole variables alone, and calls nothing
  pub is_control : Statement → Bool
  is_control Empty = true
  is_control (Assign d e) = is_whole d && calls_nothing e
  is_control (Perform c) = false
  is_control (New line d t) = false
  is_control (Sequence a b) = is_control a && is_control b
  is_control (If line e a b) = calls_nothing e && (is_control a && is_control b)
  is_control (Case line e arms) = calls_nothing e && arms_control arms
  is_control (While line f e s) = calls_nothing e && is_control s
  is_control (Repeat line f s e) = calls_nothing e && is_control s
  is_control (For line f count s) = calls_nothing count.first && (calls_nothing count.last && is_control s)
  is_control (Assert a) = true

  pub arms_control : Arms → Bool
  arms_control no_arms = true
  arms_control (arm labels s others) = is_control s && arms_control others

abbrev pub only_control : Program → Bool
only_control p = has_no_routines p.routines && is_control p.main.body
