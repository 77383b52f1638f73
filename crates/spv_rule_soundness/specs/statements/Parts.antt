-- Statements whose parts pass: leaves, tests, and variables that are counted.
use Rattle.std.specs.Prelude.{Bool, true, ◌&&◌}
use Rattle.spv_program.specs.Expressions.{Expression}
use Rattle.spv_program.specs.Statements.{Counting, Statement, Arms, Empty, Assign, Perform, New, Sequence, If, Case, While, Repeat, For, Assert, no_arms, arm}

-- what is asked of assignments, calls and NEW, of expressions, of those that are numbers, and of FORs with their bodies
pub record Passing : Type 0 where
  pub leaf : Statement → Bool
  pub test : Expression → Bool
  pub number : Expression → Bool
  pub count : Counting → Statement → Bool

abbrev mutual
  -- whether each part of a statement passes
  pub parts_pass : Passing → Statement → Bool
  parts_pass passing Empty = true
  parts_pass passing (Assign d e) = passing.leaf (Assign d e)
  parts_pass passing (Perform c) = passing.leaf (Perform c)
  parts_pass passing (New line d t) = passing.leaf (New line d t)
  parts_pass passing (Sequence a b) = parts_pass passing a && parts_pass passing b
  parts_pass passing (If line e a b) = passing.test e && (parts_pass passing a && parts_pass passing b)
  parts_pass passing (Case line e arms) = passing.test e && (passing.number e && arms_pass passing arms)
  parts_pass passing (While line f e s) = passing.test e && parts_pass passing s
  parts_pass passing (Repeat line f s e) = passing.test e && parts_pass passing s
  parts_pass passing (For line f count s) =
      passing.count count s && (passing.test count.first && (passing.test count.last && (passing.number count.first && parts_pass passing s)))
  parts_pass passing (Assert a) = true

  pub arms_pass : Passing → Arms → Bool
  arms_pass passing no_arms = true
  arms_pass passing (arm labels s others) = parts_pass passing s && arms_pass passing others
