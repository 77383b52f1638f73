-- How large statements are: larger than each of their parts.
use Rattle.std.specs.Prelude.{ℕ, suc, ◌+◌}
use Rattle.spv_program.specs.Statements.{Statement, Arms, Empty, Assign, Perform, New, Sequence, If, Case, While, Repeat, For, Assert, no_arms, arm}

abbrev mutual
  pub statement_size : Statement → ℕ
  statement_size Empty = 1
  statement_size (Assign d e) = 1
  statement_size (Perform c) = 1
  statement_size (New line d t) = 1
  statement_size (Sequence a b) = suc (statement_size a + statement_size b)
  statement_size (If line e a b) = suc (statement_size a + statement_size b)
  statement_size (Case line e arms) = suc (arms_size arms)
  statement_size (While line f e s) = suc (statement_size s)
  statement_size (Repeat line f s e) = suc (statement_size s)
  statement_size (For line f count s) = suc (statement_size s)
  statement_size (Assert a) = 1

  pub arms_size : Arms → ℕ
  arms_size no_arms = 0
  arms_size (arm labels s others) = suc (statement_size s + arms_size others)
