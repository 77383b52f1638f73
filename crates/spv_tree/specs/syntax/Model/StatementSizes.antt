-- How large statements are: larger than each of their parts. And the lists of the code as plain data.
use Rattle.std.specs.Prelude.{ℕ, suc, ◌+◌, List, [], ◌∷◌}
use Rattle.spv_tree.specs.syntax.Statements.{Statement, empty, assignment, call, creation, compound, conditional, selection, repetition, assertion, Otherwise, nothing_otherwise, otherwise, Block, block, MoreStatements, no_more_statements, more_statements, Arm, no_arm, arm, MoreArms, no_more_arms, more_arms, Loop, while_loop, repeat_loop, for_loop}

abbrev pub more_statements_of : List Statement → MoreStatements
more_statements_of [] = no_more_statements
more_statements_of (s ∷ ss) = more_statements s (more_statements_of ss)

abbrev pub more_arms_of : List Arm → MoreArms
more_arms_of [] = no_more_arms
more_arms_of (a ∷ others) = more_arms a (more_arms_of others)

abbrev mutual
  pub statement_size : Statement → ℕ
  statement_size (empty a) = 1
  statement_size (assignment a b c) = 1
  statement_size (call a b c) = 1
  statement_size (creation a b) = 1
  statement_size (compound a b) = suc (block_size b)
  statement_size (conditional a b c d) = suc (statement_size c + otherwise_size d)
  statement_size (selection a b c d) = suc (arm_size c + more_arms_size d)
  statement_size (repetition a b c) = suc (loop_size c)
  statement_size (assertion a b) = 1

  pub otherwise_size : Otherwise → ℕ
  otherwise_size nothing_otherwise = 0
  otherwise_size (otherwise a) = statement_size a

  pub block_size : Block → ℕ
  block_size (block a b c) = suc (statement_size b + more_statements_size c)

  pub more_statements_size : MoreStatements → ℕ
  more_statements_size no_more_statements = 0
  more_statements_size (more_statements a b) = statement_size a + more_statements_size b

  pub arm_size : Arm → ℕ
  arm_size (no_arm a) = 1
  arm_size (arm a b c) = suc (statement_size c)

  pub more_arms_size : MoreArms → ℕ
  more_arms_size no_more_arms = 0
  more_arms_size (more_arms a b) = arm_size a + more_arms_size b

  pub loop_size : Loop → ℕ
  loop_size (while_loop a b c) = suc (statement_size c)
  loop_size (repeat_loop a b c d) = suc (statement_size b + more_statements_size c)
  loop_size (for_loop a b c d e f) = suc (statement_size f)
