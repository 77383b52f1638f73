-- Statements as plain data.
use Rattle.std.specs.Prelude.{ℕ, Option}
use Rattle.spv_tree.specs.declared.syntax.lists.Several.{Several}
use Rattle.spv_tree.specs.declared.syntax.names.Name.{Name}
use Rattle.spv_tree.specs.declared.syntax.names.Constant.{Constant}
use Rattle.spv_tree.specs.declared.syntax.operators.Direction.{Direction}
use Rattle.spv_tree.specs.syntax.Formulas.{Formula, Designator}

mutual
  -- [designator ":=" formula | name ["(" formula {"," formula} ")"] | NEW "(" designator ")" | block
  -- | IF formula THEN statement [ELSE statement] | CASE formula OF arm {";" arm} END | [INVARIANT formula] loop | ASSERT formula]
  pub data Statement : Type 0 where
    empty : ℕ → Statement
    assignment : ℕ → Designator → Formula → Statement
    call : ℕ → Name → Option (Several Formula) → Statement
    creation : ℕ → Designator → Statement
    compound : ℕ → Block → Statement
    conditional : ℕ → Formula → Statement → Otherwise → Statement
    selection : ℕ → Formula → Arm → MoreArms → Statement
    repetition : ℕ → Option Formula → Loop → Statement
    assertion : ℕ → Formula → Statement

  -- [ELSE statement]
  pub data Otherwise : Type 0 where
    nothing_otherwise : Otherwise
    otherwise : Statement → Otherwise

  -- BEGIN statement {";" statement} END
  pub data Block : Type 0 where
    block : ℕ → Statement → MoreStatements → Block

  -- {";" statement}
  pub data MoreStatements : Type 0 where
    no_more_statements : MoreStatements
    more_statements : Statement → MoreStatements → MoreStatements

  -- [constant {"," constant} ":" statement]
  pub data Arm : Type 0 where
    no_arm : ℕ → Arm
    arm : ℕ → Several Constant → Statement → Arm

  -- {";" arm}
  pub data MoreArms : Type 0 where
    no_more_arms : MoreArms
    more_arms : Arm → MoreArms → MoreArms

  -- WHILE formula DO statement | REPEAT statement {";" statement} UNTIL formula
  -- | FOR name ":=" formula (TO | DOWNTO) formula DO statement
  pub data Loop : Type 0 where
    while_loop : ℕ → Formula → Statement → Loop
    repeat_loop : ℕ → Statement → MoreStatements → Formula → Loop
    for_loop : ℕ → Name → Formula → Direction → Formula → Statement → Loop
