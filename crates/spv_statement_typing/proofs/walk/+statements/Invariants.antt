use Rattle.std.proofs.Common.{◌+◌, ◌*◌}
use Rattle.spv_tree.specs.syntax.Model.StatementSizes.{more_statements_of, more_arms_of, statement_size, otherwise_size, block_size, more_statements_size, arm_size, more_arms_size, loop_size}
use Rattle.spv_tree.specs.syntax.StatementViews.{otherwise_of}
use Rattle.spv_statement_typing.specs.Settings.{setting_of}
use Rattle.spv_statement_typing.proofs.Loops.{ChainSoFar, ArmsDone}
use Rattle.spv_statement_typing.proofs.walk.+statements.Given as goal

abbrev pub invariant-statements-loop-other : goal.invariant-statements-loop-other
invariant-statements-loop-other l = ChainSoFar (setting_of l.setting) l.first l.more l.other-index l.made.items

abbrev pub invariant-arms-loop-other : goal.invariant-arms-loop-other
invariant-arms-loop-other l = ArmsDone (setting_of l.setting) l.first l.more l.other-index l.seen l.made.items

abbrev pub decreases-statement : goal.decreases-statement
decreases-statement l = 8 * statement_size l.tree.now

abbrev pub decreases-boxed : goal.decreases-boxed
decreases-boxed l = 8 * statement_size l.tree.now + 1

abbrev pub decreases-block : goal.decreases-block
decreases-block l = 8 * block_size l.tree.now

abbrev pub decreases-statements : goal.decreases-statements
decreases-statements l = 8 * (statement_size l.first.now + more_statements_size (more_statements_of l.more.now)) + 4

abbrev pub decreases-otherwise : goal.decreases-otherwise
decreases-otherwise l = 8 * otherwise_size (otherwise_of l.tree.now) + 2

abbrev pub decreases-conditional : goal.decreases-conditional
decreases-conditional l = 8 * (statement_size l.first.now + otherwise_size (otherwise_of l.other.now)) + 4

abbrev pub decreases-selection : goal.decreases-selection
decreases-selection l = 8 * (arm_size l.first.now + more_arms_size (more_arms_of l.more.now)) + 6

abbrev pub decreases-boxed_arms : goal.decreases-boxed_arms
decreases-boxed_arms l = 8 * (arm_size l.first.now + more_arms_size (more_arms_of l.more.now)) + 5

abbrev pub decreases-arms : goal.decreases-arms
decreases-arms l = 8 * (arm_size l.first.now + more_arms_size (more_arms_of l.more.now)) + 4

abbrev pub decreases-add_arm : goal.decreases-add_arm
decreases-add_arm l = 8 * arm_size l.tree.now + 2

abbrev pub decreases-arm : goal.decreases-arm
decreases-arm l = 8 * statement_size l.body.now + 3

abbrev pub decreases-repetition : goal.decreases-repetition
decreases-repetition l = 8 * loop_size l.inside.now + 2

abbrev pub decreases-repeated : goal.decreases-repeated
decreases-repeated l = 8 * loop_size l.inside.now + 1

abbrev pub decreases-while_loop : goal.decreases-while_loop
decreases-while_loop l = 8 * statement_size l.body.now + 2

abbrev pub decreases-repeat_loop : goal.decreases-repeat_loop
decreases-repeat_loop l = 8 * (statement_size l.first.now + more_statements_size (more_statements_of l.more.now)) + 6

abbrev pub decreases-boxed_statements : goal.decreases-boxed_statements
decreases-boxed_statements l = 8 * (statement_size l.first.now + more_statements_size (more_statements_of l.more.now)) + 5

abbrev pub decreases-for_loop : goal.decreases-for_loop
decreases-for_loop l = 8 * statement_size l.body.now + 2
