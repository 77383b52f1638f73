use Rattle.std.proofs.Common.{◌+◌, ◌*◌}
use Rattle.spv_tree.specs.syntax.Members.{in_kinds}
use Rattle.spv_tree.specs.syntax.StatementSpelling.{more_arms_spelling, more_statements_spelling}
use Rattle.spv_tree.specs.syntax.Model.StatementSizes.{more_statements_of, more_arms_of, statement_size, otherwise_size, block_size, more_statements_size, arm_size, more_arms_size, loop_size}
use Rattle.spv_tree.specs.syntax.StatementViews.{otherwise_of}
use Rattle.spv_tests.proofs.flat.Loops.{ComeTo}
use Rattle.spv_tests.proofs.flat.statements.+statements.Given as goal

abbrev pub invariant-more_statements-loop-part : goal.invariant-more_statements-loop-part
invariant-more_statements-loop-part l = ComeTo (λ ss. more_statements_spelling in_kinds (more_statements_of ss)) l.more l.part-index l.initial.out.items l.out.items

abbrev pub invariant-more_arms-loop-part : goal.invariant-more_arms-loop-part
invariant-more_arms-loop-part l = ComeTo (λ xs. more_arms_spelling in_kinds (more_arms_of xs)) l.more l.part-index l.initial.out.items l.out.items

abbrev pub decreases-statement : goal.decreases-statement
decreases-statement l = 2 * statement_size l.tree.now

abbrev pub decreases-block : goal.decreases-block
decreases-block l = 2 * block_size l.tree.now

abbrev pub decreases-arm : goal.decreases-arm
decreases-arm l = 2 * arm_size l.tree.now

abbrev pub decreases-repetition : goal.decreases-repetition
decreases-repetition l = 2 * loop_size l.tree.now

abbrev pub decreases-otherwise : goal.decreases-otherwise
decreases-otherwise l = 2 * otherwise_size (otherwise_of l.other.now) + 1

abbrev pub decreases-more_statements : goal.decreases-more_statements
decreases-more_statements l = 2 * more_statements_size (more_statements_of l.more.now) + 1

abbrev pub decreases-more_arms : goal.decreases-more_arms
decreases-more_arms l = 2 * more_arms_size (more_arms_of l.more.now) + 1
