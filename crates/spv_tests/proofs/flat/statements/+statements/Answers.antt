use Rattle.std.proofs.Common.{◌≤◌, ◌∷◌, List, subst, sym, arith}
use Rattle.spv_tree.specs.syntax.Statements.{Statement, Arm}
use Rattle.spv_tree.specs.syntax.Model.StatementSizes.{more_statements_of, more_arms_of, statement_size, more_statements_size, arm_size, more_arms_size}
use Rattle.spv_tests.proofs.flat.Sizes.{statement_within, arm_within}
use Rattle.spv_tests.proofs.flat.statements.+statements.Goals as goal

pub more_statements-statement-requires : goal.more_statements-statement-requires
more_statements-statement-requires t c =
    let within : statement_size c.part-item.result ≤ more_statements_size (more_statements_of c.args.more.now) =
    subst (λ (s : Statement). statement_size s ≤ more_statements_size (more_statements_of c.args.more.now)) (sym c.part-item.is)
    (statement_within c.args.more.now c.loop-part.part-index c.part-item.result (omega arith)) in
    (omega (arith, c.decreases), tt)

pub more_arms-arm-requires : goal.more_arms-arm-requires
more_arms-arm-requires t c =
    let within : arm_size c.part-item.result ≤ more_arms_size (more_arms_of c.args.more.now) =
    subst (λ (a : Arm). arm_size a ≤ more_arms_size (more_arms_of c.args.more.now)) (sym c.part-item.is)
    (arm_within c.args.more.now c.loop-part.part-index c.part-item.result (omega arith)) in
    (omega (arith, c.decreases), tt)
