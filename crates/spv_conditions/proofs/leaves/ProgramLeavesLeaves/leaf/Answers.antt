use Rattle.std.proofs.Common.{◌≡◌, true, subst, sym, ap, ◌∙◌}
use Rattle.spv_program.specs.Statements.{Statement}
use Rattle.spv_program.specs.typed.StatementViews.{statement_of}
use Rattle.spv_conditions.specs.Leaves.{takes_leaf}
use Rattle.spv_conditions.proofs.Taken.{no_block}
use Rattle.spv_conditions.proofs.leaves.ProgramLeavesLeaves.leaf.Goals as goal

pub unreachable-requires : goal.unreachable-requires
unreachable-requires c =
    no_block c.args.program.now c.args.body.now.here c.in-Block.field-0.items
    (subst (λ (s : Statement). takes_leaf c.args.program.now c.args.body.now.here s ≡ true) (sym (ap statement_of (sym c.in-Block.is) ∙ c.s.view_is)) c.requires.takes)
