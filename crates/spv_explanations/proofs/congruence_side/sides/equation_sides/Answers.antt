use Rattle.std.proofs.Common.{length, sym, subst}
use Rattle.spv_term.specs.Arena.{AllBelow}
use Rattle.spv_term.proofs.ArenaLemmas.{args_in_range}
use Rattle.spv_explanations.proofs.congruence_side.sides.equation_sides.Goals as goal

pub unless_truths-requires : goal.unless_truths-requires
unless_truths-requires c =
    subst (AllBelow (length c.args.terms.now.nodes)) (sym c.as_slice.ensures) (args_in_range c.args.terms.now c.law_arena.ensures c.args.t c.node-node.result.now c.node-node.ensures)
