use Rattle.std.proofs.Common.{subst, sym}
use Rattle.spv_term.specs.Arena.{AllBelow}
use Rattle.spv_term.proofs.ArenaLemmas.{args_before}
use Rattle.spv_congruence.proofs.kept.Kept.step.Goals as goal

pub add_one-requires-clause-below : goal.add_one-requires-clause-below
add_one-requires-clause-below c = subst (AllBelow c.args.x.0) (sym c.as_slice-args.ensures) (args_before c.args.terms.now c.law_arena.ensures c.args.x c.node-node.result.now c.node-node.ensures)
