use Rattle.spv_atoms.proofs.Walks.{sum_at}
use Rattle.spv_atoms.proofs.walk.is_sum.Goals as goal

pub returns : goal.returns
returns c = sum_at c.args.terms.now c.law_arena.ensures c.args.t c.node.result.now c.node.ensures c.is_sum_head.result c.is_sum_head.ensures
