use Rattle.spv_atoms.proofs.Walks.{meaning_at}
use Rattle.spv_atoms.proofs.walk.has_meaning.Goals as goal

pub returns : goal.returns
returns c = meaning_at c.args.terms.now c.law_arena.ensures c.args.t c.node.result.now c.node.ensures c.has_meaning_head.result c.has_meaning_head.ensures
