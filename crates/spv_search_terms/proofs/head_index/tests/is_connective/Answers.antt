use Rattle.spv_atoms.proofs.Walks.{connective_at, args_at}
use Rattle.spv_search_terms.proofs.head_index.tests.is_connective.Goals as goal

pub connects-requires : goal.connects-requires
connects-requires c = args_at c.args.terms.now c.law_arena.ensures c.args.t c.node-node.result.now c.node-node.ensures c.as_slice.result.now c.as_slice.ensures

pub returns : goal.returns
returns c =
    connective_at c.args.terms.now c.law_arena.ensures c.args.t c.node-node.result.now c.node-node.ensures c.as_slice.result.now c.connects.result c.as_slice.ensures c.connects.ensures
