use Rattle.std.proofs.Common.{◌∙◌}
use Rattle.spv_atoms.proofs.Walks.{args_at}
use Rattle.spv_atoms.proofs.Values.{relation_at}
use Rattle.spv_atoms.proofs.numerals.numeral_relation.Goals as goal

pub relation-requires : goal.relation-requires
relation-requires c = args_at c.args.terms.now c.law_arena.ensures c.args.t c.node-node.result.now c.node-node.ensures c.as_slice.result.now c.as_slice.ensures

pub returns : goal.returns
returns c = c.relation.ensures ∙ relation_at c.args.terms.now c.law_arena.ensures c.args.t c.node-node.result.now c.as_slice.result.now c.node-node.ensures c.as_slice.ensures
