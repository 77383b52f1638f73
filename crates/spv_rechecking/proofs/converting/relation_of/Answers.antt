use Rattle.spv_rechecking.proofs.ConvertLemmas.{found_relation, no_relation}
use Rattle.spv_rechecking.proofs.converting.relation_of.Goals as goal

pub returns-then-args-ne2 : goal.returns-then-args-ne2
returns-then-args-ne2 c = no_relation c.args.terms.now c.law_arena.ensures c.args.t c.node-node.result.now c.node-node.ensures c.as_slice-args.result.now c.as_slice-args.ensures c.if-args-ne2.true

pub returns : goal.returns
returns c =
    found_relation c.args.terms.now c.law_arena.ensures c.args.t c.node-node.result.now c.node-node.ensures c.as_slice-args.result.now c.as_slice-args.ensures _ _ c.if-args-ne2.false c.relation_over.result c.relation_over.ensures
