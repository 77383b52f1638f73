use Rattle.spv_proof.proofs.sums.Pairs.{args-below}
use Rattle.spv_arithmetic_side.proofs.bounds.Pairing.{with_sides, without_sides}
use Rattle.spv_arithmetic_side.proofs.bounds.relation.number_sides.Goals as goal

pub number_pair-requires : goal.number_pair-requires
number_pair-requires c = args-below c.args.terms.now c.law_arena.ensures c.args.t c.node-node.result.now c.node-node.ensures c.as_slice.result.now c.as_slice.ensures

pub returns-in-Eq : goal.returns-in-Eq
returns-in-Eq c =
    with_sides c.args.terms.now c.law_arena.ensures c.args.t c.node-node.result.now c.node-node.ensures c.as_slice.result.now c.as_slice.ensures c.in-Eq.is c.number_pair.result c.number_pair.ensures

pub returns-in_default : goal.returns-in_default
returns-in_default c =
    without_sides c.args.terms.now c.law_arena.ensures c.args.t c.node-node.result.now c.node-node.ensures c.in_default.not-Eq c.in_default.not-Lt c.in_default.not-Le
