use Rattle.std.proofs.Common.{length, arith}
use Rattle.spv_verdicts.proofs.candidate_models.Worths.{arguments_in, more_in, pair_in_here}
use Rattle.spv_verdicts.proofs.candidate_models.keys.arguments.Goals as goal

pub node-node-requires : goal.node-node-requires
node-node-requires c = pair_in_here c.args.terms.now c.args.pairs.now c.loop-place.place c.index-pairs-place.result c.requires (omega (arith, c.loop-place-test.true))

pub loop-place-preserved : goal.loop-place-preserved
loop-place-preserved c =
    more_in (length c.args.terms.now.nodes) c.loop-place.ids.items c.extend_from_slice.new.self.items c.as_slice.result.now c.in_ok-extend_from_slice.ensures.items c.loop-place.invariant
    (arguments_in c.args.terms.now c.law_arena.ensures _ c.node-node.result.now c.node-node.ensures c.as_slice.result.now c.as_slice.ensures)
