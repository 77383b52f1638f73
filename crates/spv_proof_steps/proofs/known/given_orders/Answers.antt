use Rattle.std.proofs.Common.{length}
use Rattle.spv_proof_steps.proofs.ValuedLemmas.{AllBelow-more}
use Rattle.spv_proof_steps.proofs.GivenLemmas.{orders_step}
use Rattle.spv_proof_steps.proofs.known.given_orders.Goals as goal

pub loop-fact-preserved : goal.loop-fact-preserved
loop-fact-preserved c = record {
  in_range = AllBelow-more (length c.args.terms.now.nodes) c.args.cited.now c.loop-fact.fact-index c.loop-fact.invariant.in_range;
  orders = orders_step c.args.terms.now c.args.cited.now c.loop-fact.orders c.add.new.self c.loop-fact.fact-index _ c.loop-fact-test.true c.loop-fact.invariant.orders c.in_ok-add.ensures;
}
