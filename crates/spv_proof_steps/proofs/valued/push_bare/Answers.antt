use Rattle.std.proofs.Common.{length}
use Rattle.spv_proof_steps.proofs.StepLemmas.{AllBelow-pushed}
use Rattle.spv_proof_steps.proofs.ValuedLemmas.{AllBelow-more, bare_more}
use Rattle.spv_proof_steps.proofs.valued.push_bare.Goals as goal

pub loop-fact-preserved : goal.loop-fact-preserved
loop-fact-preserved c = record {
  facts_in = AllBelow-more (length c.args.terms.now.nodes) c.args.facts.now c.loop-fact.fact-index c.loop-fact.invariant.facts_in;
  out_in = AllBelow-pushed (length c.args.terms.now.nodes) c.loop-fact.out.items c.push.new.self.items c.bare.result c.loop-fact.invariant.out_in c.bare.ensures.in_range c.in_ok-push.ensures.items;
  same = bare_more c.args.terms.now c.args.out.now.items c.loop-fact.out.items c.push.new.self.items c.args.facts.now c.loop-fact.fact-index _ c.bare.result c.loop-fact-test.true c.loop-fact.invariant.same c.bare.ensures.value c.in_ok-push.ensures.items;
}
