use Rattle.spv_proof_steps.proofs.ValuedLemmas.{facts_give-here, facts_give-later, AllBelow-more}
use Rattle.std.proofs.Common.{length}
use Rattle.spv_proof_steps.proofs.valued.given_by_facts.Goals as goal

pub returns-in-Some : goal.returns-in-Some
returns-in-Some c = facts_give-here c.args.terms.now c.args.t c.args.cited.now c.loop-fact.fact-index _ c.in-Some.value c.loop-fact-test.true c.loop-fact.invariant.same c.in-Some.ensures

pub loop-fact-preserved : goal.loop-fact-preserved
loop-fact-preserved c = record {
  in_range = AllBelow-more (length c.args.terms.now.nodes) c.args.cited.now c.loop-fact.fact-index c.loop-fact.invariant.in_range;
  same = facts_give-later c.args.terms.now c.args.t c.args.cited.now c.loop-fact.fact-index _ c.loop-fact-test.true c.loop-fact.invariant.same c.in_default.ensures;
}
