use Rattle.std.proofs.Common.{arith}
use Rattle.spv_term.proofs.substitution.FreshLemmas.{greatest-before}
use Rattle.spv_term.proofs.substitution.numbers.greatest.Goals as goal

pub loop-left-preserved : goal.loop-left-preserved
loop-left-preserved c = record {
  within = omega arith;
  same = greatest-before c.args.name c.args.sort c.args.terms.now.nodes c.loop-left.left c.node.result.now c.number_for.result c.loop-left.most c.max-most.result
      c.loop-left-test.true c.node.ensures c.number_for.ensures c.loop-left.invariant.same c.max-most.ensures;
}
