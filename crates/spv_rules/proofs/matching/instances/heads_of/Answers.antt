use Rattle.std.proofs.Common.{length}
use Rattle.spv_proof_steps.proofs.StepLemmas.{AllBelow-read}
use Rattle.spv_rules.proofs.matching.Adding.{heads_next}
use Rattle.spv_rules.proofs.matching.instances.heads_of.Goals as goal

pub node-requires : goal.node-requires
node-requires c = AllBelow-read (length c.args.terms.now.nodes) c.args.ts.now c.loop-t.t-index _ c.requires c.loop-t-test.true

pub loop-t-preserved : goal.loop-t-preserved
loop-t-preserved c =
    heads_next c.args.terms.now c.law_arena.ensures c.args.ts.now c.loop-t.t-index _ c.loop-t-test.true c.node.result.now c.node.ensures c.loop-t.heads.items c.push.new.self.items c.in_ok-push.ensures.items c.loop-t.invariant
