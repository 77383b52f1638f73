use Rattle.spv_derivations.proofs.branches.Turning.{turning_on}
use Rattle.spv_derivations.proofs.branches.closing.turn.Goals as goal

pub loop-step-preserved : goal.loop-step-preserved
loop-step-preserved c =
    turning_on c.loop-step.other.items c.push.new.self.items c.loop-step.left.items c.pop.new.self.items c.args.steps.items c.in-Some.step c.loop-step.invariant c.in-Some.ensures.items c.in_ok-push.ensures.items
