use Rattle.spv_derivations.proofs.branches.Turning.{putting_on}
use Rattle.spv_derivations.proofs.branches.closing.derive_all.Goals as goal

pub loop-step-preserved : goal.loop-step-preserved
loop-step-preserved c =
    putting_on c.args.path.now c.loop-step.path c.derive.new.self c.loop-step.left.items c.pop.new.self.items c.args.steps.items c.in-Some.step c.loop-step.invariant c.in-Some.ensures.items c.in_ok-derive.ensures.entry
