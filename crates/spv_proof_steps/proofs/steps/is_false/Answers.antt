use Rattle.std.proofs.Common.{refl}
use Rattle.spv_logic.specs.declared.operators.Head.TheVariants as head
use Rattle.spv_proof_steps.proofs.StepLemmas.{constant-at, not_false}
use Rattle.spv_proof_steps.proofs.steps.is_false.Goals as goal

pub returns-in-False : goal.returns-in-False
returns-in-False c = constant-at c.args.terms.now c.law_arena.ensures c.args.t c.node.result.now head.False c.node.ensures c.in-False.is refl refl

pub returns-in_default : goal.returns-in_default
returns-in_default c = not_false c.args.terms.now c.law_arena.ensures c.args.t c.node.result.now c.node.ensures c.in_default.not-False
