use Rattle.std.proofs.Common.{refl}
use Rattle.spv_logic.specs.declared.operators.Head.TheVariants as head
use Rattle.spv_proof_steps.proofs.StepLemmas.{constant-at, not_true}
use Rattle.spv_proof_steps.proofs.steps.is_true.Goals as goal

pub returns-in-True : goal.returns-in-True
returns-in-True c = constant-at c.args.terms.now c.law_arena.ensures c.args.t c.node.result.now head.True c.node.ensures c.in-True.is refl refl

pub returns-in_default : goal.returns-in_default
returns-in_default c = not_true c.args.terms.now c.law_arena.ensures c.args.t c.node.result.now c.node.ensures c.in_default.not-True
