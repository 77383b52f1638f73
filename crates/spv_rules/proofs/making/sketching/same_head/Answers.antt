use Rattle.std.proofs.Common.{◌∙◌}
use Rattle.spv_proof_steps.proofs.Heads.{head_test}
use Rattle.spv_rules.proofs.making.sketching.same_head.Goals as goal

pub returns : goal.returns
returns c = c.eq.ensures ∙ head_test c.args.left c.args.right
