use Rattle.std.proofs.Common.{◌∙◌}
use Rattle.spv_union_find.proofs.signatures.Heads.{head_test}
use Rattle.spv_union_find.proofs.signatures.rows.same_head.Goals as goal

pub returns : goal.returns
returns c = c.eq.ensures ∙ head_test c.args.left c.args.right
