use Rattle.spv_rules.proofs.matching.Adding.{other_lengths}
use Rattle.spv_rules.proofs.matching.instances.same_terms.Goals as goal

pub returns-then-left-right : goal.returns-then-left-right
returns-then-left-right c = other_lengths c.args.left.now c.args.right.now c.if-left-right.true
