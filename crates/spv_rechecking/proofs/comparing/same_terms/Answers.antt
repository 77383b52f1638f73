use Rattle.std.proofs.Common.{arith}
use Rattle.spv_rechecking.proofs.CompareLemmas.{lengths_differ}
use Rattle.spv_rechecking.proofs.comparing.same_terms.Goals as goal

pub returns-then-left-right : goal.returns-then-left-right
returns-then-left-right c = lengths_differ c.args.terms.now c.args.left.now c.args.right.now (λ e. omega (arith, c.if-left-right.true, e))
