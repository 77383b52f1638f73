use Rattle.std.proofs.Common.{arith}
use Rattle.spv_rechecking.proofs.written_terms.Named.{lengths_differ}
use Rattle.spv_rechecking.proofs.written_terms.sorts.same_sorts.Goals as goal

pub returns-then-left-right : goal.returns-then-left-right
returns-then-left-right c = lengths_differ c.args.left.now c.args.right.now (λ e. omega (arith, c.if-left-right.true, e))
