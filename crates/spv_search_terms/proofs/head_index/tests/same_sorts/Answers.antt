use Rattle.std.proofs.Common.{arith}
use Rattle.spv_term.specs.Arena.{sorts_at}
use Rattle.spv_search_terms.proofs.head_index.TestLemmas.{lengths_differ, length-sorts}
use Rattle.spv_search_terms.proofs.head_index.tests.same_sorts.Goals as goal

pub returns-then-left-right : goal.returns-then-left-right
returns-then-left-right c =
    lengths_differ (sorts_at c.args.terms.now c.args.left.now) (sorts_at c.args.terms.now c.args.right.now)
    (λ e. omega (arith, c.if-left-right.true, e, length-sorts c.args.terms.now c.args.left.now, length-sorts c.args.terms.now c.args.right.now))
