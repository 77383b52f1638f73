use Rattle.spv_trail.proofs.followers.Ordering.{one_order, pair_in}
use Rattle.spv_trail.proofs.followers.orders.add_order.Goals as goal

pub returns-in_ok-put-in-Some : goal.returns-in_ok-put-in-Some
returns-in_ok-put-in-Some c = one_order c.args.terms.now c.law_arena.ensures c.args.t c.requires.t c.args.orders.now c.requires.orders c.lower.result c.lower.ensures.value (c.in-Some.left, c.in-Some.right) c.in-Some.is
    (pair_in c.args.terms.now c.lower.result (c.in-Some.left, c.in-Some.right) c.lower.ensures.in_range c.in-Some.is) c.put.new.self c.in_ok-put-in-Some.ensures
