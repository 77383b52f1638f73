use Rattle.spv_table.proofs.Keeping.{order_all_behind}
use Rattle.spv_table.proofs.table.Table.evaluated.Goals as goal

pub all_kept-requires-clause-behind : goal.all_kept-requires-clause-behind
all_kept-requires-clause-behind c = order_all_behind c.args.terms.now c.law_arena.ensures c.in_ok-order.order c.args.roots.now c.in_ok-order.ensures.in_range c.in_ok-order.ensures.order
