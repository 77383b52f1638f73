use Rattle.spv_atoms.proofs.Values.{order_is_layered, order_has_roots}
use Rattle.spv_atoms.proofs.valued.connected.Goals as goal

pub returns-clause-layered : goal.returns-clause-layered
returns-clause-layered c =
    order_is_layered c.args.terms.now c.law_arena.ensures c.in_ok-order.order c.args.roots.now c.in_ok-order.ensures.in_range c.requires c.in_ok-order.ensures.order

pub returns-clause-roots : goal.returns-clause-roots
returns-clause-roots c =
    order_has_roots c.args.terms.now c.law_arena.ensures c.in_ok-order.order c.args.roots.now c.in_ok-order.ensures.in_range c.requires c.in_ok-order.ensures.order
