use Rattle.std.proofs.Common.{cond, Some, ap, ◌∙◌}
use Rattle.spv_trail.specs.followers.Followers.{pair, same_pair, order_of}
use Rattle.spv_trail.proofs.followers.orders.Orders.put.Goals as goal

pub returns : goal.returns
returns c = record {
  get = λ q. c.in_ok-insert.ensures.updates.0 q ∙ ap (λ es. cond (same_pair (pair c.args.left c.args.right) q) (Some c.args.t) (order_of es q)) c.self.view_is;
}
