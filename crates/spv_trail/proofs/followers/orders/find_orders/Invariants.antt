use Rattle.spv_trail.specs.followers.Followers.{AreOrders}
use Rattle.spv_trail.proofs.followers.orders.find_orders.Given as goal

abbrev pub invariant-loop-place : goal.invariant-loop-place
invariant-loop-place l = AreOrders l.terms l.place l.orders
