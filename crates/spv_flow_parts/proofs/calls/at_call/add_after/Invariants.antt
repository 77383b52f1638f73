use Rattle.std.proofs.Common.{drop}
use Rattle.spv_flow_parts.proofs.calls.Building.{PairsSoFar}
use Rattle.spv_flow_parts.proofs.calls.at_call.add_after.Given as goal

abbrev pub invariant-loop-head : goal.invariant-loop-head
invariant-loop-head g l = PairsSoFar l.fn.terms l.terms g.at.after (drop l.head-index g.at.after) l.fn.pairs.items l.pairs.items
