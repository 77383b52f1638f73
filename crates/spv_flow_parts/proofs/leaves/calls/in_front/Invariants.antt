use Rattle.std.proofs.Common.{drop}
use Rattle.spv_flow_parts.proofs.leaves.InFront.{CallsSoFar}
use Rattle.spv_flow_parts.proofs.leaves.calls.in_front.Given as goal

abbrev pub invariant-loop-place : goal.invariant-loop-place
invariant-loop-place l = CallsSoFar l.here (drop l.place l.calls) l.fn.rest.items l.made.items
