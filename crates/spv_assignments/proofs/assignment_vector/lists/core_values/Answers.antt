use Rattle.std.proofs.Common.{refl}
use Rattle.spv_assignments.specs.partial_assignment.Values.{core_value}
use Rattle.spv_assignments.specs.assignment_vector.Values.{Said}
use Rattle.spv_assignments.proofs.assignment_vector.Listing.{listed_next}
use Rattle.spv_assignments.proofs.assignment_vector.lists.core_values.Goals as goal

pub loop-i-preserved : goal.loop-i-preserved
loop-i-preserved c =
    listed_next c.args.terms.now (Said c.args.terms.now c.args.given.now) core_value c.loop-i.i c.loop-i.values.items _ _ c.core.result c.loop-i.invariant refl c.core.ensures c.in_ok-push.ensures.items
