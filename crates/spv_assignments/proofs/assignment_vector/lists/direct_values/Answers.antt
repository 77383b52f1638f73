use Rattle.std.proofs.Common.{refl}
use Rattle.spv_assignments.specs.assignment_vector.Values.{direct_value, Said}
use Rattle.spv_assignments.proofs.assignment_vector.Listing.{listed_next}
use Rattle.spv_assignments.proofs.assignment_vector.lists.direct_values.Goals as goal

pub loop-i-preserved : goal.loop-i-preserved
loop-i-preserved c =
    listed_next c.args.terms.now (Said c.args.terms.now c.args.given.now) direct_value c.loop-i.i c.loop-i.values.items _ _ c.direct.result c.loop-i.invariant refl c.direct.ensures c.in_ok-push.ensures.items
