use Rattle.std.proofs.Common.{refl}
use Rattle.spv_assignments.specs.partial_assignment.Values.{value_by}
use Rattle.spv_assignments.specs.assignment_vector.Values.{CoresAre}
use Rattle.spv_assignments.proofs.assignment_vector.Listing.{listed_next, listed_slice}
use Rattle.spv_assignments.proofs.assignment_vector.lists.all_values.Goals as goal

pub value-found-requires-clause-before : goal.value-found-requires-clause-before
value-found-requires-clause-before c =
    listed_slice c.args.terms.now (CoresAre c.args.terms.now c.args.cores.now) value_by c.loop-i.i c.loop-i.values.items _ c.as_slice.ensures.value c.loop-i.invariant

pub loop-i-preserved : goal.loop-i-preserved
loop-i-preserved c =
    listed_next c.args.terms.now (CoresAre c.args.terms.now c.args.cores.now) value_by c.loop-i.i c.loop-i.values.items _ _ c.value-found.result c.loop-i.invariant refl c.value-found.ensures c.in_ok-push.ensures.items
