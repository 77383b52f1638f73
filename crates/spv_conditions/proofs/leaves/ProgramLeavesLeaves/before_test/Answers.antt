use Rattle.std.proofs.Common.{List, subst, sym}
use Rattle.spv_flow_parts.specs.declared.leaves.valued.Called.{Called}
use Rattle.spv_flow_parts.specs.leaves.Values.{AreCalls}
use Rattle.spv_conditions.proofs.leaves.ProgramLeavesLeaves.before_test.Goals as goal

pub returns-clause-made : goal.returns-clause-made
returns-clause-made c =
    λ a calls cs are these. c.in_front.ensures a calls cs (subst (λ (l : List Called). AreCalls a l calls) (sym c.as_slice.ensures) are) these
