use Rattle.spv_term.specs.Arena.{tree}
use Rattle.spv_program.specs.Places as place
use Rattle.spv_assign.specs.structures.Steps.{steps_in}
use Rattle.spv_assign.proofs.structures.Putting.{Puts}
use Rattle.spv_assign.proofs.structures.elements.put_back.Given as goal

abbrev pub invariant-loop-left : goal.invariant-loop-left
invariant-loop-left g l = Puts l.fn.terms l.terms (place.changed_part g.whole (steps_in l.fn.terms l.fn.path) (tree l.fn.terms l.fn.v)) g.whole l.fn.path l.made l.left

abbrev pub decreases-loop-left : goal.decreases-loop-left
decreases-loop-left g l = l.left
