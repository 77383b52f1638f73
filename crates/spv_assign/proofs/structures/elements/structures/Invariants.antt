use Rattle.std.proofs.Common.{drop}
use Rattle.spv_term.specs.Arena.{tree}
use Rattle.spv_program.specs.Places as place
use Rattle.spv_assign.specs.structures.Steps.{steps_in, structures_to}
use Rattle.spv_assign.proofs.structures.Paths.{Finds}
use Rattle.spv_assign.proofs.structures.elements.structures.Given as goal

abbrev pub invariant-loop-step : goal.invariant-loop-step
invariant-loop-step l =
    Finds l.fn.terms l.terms (place.part_behind (tree l.fn.terms l.fn.root) (steps_in l.fn.terms l.fn.path)) (structures_to (tree l.fn.terms l.fn.root) (steps_in l.fn.terms l.fn.path))
    l.found.items l.t (drop l.step-index l.path)
