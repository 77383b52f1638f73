use Rattle.std.proofs.Common.{drop}
use Rattle.spv_term.specs.Arena.{tree}
use Rattle.spv_program.specs.Places as place
use Rattle.spv_assign.specs.structures.Steps.{steps_in}
use Rattle.spv_assign.proofs.structures.Paths.{Reads}
use Rattle.spv_assign.proofs.structures.elements.read_path.Given as goal

abbrev pub invariant-loop-step : goal.invariant-loop-step
invariant-loop-step l = Reads l.fn.terms l.terms (place.part_behind (tree l.fn.terms l.fn.root) (steps_in l.fn.terms l.fn.path)) l.t (drop l.step-index l.path)
