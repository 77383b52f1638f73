use Rattle.std.proofs.Common.{◌≡◌, ◌++◌, drop, map}
use Rattle.spv_program.specs.Types.{shape_of_form}
use Rattle.spv_conditions.proofs.opening.shapes_of.Given as goal

abbrev pub invariant-loop-form : goal.invariant-loop-form
invariant-loop-form l = l.made.items ++ map (shape_of_form l.forms) (drop l.form-index l.forms) ≡ map (shape_of_form l.forms) l.forms
