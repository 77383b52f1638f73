use Rattle.std.proofs.Common.{◌≡◌, drop}
use Rattle.spv_atoms.specs.Linear.{coefficient_at}
use Rattle.spv_simplex.proofs.forms.coefficient.Given as goal

abbrev pub invariant-loop-part : goal.invariant-loop-part
invariant-loop-part l = coefficient_at (drop l.part-index l.part-items) l.t ≡ coefficient_at l.form.parts l.t
