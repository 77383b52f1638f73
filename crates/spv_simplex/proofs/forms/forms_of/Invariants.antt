use Rattle.std.proofs.Common.{◌≡◌, take}
use Rattle.spv_simplex.proofs.forms.forms_of.Given as goal

abbrev pub invariant-loop-form : goal.invariant-loop-form
invariant-loop-form l = l.kept.items ≡ take l.form-index l.forms
