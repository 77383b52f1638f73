use Rattle.std.proofs.Common.{◌≡◌, drop}
use Rattle.spv_tableau_rules.specs.tableaux.Forms.{with_forms, part_ids}
use Rattle.spv_simplex.proofs.forms.Parts.of.Given as goal

abbrev pub invariant-loop-form : goal.invariant-loop-form
invariant-loop-form l = with_forms l.parts (drop l.form-index l.forms) ≡ part_ids l.forms
