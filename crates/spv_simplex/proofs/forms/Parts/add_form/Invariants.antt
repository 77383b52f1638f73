use Rattle.std.proofs.Common.{◌≡◌, drop}
use Rattle.spv_tableau_rules.specs.tableaux.Forms.{with_parts}
use Rattle.spv_simplex.proofs.forms.Parts.add_form.Given as goal

abbrev pub invariant-loop-part : goal.invariant-loop-part
invariant-loop-part l = with_parts l.self (drop l.part-index l.part-items) ≡ with_parts l.initial.self l.form.parts
