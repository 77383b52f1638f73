use Rattle.std.proofs.Common.{◌≡◌, ◌+◌, ◌*◌, drop}
use Rattle.spv_program.specs.typed.FormulaViews.{formulas_of}
use Rattle.spv_program.specs.typed.Model.FormulaSizes.{formula_size, formulas_size}
use Rattle.spv_rule_files.specs.Triggers as spec
use Rattle.spv_rule_files.proofs.triggers.+names.Given as goal

abbrev pub decreases-names_in : goal.decreases-names_in
decreases-names_in l = 2 * formula_size l.f.now

abbrev pub decreases-both_names : goal.decreases-both_names
decreases-both_names l = 2 * (formula_size l.f.now + formula_size l.g.now) + 1

abbrev pub decreases-all_names : goal.decreases-all_names
decreases-all_names l = 2 * formulas_size (formulas_of l.fs.now) + 1

abbrev pub invariant-all_names-loop-f : goal.invariant-all_names-loop-f
invariant-all_names-loop-f l = spec.all_names_behind l.names.items (formulas_of (drop l.f-index l.fs)) ≡ spec.all_names_behind l.initial.names.items (formulas_of l.fs)
