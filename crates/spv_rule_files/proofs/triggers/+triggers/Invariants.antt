use Rattle.std.proofs.Common.{◌≡◌, ◌+◌, ◌*◌, drop}
use Rattle.spv_program.specs.typed.FormulaViews.{formulas_of}
use Rattle.spv_program.specs.typed.Model.FormulaSizes.{formula_size, formulas_size}
use Rattle.spv_rule_files.specs.Triggers as spec
use Rattle.spv_rule_files.proofs.triggers.+triggers.Given as goal

abbrev pub decreases-trigger : goal.decreases-trigger
decreases-trigger l = 2 * formula_size l.f.now

abbrev pub decreases-first_trigger : goal.decreases-first_trigger
decreases-first_trigger l = 2 * (formula_size l.f.now + formula_size l.g.now) + 1

abbrev pub decreases-trigger_among : goal.decreases-trigger_among
decreases-trigger_among l = 2 * formulas_size (formulas_of l.fs.now) + 1

abbrev pub invariant-trigger_among-loop-f : goal.invariant-trigger_among-loop-f
invariant-trigger_among-loop-f l = spec.trigger_among (formulas_of (drop l.f-index l.fs)) ≡ spec.trigger_among (formulas_of l.fs)
