use Rattle.std.proofs.Common.{◌≤◌, subst, sym, arith}
use Rattle.spv_program.specs.Formulas.{Formula}
use Rattle.spv_program.specs.typed.FormulaViews.{formulas_of}
use Rattle.spv_program.specs.typed.Model.FormulaSizes.{formula_size, formulas_size}
use Rattle.spv_rule_files.proofs.Sizes.{formula_within}
use Rattle.spv_rule_files.proofs.triggers.+triggers.Goals as goal

pub trigger_among-trigger-requires : goal.trigger_among-trigger-requires
trigger_among-trigger-requires t c =
    let within : formula_size c.f-item.result ≤ formulas_size (formulas_of c.args.fs.now) =
    subst (λ (f : Formula). formula_size f ≤ formulas_size (formulas_of c.args.fs.now)) (sym c.f-item.is)
    (formula_within c.args.fs.now c.loop-f.f-index c.f-item.result (omega arith)) in
    (omega (arith, c.decreases), tt)
