use Rattle.std.proofs.Common.{◌≤◌, subst, sym, arith}
use Rattle.spv_tree.specs.syntax.Formulas.{Formula, Selector}
use Rattle.spv_tree.specs.syntax.Model.FormulaSizes.{more_formulas_of, selectors_of, formula_size, more_formulas_size, selectors_size, selector_size}
use Rattle.spv_tests.proofs.flat.Sizes.{formula_within, selector_within}
use Rattle.spv_tests.proofs.flat.formulas.+formulas.Goals as goal

pub more_formulas-formula-requires : goal.more_formulas-formula-requires
more_formulas-formula-requires t c =
    let within : formula_size c.part-item.result ≤ more_formulas_size (more_formulas_of c.args.more.now) =
    subst (λ (f : Formula). formula_size f ≤ more_formulas_size (more_formulas_of c.args.more.now)) (sym c.part-item.is)
    (formula_within c.args.more.now c.loop-part.part-index c.part-item.result (omega arith)) in
    (omega (arith, c.decreases), tt)

pub selectors-selector-requires : goal.selectors-selector-requires
selectors-selector-requires t c =
    let within : selector_size c.part-item.result ≤ selectors_size (selectors_of c.args.behind.now) =
    subst (λ (s : Selector). selector_size s ≤ selectors_size (selectors_of c.args.behind.now)) (sym c.part-item.is)
    (selector_within c.args.behind.now c.loop-part.part-index c.part-item.result (omega arith)) in
    (omega (arith, c.decreases), tt)
