use Rattle.std.proofs.Common.{◌≤◌, subst, sym, arith}
use Rattle.spv_program.specs.Expressions.{no_selectors}
use Rattle.spv_program.specs.declared.typed.expressions.Selector.{Selector}
use Rattle.spv_program.specs.typed.ExpressionViews.{selector_before, selectors_of}
use Rattle.spv_program.specs.typed.Model.ExpressionSizes.{selectors_size}
use Rattle.spv_expression_terms.proofs.term_walk.Selectors.{selector_within}
use Rattle.spv_expression_terms.proofs.term_walk.outer_calls.+outer_calls.Goals as goal

pub behind_selectors-for_other_selectors-left-requires : goal.behind_selectors-for_other_selectors-left-requires
behind_selectors-for_other_selectors-left-requires t c =
    let within : selectors_size (selector_before c.selector-item.result no_selectors) ≤ selectors_size (selectors_of c.args.selectors.now) =
    subst (λ (s : Selector). selectors_size (selector_before s no_selectors) ≤ selectors_size (selectors_of c.args.selectors.now)) (sym c.selector-item.is)
    (selector_within c.args.selectors.now c.loop-selector.selector-index c.selector-item.result (omega arith)) in
    (omega (arith, c.decreases), tt)
