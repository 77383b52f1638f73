use Rattle.std.proofs.Common.{◌≤◌, drop, subst, sym, arith}
use Rattle.spv_expression_terms.specs.term_walk.OuterCalls.{first_variable}
use Rattle.spv_program.specs.Expressions.{no_selectors}
use Rattle.spv_program.specs.Terms.{name_in}
use Rattle.spv_program.specs.declared.typed.expressions.Selector.{Selector}
use Rattle.spv_program.specs.typed.ExpressionViews.{selector_before, selectors_of}
use Rattle.spv_program.specs.typed.Model.ExpressionSizes.{selectors_size}
use Rattle.spv_expression_terms.proofs.term_walk.Lists.{compared_as}
use Rattle.spv_expression_terms.proofs.term_walk.Selectors.{path_written, through_written, selector_within}
use Rattle.spv_expression_terms.proofs.term_walk.expressions.+expressions.Goals as goal

pub compared-returns-in-Equal-clause-writes : goal.compared-returns-in-Equal-clause-writes
compared-returns-in-Equal-clause-writes t c = compared_as _ _ _ _ _ _ _ c.in-Equal.is c.two.ensures.writes

pub compared-returns-in-NotEqual-clause-writes : goal.compared-returns-in-NotEqual-clause-writes
compared-returns-in-NotEqual-clause-writes t c = compared_as _ _ _ _ _ _ _ c.in-NotEqual.is c.different.ensures.writes

pub compared-returns-in-Less-clause-writes : goal.compared-returns-in-Less-clause-writes
compared-returns-in-Less-clause-writes t c = compared_as _ _ _ _ _ _ _ c.in-Less.is c.two-in-Less.ensures.writes

pub compared-returns-in-AtMost-clause-writes : goal.compared-returns-in-AtMost-clause-writes
compared-returns-in-AtMost-clause-writes t c = compared_as _ _ _ _ _ _ _ c.in-AtMost.is c.two-in-AtMost.ensures.writes

pub compared-returns-in-Greater-clause-writes : goal.compared-returns-in-Greater-clause-writes
compared-returns-in-Greater-clause-writes t c = compared_as _ _ _ _ _ _ _ c.in-Greater.is c.two-in-Greater.ensures.writes

pub compared-returns-in-AtLeast-clause-writes : goal.compared-returns-in-AtLeast-clause-writes
compared-returns-in-AtLeast-clause-writes t c = compared_as _ _ _ _ _ _ _ c.in-AtLeast.is c.two-in-AtLeast.ensures.writes

pub path-returns-clause-writes : goal.path-returns-clause-writes
path-returns-clause-writes t c =
    path_written c.write_steps.result (name_in c.args.names.now) c.args.variables.now c.args.root c.args.selectors.now c.args.pieces.now.items c.write_classes.new.pieces.items c.write.new.pieces.items
    c.write_steps.new.pieces.items c.in_ok-write_classes.ensures c.in_ok-write.ensures c.write_steps.ensures.writes

pub through-returns-clause-writes : goal.through-returns-clause-writes
through-returns-clause-writes t c =
    through_written c.write_steps.result (name_in c.args.names.now) (drop 1 c.args.variables.now) c.behind_one.result.now c.args.t.now.of c.first_head.result (first_variable c.args.variables.now)
    c.args.t.now.selectors.items c.as_slice-selectors.result.now c.args.pieces.now.items c.write_classes.new.pieces.items c.write.new.pieces.items c.write-2.new.pieces.items c.write-3.new.pieces.items
    c.write_steps.new.pieces.items c.as_slice-selectors.ensures.value c.first_head.ensures c.behind_one.ensures
    c.in_ok-write_classes.ensures c.in_ok-write.ensures c.in_ok-write-2.ensures c.in_ok-write-3.ensures c.write_steps.ensures.writes

pub write_steps-write_step-requires : goal.write_steps-write_step-requires
write_steps-write_step-requires t c =
    let within : selectors_size (selector_before c.selector-item.result no_selectors) ≤ selectors_size (selectors_of c.args.selectors.now) =
    subst (λ (s : Selector). selectors_size (selector_before s no_selectors) ≤ selectors_size (selectors_of c.args.selectors.now)) (sym c.selector-item.is)
    (selector_within c.args.selectors.now c.loop-selector.selector-index c.selector-item.result (omega arith)) in
    (omega (arith, c.decreases), tt)
