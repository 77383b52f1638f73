use Rattle.std.proofs.Common.{◌≡◌, ◌+◌, ◌*◌, ◌++◌, List, drop}
use Rattle.spv_program.specs.Expressions.{no_selectors}
use Rattle.spv_program.specs.Terms.{name_in}
use Rattle.spv_program.specs.typed.ExpressionViews.{selector_before, selectors_of}
use Rattle.spv_program.specs.typed.Model.ExpressionSizes.{expression_size, designator_size, selectors_size}
use Rattle.spv_expression_terms.specs.declared.postfix.pieces.Piece.{Piece}
use Rattle.spv_expression_terms.specs.term_walk.Numerals.{SelectorsFit}
use Rattle.spv_expression_terms.specs.term_walk.Selectors.{steps_of}
use Rattle.spv_expression_terms.proofs.term_walk.expressions.+expressions.Given as goal

abbrev pub decreases-expression : goal.decreases-expression
decreases-expression l = 4 * expression_size l.e.now

abbrev pub decreases-two : goal.decreases-two
decreases-two l = 4 * (expression_size l.a.of.now + expression_size l.b.of.now) + 1

abbrev pub decreases-different : goal.decreases-different
decreases-different l = 4 * (expression_size l.a.of.now + expression_size l.b.of.now) + 2

abbrev pub decreases-compared : goal.decreases-compared
decreases-compared l = 4 * (expression_size l.a.of.now + expression_size l.b.of.now) + 3

abbrev pub decreases-place : goal.decreases-place
decreases-place l = 4 * designator_size l.d.now

abbrev pub decreases-path : goal.decreases-path
decreases-path l = 4 * selectors_size (selectors_of l.selectors.now) + 3

abbrev pub decreases-through : goal.decreases-through
decreases-through l = 4 * selectors_size (selectors_of l.t.now.selectors.items) + 3

abbrev pub decreases-write_step : goal.decreases-write_step
decreases-write_step l = 4 * selectors_size (selector_before l.selector.now no_selectors) + 1

abbrev pub decreases-write_steps : goal.decreases-write_steps
decreases-write_steps l = 4 * selectors_size (selectors_of l.selectors.now) + 2

abbrev pub invariant-write_steps-loop-selector : goal.invariant-write_steps-loop-selector
invariant-write_steps-loop-selector l = record {
  writes : (more : List Piece)
      → l.pieces.items ++ steps_of (name_in l.names) l.left (drop l.selector-index l.selectors) more ≡ l.initial.pieces.items ++ steps_of (name_in l.names) l.variables l.selectors more;
  fits : SelectorsFit (selectors_of (drop l.selector-index l.selectors)) → SelectorsFit (selectors_of l.selectors);
}
