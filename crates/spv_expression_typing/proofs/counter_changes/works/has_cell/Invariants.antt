use Rattle.std.proofs.Common.{◌≡◌, drop}
use Rattle.spv_program.specs.Uses.{has_cell}
use Rattle.spv_program.specs.typed.ExpressionViews.{selectors_of}
use Rattle.spv_expression_typing.proofs.counter_changes.works.has_cell.Given as goal

abbrev pub invariant-loop-selector : goal.invariant-loop-selector
invariant-loop-selector l = has_cell (selectors_of (drop l.selector-index l.selectors)) ≡ has_cell (selectors_of l.selectors)
