use Rattle.std.proofs.Common.{◌≡◌, length}
use Rattle.std.specs.Vec.Iter.{into_iter_items, into_iter_len}
use Rattle.spv_formula_typing.specs.Arguments.{all_given}
use Rattle.spv_expression_typing.specs.Applied.{all_seen}
use Rattle.spv_expression_typing.proofs.FittedLoops.{FittedSoFar}
use Rattle.spv_expression_typing.proofs.fitting.fitted.Given as goal

abbrev pub invariant-loop-line : goal.invariant-loop-line
invariant-loop-line l =
    FittedSoFar l.known.program.forms l.formals (all_seen (all_given l.fn.given.items)) l.place (all_seen (all_given (into_iter_items l.line-iterator))) l.made.items
    × (into_iter_len l.line-iterator ≡ length (into_iter_items l.line-iterator))
