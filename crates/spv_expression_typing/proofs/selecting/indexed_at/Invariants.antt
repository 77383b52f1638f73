use Rattle.std.proofs.Common.{◌≡◌, length}
use Rattle.std.specs.Vec.Iter.{into_iter_items, into_iter_len}
use Rattle.spv_typing.specs.ExpressionWalk.{elements}
use Rattle.spv_formula_typing.specs.Operands.{operands_of}
use Rattle.spv_expression_typing.proofs.selecting.indexed_at.Given as goal

abbrev pub invariant-loop-at : goal.invariant-loop-at
invariant-loop-at l =
    (elements l.known.program.forms l.reached (operands_of (into_iter_items l.at-iterator))
    ≡ elements l.known.program.forms l.initial.reached (operands_of (into_iter_items l.initial.at-iterator)))
    × (into_iter_len l.at-iterator ≡ length (into_iter_items l.at-iterator))
