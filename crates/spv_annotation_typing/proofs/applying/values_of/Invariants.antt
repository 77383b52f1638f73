use Rattle.std.proofs.Common.{◌≡◌, ◌++◌, length}
use Rattle.std.specs.Vec.Iter.{into_iter_items, into_iter_len}
use Rattle.spv_annotation_typing.specs.Applied.{values}
use Rattle.spv_formula_typing.specs.Operands.{operands_of}
use Rattle.spv_formula_typing.specs.Arguments.{all_given}
use Rattle.spv_annotation_typing.proofs.applying.values_of.Given as goal

abbrev pub invariant-loop-line : goal.invariant-loop-line
invariant-loop-line l =
    (operands_of l.found.items ++ values (all_given (into_iter_items l.line-iterator)) ≡ values (all_given (into_iter_items l.initial.line-iterator)))
    × (into_iter_len l.line-iterator ≡ length (into_iter_items l.line-iterator))
