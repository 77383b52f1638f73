use Rattle.std.proofs.Common.{◌≡◌, length}
use Rattle.std.specs.Vec.Iter.{into_iter_items, into_iter_len}
use Rattle.spv_annotation_typing.proofs.SettledLoops.{SettledSoFar}
use Rattle.spv_formula_typing.specs.Operands.{operands_of}
use Rattle.spv_annotation_typing.proofs.applying.settled_all.Given as goal

abbrev pub invariant-loop-line : goal.invariant-loop-line
invariant-loop-line l =
    SettledSoFar l.wanted (operands_of l.fn.given.items) l.place (operands_of (into_iter_items l.line-iterator)) l.made.items
    × (into_iter_len l.line-iterator ≡ length (into_iter_items l.line-iterator))
