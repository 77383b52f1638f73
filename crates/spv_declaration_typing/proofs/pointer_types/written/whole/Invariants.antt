use Rattle.std.proofs.Common.{◌≡◌, ◌++◌, map, length}
use Rattle.std.specs.Vec.Iter.{into_iter_items, into_iter_len}
use Rattle.spv_typing.specs.Merging as spec
use Rattle.spv_declaration_typing.specs.pointer_types.Views.{all_written}
use Rattle.spv_declaration_typing.proofs.pointer_types.written.whole.Given as goal

abbrev pub invariant-loop-item : goal.invariant-loop-item
invariant-loop-item l =
    (all_written l.types.items ++ all_written (into_iter_items l.item-iterator) ≡ map spec.Built l.forms ++ all_written l.fn.further.items)
    × (into_iter_len l.item-iterator ≡ length (into_iter_items l.item-iterator))
