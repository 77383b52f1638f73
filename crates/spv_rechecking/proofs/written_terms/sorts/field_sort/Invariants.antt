use Rattle.std.proofs.Common.{◌≡◌, drop}
use Rattle.spv_logic.specs.Shapes.{field_sort}
use Rattle.spv_rechecking.proofs.written_terms.sorts.field_sort.Given as goal

abbrev pub invariant-loop-field : goal.invariant-loop-field
invariant-loop-field l = field_sort l.fields l.name.0 ≡ field_sort (drop l.field-index l.fields) l.name.0
