use Rattle.std.proofs.Common.{◌+◌, ◌*◌}
use Rattle.spv_tree.specs.syntax.Members.{in_kinds}
use Rattle.spv_tree.specs.syntax.TypeSpelling.{more_fields_spelling, more_types_spelling}
use Rattle.spv_tree.specs.syntax.Model.TypeSizes.{more_types_of, more_fields_of, type_size, more_types_size, field_size, more_fields_size}
use Rattle.spv_tests.proofs.flat.Loops.{ComeTo}
use Rattle.spv_tests.proofs.flat.types.+types.Given as goal

abbrev pub invariant-more_types-loop-of : goal.invariant-more_types-loop-of
invariant-more_types-loop-of l = ComeTo (λ ts. more_types_spelling in_kinds (more_types_of ts)) l.more l.of-index l.initial.out.items l.out.items

abbrev pub invariant-more_fields-loop-part : goal.invariant-more_fields-loop-part
invariant-more_fields-loop-part l = ComeTo (λ fs. more_fields_spelling in_kinds (more_fields_of fs)) l.more l.part-index l.initial.out.items l.out.items

abbrev pub decreases-type_denoter : goal.decreases-type_denoter
decreases-type_denoter l = 2 * type_size l.tree.now

abbrev pub decreases-field : goal.decreases-field
decreases-field l = 2 * field_size l.tree.now

abbrev pub decreases-more_types : goal.decreases-more_types
decreases-more_types l = 2 * more_types_size (more_types_of l.more.now) + 1

abbrev pub decreases-more_fields : goal.decreases-more_fields
decreases-more_fields l = 2 * more_fields_size (more_fields_of l.more.now) + 1
