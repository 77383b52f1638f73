use Rattle.std.proofs.Common.{◌≡◌, ◌+◌, ◌*◌, drop}
use Rattle.spv_tree.specs.syntax.Model.TypeSizes.{more_types_of, more_fields_of, type_size, more_types_size, field_size, more_fields_size}
use Rattle.spv_typing.specs.TypeWalk.{all_denoted}
use Rattle.spv_environments.specs.Scopes.{scope_of}
use Rattle.spv_declaration_typing.specs.type_typing.Reading.{is_target, more_denoted, fields_denoted, indices_so_far}
use Rattle.spv_declaration_typing.proofs.type_typing.types.+types.Given as goal

abbrev pub invariant-more_types-loop-next : goal.invariant-more_types-loop-next
invariant-more_types-loop-next l =
    all_denoted (scope_of l.scope) (is_target l.scope.known.now l.targets) (indices_so_far l.scope l.new.items l.indices.items) (more_types_of (drop l.next-index l.more))
    ≡ more_denoted l.scope l.targets l.initial.new.items l.fn.one l.fn.line (more_types_of l.more)

abbrev pub invariant-more_fields-loop-next : goal.invariant-more_fields-loop-next
invariant-more_fields-loop-next l =
    fields_denoted l.scope l.targets l.new.items l.fields (more_fields_of (drop l.next-index l.more))
    ≡ fields_denoted l.scope l.targets l.initial.new.items l.initial.fields (more_fields_of l.more)

abbrev pub decreases-denoted : goal.decreases-denoted
decreases-denoted l = 4 * type_size l.tree.now

abbrev pub decreases-array_type : goal.decreases-array_type
decreases-array_type l = 4 * (type_size l.first.now + more_types_size (more_types_of l.more.now) + type_size l.elements.now) + 3

abbrev pub decreases-more_types : goal.decreases-more_types
decreases-more_types l = 4 * more_types_size (more_types_of l.more.now) + 1

abbrev pub decreases-record_type : goal.decreases-record_type
decreases-record_type l = 4 * (field_size l.first.now + more_fields_size (more_fields_of l.more.now)) + 3

abbrev pub decreases-more_fields : goal.decreases-more_fields
decreases-more_fields l = 4 * more_fields_size (more_fields_of l.more.now) + 1

abbrev pub decreases-field : goal.decreases-field
decreases-field l = 4 * field_size l.tree.now

abbrev pub decreases-named_fields : goal.decreases-named_fields
decreases-named_fields l = 4 * type_size l.of.now + 1
