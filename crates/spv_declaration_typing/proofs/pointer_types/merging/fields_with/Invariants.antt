use Rattle.std.proofs.Common.{◌≡◌, map, take}
use Rattle.spv_program.specs.declared.types.TypeField.{TypeField}
use Rattle.spv_typing.specs.Merging as spec
use Rattle.spv_declaration_typing.specs.pointer_types.Counting.{all_firsts}
use Rattle.spv_declaration_typing.proofs.pointer_types.merging.fields_with.Given as goal

abbrev pub invariant-loop-field : goal.invariant-loop-field
invariant-loop-field l = l.made.items ≡ map (λ (f : TypeField). record { name = f.name; of = spec.renumbered (all_firsts l.numbers) f.of }) (take l.field-index l.fields)
