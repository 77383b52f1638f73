-- The walk over the parts of a type, from the first of them on.
use Rattle.std.specs.Prelude.{List}
use Rattle.spv_logic.specs.declared.names.names.Symbol.{Symbol}
use Rattle.spv_logic.specs.declared.types.TypeId.{TypeId}
use Rattle.spv_tree.specs.declared.syntax.lists.Several.{Several}
use Rattle.spv_tree.specs.declared.syntax.names.Name.{Name}
use Rattle.spv_tree.specs.syntax.Types.{TypeDenoter, Field, array, fields, field}
use Rattle.spv_tree.specs.syntax.Model.TypeSizes.{more_types_of, more_fields_of}
use Rattle.spv_typing.specs.Outcomes.{Outcome}
use Rattle.spv_typing.specs.TypeWalk as spec
use Rattle.spv_declaration_typing.specs.declared.pointer_types.written.Written.{Written}
use Rattle.spv_environments.specs.declared.scopes.Scope.{Scope}
use Rattle.spv_declaration_typing.specs.declared.type_typing.targets.Targets.{Targets}
use Rattle.spv_declaration_typing.specs.type_typing.Reading.{denoted, field_denoted}

module _ (s : Scope) (t : Targets) where
  abbrev pub array_walk : List Written → TypeDenoter → List TypeDenoter → TypeDenoter → Outcome spec.Reading
  array_walk new first more elements = denoted s t new (array 0 first (more_types_of more) elements)

  abbrev pub record_walk : List Written → Field → List Field → Outcome spec.Reading
  record_walk new first more = denoted s t new (fields 0 first (more_fields_of more))

  abbrev pub names_walk : List Written → List (Symbol × TypeId) → Several Name → TypeDenoter → Outcome spec.Fields
  names_walk new entries names of = field_denoted s t new entries (field 0 names of)
