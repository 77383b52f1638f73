-- The types so far, as the code has them: the forms that the program has, and what the text that is read adds.
use Rattle.std.specs.Prelude.{ℕ, Bool, List, [], ◌∷◌, ◌++◌, map, is_some}
use Rattle.spv_logic.specs.declared.names.names.Symbol.{Symbol}
use Rattle.spv_logic.specs.declared.types.TypeId.{TypeId}
use Rattle.spv_program.specs.declared.types.TypeField.{TypeField}
use Rattle.spv_program.specs.Lists.{found}
use Rattle.spv_tree.specs.syntax.Types.{TypeDenoter, Field, MoreTypes, MoreFields}
use Rattle.spv_typing.specs.Outcomes.{Outcome}
use Rattle.spv_typing.specs.Merging as merging
use Rattle.spv_typing.specs.Known.{Known}
use Rattle.spv_typing.specs.TypeWalk as spec
use Rattle.spv_typing.specs.DeclarationWalk.{is_type_name}
use Rattle.spv_declaration_typing.specs.declared.pointer_types.written.Written.{Written}
use Rattle.spv_declaration_typing.specs.pointer_types.Views.{all_written}
use Rattle.spv_environments.specs.declared.scopes.Scope.{Scope}
use Rattle.spv_environments.specs.Scopes.{scope_of}
use Rattle.spv_declaration_typing.specs.declared.type_typing.targets.Targets.{Targets}
use Rattle.spv_declaration_typing.specs.declared.type_typing.targets.Targets.TheVariants as targets
use Rattle.spv_declaration_typing.specs.declared.type_typing.nested.Index.{Index}

-- which names pointers may lead to
abbrev pub is_target : Known → Targets → Symbol → Bool
is_target k targets.Declared x = is_type_name k.program x
is_target k (targets.Part names) x = is_some (found names.now x)

abbrev pub types_of : Scope → List Written → List merging.Written
types_of s new = map merging.Built s.known.now.program.forms ++ all_written new

-- the types so far, with the one that was read
abbrev pub read_as : Scope → List Written → TypeId → spec.Reading
read_as s new t = record { written = types_of s new; type = t }

-- ---- index types

abbrev pub index_of : Index → spec.Index
index_of i = record { type = i.of; line = i.line }

abbrev pub indices_of : List Index → List spec.Index
indices_of is = map index_of is

abbrev pub indices_so_far : Scope → List Written → List Index → spec.Indices
indices_so_far s new is = record { written = types_of s new; indices = indices_of is }

-- ---- fields

abbrev pub field_of : Symbol × TypeId → TypeField
field_of e = record { name = e.0; of = e.1 }

abbrev pub fields_of : List (Symbol × TypeId) → List TypeField
fields_of entries = map field_of entries

abbrev pub fields_so_far : Scope → List Written → List (Symbol × TypeId) → spec.Fields
fields_so_far s new entries = record { written = types_of s new; fields = fields_of entries }

-- ---- the walk, where types are read behind those of the code

module _ (s : Scope) (t : Targets) where
  abbrev pub denoted : List Written → TypeDenoter → Outcome spec.Reading
  denoted new tree = spec.denoted (scope_of s) (is_target s.known.now t) (types_of s new) tree

  abbrev pub more_denoted : List Written → TypeId → ℕ → MoreTypes → Outcome spec.Indices
  more_denoted new one line more =
      spec.all_denoted (scope_of s) (is_target s.known.now t) (record { written = types_of s new; indices = record { type = one; line = line } ∷ [] }) more

  abbrev pub field_denoted : List Written → List (Symbol × TypeId) → Field → Outcome spec.Fields
  field_denoted new entries tree = spec.field_denoted (scope_of s) (is_target s.known.now t) (fields_so_far s new entries) tree

  abbrev pub fields_denoted : List Written → List (Symbol × TypeId) → MoreFields → Outcome spec.Fields
  fields_denoted new entries more = spec.fields_denoted (scope_of s) (is_target s.known.now t) (fields_so_far s new entries) more
