-- Fields of record types under their names.
use Rattle.std.specs.Prelude.{◌≡◌, ℕ, ◌<◌, ◌≤◌, List, [], ◌∷◌, length, slice_index_or}
use Rattle.spv_logic.specs.declared.names.names.Symbol.{Symbol}
use Rattle.spv_logic.specs.declared.types.TypeId.{TypeId}
use Rattle.spv_program.specs.declared.types.TypeField.{TypeField}
use Rattle.spv_program.specs.declared.types.TypeForm.{TypeForm}
use Rattle.spv_program.specs.Lists.{found, first_of}
use Rattle.spv_program.specs.Types.{form_at, field_of, field_type}

-- a table of the fields of one form
pub record HasFields (form : TypeForm) (table : List (Symbol × TypeId)) : Type 0 where
  pub each : (x : Symbol) → found table x ≡ field_of form x

-- a table of fields, and the one behind a further field: of two of one name the first counts
pub record WithField (old new : List (Symbol × TypeId)) (field : TypeField) : Type 0 where
  pub each : (x : Symbol) → found new x ≡ first_of (found old x) (field_type (field ∷ []) x)

-- what a table and the fields that are left have are the fields
pub record FieldsSoFar (fields rest : List TypeField) (table : List (Symbol × TypeId)) : Type 0 where
  pub each : (x : Symbol) → first_of (found table x) (field_type rest x) ≡ field_type fields x

-- for each of the first so many types a table of its fields
pub record FieldsTo (place : ℕ) (forms : List TypeForm) (tables : List (List (Symbol × TypeId))) : Type 0 where
  pub within : place ≤ length forms
  pub many : length tables ≡ place
  pub each : (i : ℕ) (x : Symbol) → i < place → found (slice_index_or tables i []) x ≡ field_of (form_at forms i) x

abbrev pub AreFields : List TypeForm → List (List (Symbol × TypeId)) → Type 0
AreFields forms tables = FieldsTo (length forms) forms tables
