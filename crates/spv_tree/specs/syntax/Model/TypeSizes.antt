-- How large types are: larger than each of their parts. And the lists of the code as plain data.
use Rattle.std.specs.Prelude.{ℕ, suc, ◌+◌, List, [], ◌∷◌}
use Rattle.spv_tree.specs.syntax.Types.{TypeDenoter, named, range, pointer, array, fields, MoreTypes, no_more_types, more_types, Field, no_field, field, MoreFields, no_more_fields, more_fields}

abbrev pub more_types_of : List TypeDenoter → MoreTypes
more_types_of [] = no_more_types
more_types_of (t ∷ ts) = more_types t (more_types_of ts)

abbrev pub more_fields_of : List Field → MoreFields
more_fields_of [] = no_more_fields
more_fields_of (f ∷ fs) = more_fields f (more_fields_of fs)

abbrev mutual
  pub type_size : TypeDenoter → ℕ
  type_size (named a b) = 1
  type_size (range a b c) = 1
  type_size (pointer a b) = 1
  type_size (array a b c d) = suc (type_size b + more_types_size c + type_size d)
  type_size (fields a b c) = suc (field_size b + more_fields_size c)

  pub more_types_size : MoreTypes → ℕ
  more_types_size no_more_types = 0
  more_types_size (more_types a b) = type_size a + more_types_size b

  pub field_size : Field → ℕ
  field_size (no_field a) = 1
  field_size (field a b c) = suc (type_size c)

  pub more_fields_size : MoreFields → ℕ
  more_fields_size no_more_fields = 0
  more_fields_size (more_fields a b) = field_size a + more_fields_size b
