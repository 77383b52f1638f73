-- Which values a sort has, and the one that stands where none is given.
use Rattle.std.specs.Prelude.{ℕ, zero, suc, Bool, true, false, ◌&&◌, not, List, [], ◌∷◌, length, Option, Some, None, ℤ, pos, nat_lt}
use Rattle.std.specs.Int.RustNames.{int_lt}
use Rattle.std.specs.Ordering.{int_eq}
use Rattle.spv_logic.specs.declared.types.Sort.{Sort}
use Rattle.spv_logic.specs.declared.types.Sort.TheVariants as sort
use Rattle.spv_logic.specs.declared.types.Field.{Field}
use Rattle.spv_logic.specs.declared.types.Shape.{Shape}
use Rattle.spv_logic.specs.declared.types.Shape.TheVariants as shape
use Rattle.spv_logic.specs.Values.{Value, Rows, Number, Truth, Pointer, ArrayOf, RecordOf, ClassOf, AtomOf, PairOf, no_rows, row, value_eq}
use Rattle.spv_logic.specs.Terms.{sort_eq}
use Rattle.spv_logic.specs.Shapes.{shape_at, sort_of_type, element_sort, fields_of, content_sort, is_list, is_pointer}

-- ---- the values of a sort

-- whether a list of rows has keys in ascending order, all above `last`
abbrev pub ascend_after : ℤ → Rows → Bool
ascend_after last no_rows = true
ascend_after last (row i v rows) = int_lt last i && ascend_after i rows

abbrev pub ascend : Rows → Bool
ascend no_rows = true
ascend (row i v rows) = ascend_after i rows

-- whether no row has this value
abbrev pub lacks : Value → Rows → Bool
lacks d no_rows = true
lacks d (row i v rows) = not (value_eq v d) && lacks d rows

-- whether each key is a pointer
abbrev pub keys_are_pointers : Rows → Bool
keys_are_pointers no_rows = true
keys_are_pointers (row i v rows) = not (int_lt i (pos 0)) && keys_are_pointers rows

-- whether cells ascend, all above `last`; members are positive, so they ascend after 0
abbrev pub cells_after : ℕ → List ℕ → Bool
cells_after last [] = true
cells_after last (c ∷ cells) = nat_lt last c && cells_after c cells

-- whether there is a sort, and it passes
abbrev pub on_sort : Option Sort → (Sort → Bool) → Bool
on_sort None test = false
on_sort (Some s) test = test s

abbrev pub on_fields : Option (List Field) → (List Field → Bool) → Bool
on_fields None test = false
on_fields (Some fields) test = test fields

abbrev pub no_fields : List Field → Bool
no_fields [] = true
no_fields (f ∷ fields) = false

-- whether the first field has this name, and its sort and the other fields pass
abbrev pub on_first_field : List Field → ℤ → (Sort → List Field → Bool) → Bool
on_first_field [] name test = false
on_first_field (f ∷ fields) name test = int_eq name (pos f.name.0) && test f.sort fields

abbrev mutual
  -- whether a value is one of a sort: an array's and a class's rows ascend and none has the default,
  -- a record has a value for each field in order, and a class's members are positive and ascend
  pub fits : List Shape → Value → Sort → Bool
  fits shapes (Number z) s = sort_eq s sort.Int
  fits shapes (Truth b) s = sort_eq s sort.Bool
  fits shapes (Pointer p) s = is_pointer s
  fits shapes (ArrayOf d rows) s =
      on_sort (element_sort shapes s) (λ e. fits shapes d e && (rows_fit shapes rows e && (ascend rows && lacks d rows)))
  fits shapes (RecordOf rows) s = on_fields (fields_of shapes s) (λ fields. fields_fit shapes rows fields)
  fits shapes (ClassOf cells d rows) s =
      on_sort (content_sort shapes s) (λ e. fits shapes d e && (rows_fit shapes rows e
      && (ascend rows && (lacks d rows && (keys_are_pointers rows && cells_after 0 cells)))))
  fits shapes (AtomOf z) s = is_list s
  fits shapes (PairOf a b) s = is_list s && (fits shapes a s && fits shapes b s)

  pub rows_fit : List Shape → Rows → Sort → Bool
  rows_fit shapes no_rows s = true
  rows_fit shapes (row i v rows) s = fits shapes v s && rows_fit shapes rows s

  pub fields_fit : List Shape → Rows → List Field → Bool
  fields_fit shapes no_rows fields = no_fields fields
  fields_fit shapes (row i v rows) fields = on_first_field fields i (λ s others. fits shapes v s && fields_fit shapes rows others)

-- ---- the default of a sort

abbrev pub default_fields : (Sort → Value) → List Field → Rows
default_fields default [] = no_rows
default_fields default (f ∷ fields) = row (pos f.name.0) (default f.sort) (default_fields default fields)

-- the default of a type of this shape, from that of its parts
abbrev pub default_of_shape : (Sort → Value) → Shape → Value
default_of_shape default (shape.Array s) = ArrayOf (default s) no_rows
default_of_shape default (shape.Record fields) = RecordOf (default_fields default fields)
default_of_shape default _ = RecordOf no_rows

-- the default of a sort whose parts lie at most `depth` types deep
abbrev pub default_within : ℕ → List Shape → Sort → Value
default_within depth shapes sort.Int = Number (pos 0)
default_within depth shapes sort.Bool = Truth false
default_within depth shapes sort.List = AtomOf (pos 0)
default_within depth shapes (sort.Ptr t) = Pointer 0
default_within zero shapes (sort.Whole t) = RecordOf no_rows
default_within (suc depth) shapes (sort.Whole t) = default_of_shape (default_within depth shapes) (shape_at shapes t.0)
default_within depth shapes (sort.Class t) = ClassOf [] (Number (pos 0)) no_rows

-- the value of a sort where none is given: 0, FALSE, NIL or the atom 0;
-- a structure holds its parts' defaults, and a class has no cells
abbrev pub default_of : List Shape → Sort → Value
default_of shapes (sort.Class t) = ClassOf [] (default_within (suc (length shapes)) shapes (sort_of_type shapes t)) no_rows
default_of shapes s = default_within (suc (length shapes)) shapes s
