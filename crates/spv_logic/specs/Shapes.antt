-- The types of a program: their shapes, the sorts of their values and of their parts.
use Rattle.std.specs.Prelude.{ℕ, zero, suc, Bool, true, false, ◌&&◌, not, List, [], ◌∷◌, map, length, Option, Some, None, nat_eq, nat_lt, if◌then◌else◌}
use Rattle.std.specs.List.{list_all, list_any}
use Rattle.spv_logic.specs.declared.types.TypeId.{TypeId}
use Rattle.spv_logic.specs.declared.types.Sort.{Sort}
use Rattle.spv_logic.specs.declared.types.Sort.TheVariants as sort
use Rattle.spv_logic.specs.declared.types.Field.{Field}
use Rattle.spv_logic.specs.declared.types.Shape.{Shape}
use Rattle.spv_logic.specs.declared.types.Shape.TheVariants as shape

-- the shape of a type; a type out of range counts as a record without fields
abbrev pub shape_at : List Shape → ℕ → Shape
shape_at [] t = shape.Record []
shape_at (s ∷ shapes) zero = s
shape_at (s ∷ shapes) (suc t) = shape_at shapes t

-- the sort of the values of a type of this shape
abbrev pub sort_of_shape : Shape → TypeId → Sort
sort_of_shape shape.Int t = sort.Int
sort_of_shape shape.Bool t = sort.Bool
sort_of_shape (shape.Pointer u) t = sort.Ptr u
sort_of_shape (shape.Array s) t = sort.Whole t
sort_of_shape (shape.Record fields) t = sort.Whole t

abbrev pub sort_of_type : List Shape → TypeId → Sort
sort_of_type shapes t = sort_of_shape (shape_at shapes t.0) t

-- the element sort of an array's shape, none of another one
abbrev pub element_of_shape : Shape → Option Sort
element_of_shape (shape.Array s) = Some s
element_of_shape _ = None

-- the fields of a record's shape; of no array and no record, none
abbrev pub fields_of_shape : Shape → Option (List Field)
fields_of_shape (shape.Record fields) = Some fields
fields_of_shape (shape.Array s) = None
fields_of_shape _ = Some []

-- the element sort of an array sort, none of another sort
abbrev pub element_sort : List Shape → Sort → Option Sort
element_sort shapes (sort.Whole t) = element_of_shape (shape_at shapes t.0)
element_sort shapes _ = None

-- the fields of a record sort, none of another sort
abbrev pub fields_of : List Shape → Sort → Option (List Field)
fields_of shapes (sort.Whole t) = fields_of_shape (shape_at shapes t.0)
fields_of shapes _ = None

-- the sort of the contents of a class, none of another sort
abbrev pub content_sort : List Shape → Sort → Option Sort
content_sort shapes (sort.Class t) = Some (sort_of_type shapes t)
content_sort shapes _ = None

-- the sort of a class's pointers
abbrev pub pointer_sort : Sort → Sort
pointer_sort (sort.Class t) = sort.Ptr t
pointer_sort s = s

abbrev pub is_list : Sort → Bool
is_list sort.List = true
is_list _ = false

abbrev pub is_pointer : Sort → Bool
is_pointer (sort.Ptr t) = true
is_pointer _ = false

-- the sort of the field of this name
abbrev pub field_sort : List Field → ℕ → Option Sort
field_sort [] name = None
field_sort (f ∷ fields) name = if nat_eq f.name.0 name then Some f.sort else field_sort fields name

abbrev pub field_sort_of : Option (List Field) → ℕ → Option Sort
field_sort_of None name = None
field_sort_of (Some fields) name = field_sort fields name

-- ---- which lists of shapes are types of a program

-- the sorts of the parts of a type of this shape
abbrev pub part_sorts : Shape → List Sort
part_sorts (shape.Array s) = s ∷ []
part_sorts (shape.Record fields) = map (λ f. f.sort) fields
part_sorts _ = []

abbrev pub parts_of : List Shape → Sort → List Sort
parts_of shapes (sort.Whole t) = part_sorts (shape_at shapes t.0)
parts_of shapes _ = []

abbrev pub no_sorts : List Sort → Bool
no_sorts [] = true
no_sorts (s ∷ sorts) = false

-- whether the parts of a sort, their parts and so on lie at most `depth` deep
abbrev pub ends_within : ℕ → List Shape → Sort → Bool
ends_within zero shapes s = no_sorts (parts_of shapes s)
ends_within (suc depth) shapes s = list_all (ends_within depth shapes) (parts_of shapes s)

abbrev pub is_structure : Shape → Bool
is_structure (shape.Array s) = true
is_structure (shape.Record fields) = true
is_structure _ = false

-- whether a sort may be that of a part: no class and no list, its type is there, and is an array or a record where it is whole
abbrev pub may_be_part : List Shape → Sort → Bool
may_be_part shapes sort.Int = true
may_be_part shapes sort.Bool = true
may_be_part shapes (sort.Ptr t) = nat_lt t.0 (length shapes)
may_be_part shapes (sort.Whole t) = nat_lt t.0 (length shapes) && is_structure (shape_at shapes t.0)
may_be_part shapes _ = false

abbrev pub names_differ : List Field → Bool
names_differ [] = true
names_differ (f ∷ fields) = not (list_any (λ g. nat_eq f.name.0 g.name.0) fields) && names_differ fields

abbrev pub shape_ok : List Shape → Shape → Bool
shape_ok shapes (shape.Pointer t) = nat_lt t.0 (length shapes)
shape_ok shapes (shape.Array s) = may_be_part shapes s
shape_ok shapes (shape.Record fields) = list_all (λ f. may_be_part shapes f.sort) fields && names_differ fields
shape_ok shapes _ = true

-- whether each shape is right, and no type contains itself: as many types deep as there are, all parts end
abbrev pub shapes_ok : List Shape → Bool
shapes_ok shapes =
    list_all (shape_ok shapes) shapes && list_all (λ s. list_all (ends_within (length shapes) shapes) (part_sorts s)) shapes
