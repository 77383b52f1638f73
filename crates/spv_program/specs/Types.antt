-- Types by their numbers: their sorts, their parts, and which numbers a subrange takes.
use Rattle.std.specs.Prelude.{ℕ, zero, suc, Bool, true, false, ◌&&◌, not, List, [], ◌∷◌, map, length, Option, Some, None, ℤ, nat_eq, nat_lt, if◌then◌else◌}
use Rattle.std.specs.Int.RustNames.{int_lt}
use Rattle.std.specs.Ordering.{int_eq}
use Rattle.std.specs.List.{list_all}
use Rattle.spv_logic.specs.declared.names.names.Symbol.{Symbol}
use Rattle.spv_logic.specs.declared.types.TypeId.{TypeId}
use Rattle.spv_logic.specs.declared.types.Sort.{Sort}
use Rattle.spv_logic.specs.declared.types.Sort.TheVariants as sort
use Rattle.spv_logic.specs.declared.types.Shape.{Shape}
use Rattle.spv_logic.specs.declared.types.Shape.TheVariants as shape
use Rattle.spv_logic.specs.Values.{Value, number_of}
use Rattle.spv_logic.specs.Terms.{sort_eq}
use Rattle.spv_logic.specs.Shapes.{shapes_ok}
use Rattle.spv_program.specs.declared.types.TypeField.{TypeField}
use Rattle.spv_program.specs.declared.types.Item.{Item}
use Rattle.spv_program.specs.declared.types.Item.TheVariants.{Variable, Class}
use Rattle.spv_program.specs.declared.types.TypeForm.{TypeForm}
use Rattle.spv_program.specs.declared.types.TypeForm.TheVariants.{Integer, Boolean, Range, Pointer, Array, Record}
use Rattle.spv_program.specs.Lists.{same_name, names_differ}

abbrev pub same_type : TypeId → TypeId → Bool
same_type t u = nat_eq t.0 u.0

abbrev pub same_item : Item → Item → Bool
same_item (Variable x) (Variable y) = same_name x y
same_item (Class t) (Class u) = same_type t u
same_item _ _ = false

-- the form of a type; a type out of range counts as a record without fields
abbrev pub form_at : List TypeForm → ℕ → TypeForm
form_at [] t = Record []
form_at (f ∷ forms) zero = f
form_at (f ∷ forms) (suc t) = form_at forms t

-- ---- sorts

abbrev pub sort_of_form : TypeForm → TypeId → Sort
sort_of_form Integer t = sort.Int
sort_of_form Boolean t = sort.Bool
sort_of_form (Range low high) t = sort.Int
sort_of_form (Pointer u) t = sort.Ptr u
sort_of_form (Array index element) t = sort.Whole t
sort_of_form (Record fields) t = sort.Whole t

-- the sort of a type's values
abbrev pub sort_of : List TypeForm → TypeId → Sort
sort_of forms t = sort_of_form (form_at forms t.0) t

abbrev pub shape_of_form : List TypeForm → TypeForm → Shape
shape_of_form forms Integer = shape.Int
shape_of_form forms Boolean = shape.Bool
shape_of_form forms (Range low high) = shape.Int
shape_of_form forms (Pointer t) = shape.Pointer t
shape_of_form forms (Array index element) = shape.Array (sort_of forms element)
shape_of_form forms (Record fields) = shape.Record (map (λ f. record { name = f.name; sort = sort_of forms f.of }) fields)

-- the shapes of all types, in their order
abbrev pub shapes_of : List TypeForm → List Shape
shapes_of forms = map (shape_of_form forms) forms

-- ---- parts

abbrev pub field_type : List TypeField → Symbol → Option TypeId
field_type [] name = None
field_type (f ∷ fields) name = if same_name f.name name then Some f.of else field_type fields name

-- the type of an array's elements, none of another type
abbrev pub element_of : TypeForm → Option TypeId
element_of (Array index element) = Some element
element_of _ = None

-- the type of a record's field, none of another type
abbrev pub field_of : TypeForm → Symbol → Option TypeId
field_of (Record fields) name = field_type fields name
field_of _ name = None

-- the type of the cells that a pointer type leads to, none of another type
abbrev pub target_of : TypeForm → Option TypeId
target_of (Pointer t) = Some t
target_of _ = None

-- ---- subranges

-- the bounds of a subrange, none of another type
abbrev pub bounds_of : TypeForm → Option (ℤ × ℤ)
bounds_of (Range low high) = Some (low, high)
bounds_of _ = None

abbrev pub is_within : Option (ℤ × ℤ) → ℤ → Bool
is_within None z = true
is_within (Some bounds) z = not (int_lt z bounds.0) && not (int_lt bounds.1 z)

-- whether a type takes a value: a subrange takes the numbers between its bounds, every other type all values of its sort
abbrev pub takes_value : List TypeForm → TypeId → Value → Bool
takes_value forms t v = is_within (bounds_of (form_at forms t.0)) (number_of v)

-- the type of an array's indices; another type stands for itself
abbrev pub index_of_form : TypeForm → TypeId → TypeId
index_of_form (Array index element) t = index
index_of_form _ t = t

-- whether a value is an index of an array of this type
abbrev pub takes_index : List TypeForm → TypeId → Value → Bool
takes_index forms t v = takes_value forms (index_of_form (form_at forms t.0) t) v

-- ---- which types agree

abbrev pub same_bounds : Option (ℤ × ℤ) → Option (ℤ × ℤ) → Bool
same_bounds None None = true
same_bounds (Some a) (Some b) = int_eq a.0 b.0 && int_eq a.1 b.1
same_bounds _ _ = false

-- whether a place of the one type may stand for one of the other: equal types, and subranges with equal bounds
abbrev pub same_places : List TypeForm → TypeId → TypeId → Bool
same_places forms t u =
    sort_eq (sort_of forms t) (sort_of forms u) && same_bounds (bounds_of (form_at forms t.0)) (bounds_of (form_at forms u.0))

-- ---- which lists of forms are the types of a program

abbrev pub type_exists : List TypeForm → TypeId → Bool
type_exists forms t = nat_lt t.0 (length forms)

abbrev pub is_range : TypeForm → Bool
is_range (Range low high) = true
is_range _ = false

abbrev pub form_ok : List TypeForm → TypeForm → Bool
form_ok forms (Range low high) = not (int_lt high low)
form_ok forms (Pointer t) = type_exists forms t
form_ok forms (Array index element) = is_range (form_at forms index.0) && type_exists forms element
form_ok forms (Record fields) = list_all (λ f. type_exists forms f.of) fields && names_differ (map (λ f. f.name) fields)
form_ok forms _ = true

-- whether each type is built of types that are there, and none contains itself
abbrev pub forms_ok : List TypeForm → Bool
forms_ok forms = list_all (form_ok forms) forms && shapes_ok (shapes_of forms)

-- whether the results of functions may have this type: integers, truth values and pointers
abbrev pub may_be_result : TypeForm → Bool
may_be_result (Array index element) = false
may_be_result (Record fields) = false
may_be_result _ = true
