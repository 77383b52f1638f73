-- Which fields a record has.
use Rattle.std.proofs.Common.{◌≡◌, ℕ, zero, suc, ◌<◌, true, false, List, [], ◌∷◌, map, length, slice_get, refl, sym, ap, ◌∙◌, Option, Some, None, is_some, nat_eq, nat_lt, arith}
use Rattle.std.proofs.lemmas.Bool.Decides.{nat_tests}
use Rattle.std.specs.List.{find}
use Rattle.std.specs.Option.{option_map}
use Rattle.spv_logic.specs.declared.conditions.TermId.{TermId}
use Rattle.spv_logic.specs.declared.types.TypeId.{TypeId}
use Rattle.spv_logic.specs.declared.types.Sort.{Sort}
use Rattle.spv_logic.specs.declared.types.Sort.TheVariants as sort
use Rattle.spv_logic.specs.declared.types.Field.{Field}
use Rattle.spv_logic.specs.declared.types.Shape.{Shape}
use Rattle.spv_logic.specs.declared.types.Shape.TheVariants as shape
use Rattle.spv_logic.specs.Shapes.{shape_at, fields_of_shape, fields_of, field_sort_of}
use Rattle.spv_logic.specs.Sorts.{sort_in_range}
use Rattle.spv_schemas.specs.Instances.{named, names_in}
use Rattle.spv_term.specs.Arena.{Arena, IsArena, sort_at}
use Rattle.spv_term.proofs.SortLemmas.{field_sort-find}
use Rattle.spv_term.proofs.RangeLemmas.{NamesTypes-arena}

lt_told : (m n : ℕ) → nat_lt m n ≡ true → m < n
lt_told m n h = grind (arith, nat_tests)

-- the type of a sort is there
pub whole_there : (a : Arena) → IsArena a → (t : TermId) → t.0 < length a.nodes → (k : TypeId) → sort_at a t ≡ sort.Whole k → k.0 < length a.shapes
whole_there a ok t h k e = lt_told k.0 (length a.shapes) (sym (ap (sort_in_range a.shapes) e) ∙ NamesTypes-arena a ok t h)

pub class_there : (a : Arena) → IsArena a → (t : TermId) → t.0 < length a.nodes → (k : TypeId) → sort_at a t ≡ sort.Class k → nat_lt k.0 (length a.shapes) ≡ true
class_there a ok t h k e = sym (ap (sort_in_range a.shapes) e) ∙ NamesTypes-arena a ok t h

shape_is : (shapes : List Shape) (i : ℕ) (s : Shape) → slice_get shapes i ≡ Some s → shape_at shapes i ≡ s
shape_is [] i s e = absurd (cc)
shape_is (x ∷ shapes) zero s e = cc
shape_is (x ∷ shapes) (suc i) s e = shape_is shapes i s e

-- the fields of a sort whose type has this shape
fields_are : (shapes : List Shape) (r : Sort) (k : TypeId) (s : Shape) → r ≡ sort.Whole k → slice_get shapes k.0 ≡ Some s → fields_of shapes r ≡ fields_of_shape s
fields_are shapes r k s e f = ap (fields_of shapes) e ∙ ap fields_of_shape (shape_is shapes k.0 s f)

some_mapped : {X Y : Type 0} (f : X → Y) (o : Option X) → is_some (option_map f o) ≡ is_some o
some_mapped f None = refl
some_mapped f (Some x) = refl

pub field_there : (shapes : List Shape) (r : Sort) (k : TypeId) (s : Shape) → r ≡ sort.Whole k → slice_get shapes k.0 ≡ Some s
    → (fields : List Field) → s ≡ shape.Record fields → (name : ℕ) (o : Option Sort) → o ≡ option_map (λ f. f.sort) (find (λ f. nat_eq f.name.0 name) fields)
    → is_some o ≡ is_some (field_sort_of (fields_of shapes r) name)
field_there shapes r k s e f fields g name o h =
    ap is_some (h ∙ sym (field_sort-find fields name)) ∙ ap (λ fs. is_some (field_sort_of fs name)) (sym (fields_are shapes r k s e f ∙ ap fields_of_shape g))

no_fields : (s : Shape) (name : ℕ) → ((fields : List Field) → s ≡ shape.Record fields → ⊥) → false ≡ is_some (field_sort_of (fields_of_shape s) name)
no_fields shape.Int name n = refl
no_fields shape.Bool name n = refl
no_fields (shape.Pointer t) name n = refl
no_fields (shape.Array e) name n = refl
no_fields (shape.Record fields) name n = absurd (n fields refl)

pub no_field : (shapes : List Shape) (r : Sort) (k : TypeId) (s : Shape) → r ≡ sort.Whole k → slice_get shapes k.0 ≡ Some s
    → ((fields : List Field) → s ≡ shape.Record fields → ⊥) → (name : ℕ) → false ≡ is_some (field_sort_of (fields_of shapes r) name)
no_field shapes r k s e f n name = no_fields s name n ∙ ap (λ fs. is_some (field_sort_of fs name)) (sym (fields_are shapes r k s e f))

pub names_there : (shapes : List Shape) (r : Sort) (k : TypeId) (s : Shape) → r ≡ sort.Whole k → slice_get shapes k.0 ≡ Some s
    → (fields : List Field) → s ≡ shape.Record fields → map (λ field. Some field.name) fields ≡ names_in shapes (Some r)
names_there shapes r k s e f fields g = sym (ap named (fields_are shapes r k s e f ∙ ap fields_of_shape g))

no_names : (s : Shape) → ((fields : List Field) → s ≡ shape.Record fields → ⊥) → [] ≡ named (fields_of_shape s)
no_names shape.Int n = refl
no_names shape.Bool n = refl
no_names (shape.Pointer t) n = refl
no_names (shape.Array e) n = refl
no_names (shape.Record fields) n = absurd (n fields refl)

pub no_names_there : (shapes : List Shape) (r : Sort) (k : TypeId) (s : Shape) → r ≡ sort.Whole k → slice_get shapes k.0 ≡ Some s
    → ((fields : List Field) → s ≡ shape.Record fields → ⊥) → [] ≡ names_in shapes (Some r)
no_names_there shapes r k s e f n = no_names s n ∙ sym (ap named (fields_are shapes r k s e f))
