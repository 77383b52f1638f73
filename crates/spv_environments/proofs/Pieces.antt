-- The parts of a sort are those of its type's form.
use Rattle.std.proofs.Common.{◌≡◌, ◌<◌, length, drop, get_or, ℕ, zero, suc, Bool, true, false, cond, List, [], ◌∷◌, map, Option, Some, None, refl, sym, ap, ◌∙◌, option_map, is_some, not, nat_eq}
use Rattle.std.proofs.Math.Seq.{drop-cons}
use Rattle.spv_logic.specs.declared.names.names.Symbol.{Symbol}
use Rattle.spv_logic.specs.declared.types.TypeId.{TypeId}
use Rattle.spv_logic.specs.declared.types.Sort.{Sort}
use Rattle.spv_logic.specs.declared.types.Sort.TheVariants as sort
use Rattle.spv_logic.specs.Shapes as shapes
use Rattle.spv_program.specs.declared.types.TypeField.{TypeField}
use Rattle.spv_program.specs.declared.types.TypeForm.{TypeForm}
use Rattle.spv_program.specs.declared.types.TypeForm.TheVariants.{Integer, Boolean, Range, Pointer, Array, Record}
use Rattle.spv_program.specs.Types.{form_at, shape_of_form, shapes_of, sort_of, element_of, field_of, field_type}

shape_is : (all forms : List TypeForm) (n : ℕ) → shapes.shape_at (map (shape_of_form all) forms) n ≡ shape_of_form all (form_at forms n)
shape_is all [] n = refl
shape_is all (f ∷ forms) zero = refl
shape_is all (f ∷ forms) (suc n) = shape_is all forms n

element_in : (all : List TypeForm) (f : TypeForm) → shapes.element_of_shape (shape_of_form all f) ≡ option_map (sort_of all) (element_of f)
element_in all Integer = refl
element_in all Boolean = refl
element_in all (Range low high) = refl
element_in all (Pointer t) = refl
element_in all (Array index element) = refl
element_in all (Record fields) = refl

module _ (forms : List TypeForm) (of : Sort) (t : TypeId) (whole : of ≡ sort.Whole t) where
  element_is : (o : Option TypeId) → element_of (form_at forms t.0) ≡ o → shapes.element_sort (shapes_of forms) of ≡ option_map (sort_of forms) o
  element_is o h =
      ap (shapes.element_sort (shapes_of forms)) whole ∙ ap shapes.element_of_shape (shape_is forms forms t.0) ∙ element_in forms (form_at forms t.0)
      ∙ ap (option_map (sort_of forms)) h

  pub element_there : (e : TypeId) → element_of (form_at forms t.0) ≡ Some e → shapes.element_sort (shapes_of forms) of ≡ Some (sort_of forms e)
  element_there e h = element_is (Some e) h

  pub element_missing : element_of (form_at forms t.0) ≡ None → shapes.element_sort (shapes_of forms) of ≡ None
  element_missing h = element_is None h

field_in : (all : List TypeForm) (fields : List TypeField) (x : Symbol)
    → shapes.field_sort (map (λ f. record { name = f.name; sort = sort_of all f.of }) fields) x.0 ≡ option_map (sort_of all) (field_type fields x)
field_in all [] x = refl
field_in all (f ∷ fields) x = by_case (nat_eq f.name.0 x.0) (field_in all fields x)
  where
    by_case : (b : Bool) → shapes.field_sort (map (λ f. record { name = f.name; sort = sort_of all f.of }) fields) x.0 ≡ option_map (sort_of all) (field_type fields x)
        → cond b (Some (sort_of all f.of)) (shapes.field_sort (map (λ f. record { name = f.name; sort = sort_of all f.of }) fields) x.0)
        ≡ option_map (sort_of all) (cond b (Some f.of) (field_type fields x))
    by_case true later = refl
    by_case false later = later

field_of_form : (all : List TypeForm) (f : TypeForm) (x : Symbol) → shapes.field_sort_of (shapes.fields_of_shape (shape_of_form all f)) x.0 ≡ option_map (sort_of all) (field_of f x)
field_of_form all Integer x = refl
field_of_form all Boolean x = refl
field_of_form all (Range low high) x = refl
field_of_form all (Pointer t) x = refl
field_of_form all (Array index element) x = refl
field_of_form all (Record fields) x = field_in all fields x

fields_or_element : (all : List TypeForm) (f : TypeForm) → is_some (shapes.fields_of_shape (shape_of_form all f)) ≡ not (is_some (element_of f))
fields_or_element all Integer = refl
fields_or_element all Boolean = refl
fields_or_element all (Range low high) = refl
fields_or_element all (Pointer t) = refl
fields_or_element all (Array index element) = refl
fields_or_element all (Record fields) = refl

module _ (forms : List TypeForm) (of : Sort) (t : TypeId) (whole : of ≡ sort.Whole t) where
  fields_are : (o : Option TypeId) → o ≡ element_of (form_at forms t.0) → is_some (shapes.fields_of (shapes_of forms) of) ≡ not (is_some o)
  fields_are o h =
      ap (λ s. is_some (shapes.fields_of (shapes_of forms) s)) whole ∙ ap (λ s. is_some (shapes.fields_of_shape s)) (shape_is forms forms t.0)
      ∙ fields_or_element forms (form_at forms t.0) ∙ ap (λ o. not (is_some o)) (sym h)

  pub array_has_no_fields : (e : TypeId) → element_of (form_at forms t.0) ≡ Some e → is_some (shapes.fields_of (shapes_of forms) of) ≡ false
  array_has_no_fields e h = fields_are (Some e) (sym h)

  pub others_have_fields : element_of (form_at forms t.0) ≡ None → is_some (shapes.fields_of (shapes_of forms) of) ≡ true
  others_have_fields h = fields_are None (sym h)

  module _ (x : Symbol) where
    field_is : (o : Option TypeId) → field_of (form_at forms t.0) x ≡ o → shapes.field_sort_of (shapes.fields_of (shapes_of forms) of) x.0 ≡ option_map (sort_of forms) o
    field_is o h =
        ap (λ s. shapes.field_sort_of (shapes.fields_of (shapes_of forms) s) x.0) whole
        ∙ ap (λ s. shapes.field_sort_of (shapes.fields_of_shape s) x.0) (shape_is forms forms t.0) ∙ field_of_form forms (form_at forms t.0) x
        ∙ ap (option_map (sort_of forms)) h

    pub field_there : (u : TypeId) → field_of (form_at forms t.0) x ≡ Some u → shapes.field_sort_of (shapes.fields_of (shapes_of forms) of) x.0 ≡ Some (sort_of forms u)
    field_there u h = field_is (Some u) h

    pub field_missing : field_of (form_at forms t.0) x ≡ None → shapes.field_sort_of (shapes.fields_of (shapes_of forms) of) x.0 ≡ None
    field_missing h = field_is None h

-- ---- fields one after the other

module _ (fields : List TypeField) (x : Symbol) (n : ℕ) (f : TypeField) (within : n < length fields) (is : f ≡ get_or fields n f) where
  opened : field_type (drop n fields) x ≡ field_type (f ∷ drop (suc n) fields) x
  opened = ap (λ (fs : List TypeField). field_type fs x) (drop-cons fields n f within ∙ ap (λ (g : TypeField). g ∷ drop (suc n) fields) (sym is))

  pub field_first : nat_eq f.name.0 x.0 ≡ true → field_type (drop n fields) x ≡ Some f.of
  field_first same = opened ∙ ap (λ b. cond b (Some f.of) (field_type (drop (suc n) fields) x)) same

  pub field_behind : nat_eq f.name.0 x.0 ≡ false → field_type (drop n fields) x ≡ field_type (drop (suc n) fields) x
  field_behind same = opened ∙ ap (λ b. cond b (Some f.of) (field_type (drop (suc n) fields) x)) same
