-- Types that are built of types with smaller numbers are types of a program.
use Rattle.std.proofs.Common.{arith, ◌≡◌, ℕ, zero, suc, ◌<◌, ◌≤◌, Bool, true, ◌&&◌, ◌||◌, not, List, [], ◌∷◌, map, length, Some, ℤ, nat_eq, nat_lt, refl, sym, ap, ◌∙◌, subst}
use Rattle.std.specs.List.{list_all, list_any}
use Rattle.std.specs.Int.RustNames.{int_lt}
use Rattle.std.specs.Cmp.Derive.{both_true}
use Rattle.std.proofs.lemmas.Bool.{lt-ltb}
use Rattle.std.proofs.lemmas.List.{length-map}
use Rattle.spv_logic.specs.declared.names.names.Symbol.{Symbol}
use Rattle.spv_logic.specs.declared.types.TypeId.{TypeId}
use Rattle.spv_logic.specs.declared.types.Field.{Field}
use Rattle.spv_logic.specs.declared.types.Shape.{Shape}
use Rattle.spv_logic.specs.Shapes.{shape_at, part_sorts, parts_of, ends_within, is_structure, may_be_part, shape_ok, shapes_ok}
use Rattle.spv_logic.specs.Shapes as shapes
use Rattle.spv_program.specs.declared.types.TypeField.{TypeField}
use Rattle.spv_program.specs.declared.types.TypeForm.{TypeForm}
use Rattle.spv_program.specs.declared.types.TypeForm.TheVariants.{Integer, Boolean, Range, Pointer, Array, Record}
use Rattle.spv_program.specs.Lists.{item_at, same_name, names_differ}
use Rattle.spv_program.specs.Types.{form_at, sort_of, sort_of_form, shape_of_form, shapes_of, is_range, type_exists, form_ok, forms_ok}
use Rattle.spv_program.proofs.SortFacts.{shape_is}
use Rattle.spv_type_soundness.proofs.well_typed_programs.Items.{none_below, item_within, item_there, form_of_item, all_at, all_map}

-- fields whose types have smaller numbers
pub record FieldsBelow (i : ℕ) (fields : List TypeField) : Type 0 where
  pub each : (k : ℕ) (f : TypeField) → item_at fields k ≡ Some f → f.of.0 < i

-- a type with this number, built of types with smaller numbers; pointers lead to any of n types, and arrays have indices that
-- are subranges
pub data Fits (n : ℕ) (ranges : ℕ → Bool) (i : ℕ) : TypeForm → Type 0 where
  integer_fits : Fits n ranges i Integer
  boolean_fits : Fits n ranges i Boolean
  range_fits : (low high : ℤ) → not (int_lt high low) ≡ true → Fits n ranges i (Range low high)
  pointer_fits : (t : TypeId) → t.0 < n → Fits n ranges i (Pointer t)
  array_fits : (index element : TypeId) → index.0 < i → element.0 < i → ranges index.0 ≡ true → Fits n ranges i (Array index element)
  record_fits : (fields : List TypeField) → FieldsBelow i fields → names_differ (map (λ f. f.name) fields) ≡ true
      → Fits n ranges i (Record fields)

abbrev pub ranges_of : List TypeForm → ℕ → Bool
ranges_of forms i = is_range (form_at forms i)

-- types in the order in which they are built; no two pointer types have one target
pub record GoodForms (forms : List TypeForm) : Type 0 where
  pub fits : (i : ℕ) (f : TypeForm) → item_at forms i ≡ Some f → Fits (length forms) (ranges_of forms) i f
  pub settled : (i j : ℕ) (t : TypeId) → item_at forms i ≡ Some (Pointer t) → item_at forms j ≡ Some (Pointer t) → i ≡ j

lower : (a b c : ℕ) → a < b → b < c → a < c
lower a b c h g = omega arith

module _ (forms : List TypeForm) (good : GoodForms forms) where
  abbrev here : List Shape
  here = shapes_of forms

  in_forms : (t : TypeId) → t.0 < length forms → type_exists forms t ≡ true
  in_forms t h = lt-ltb t.0 (length forms) h

  in_shapes : (t : TypeId) → t.0 < length forms → nat_lt t.0 (length here) ≡ true
  in_shapes t h = ap (nat_lt t.0) (length-map forms (shape_of_form forms)) ∙ in_forms t h

  -- what is known of a type that is there
  record Known (t : TypeId) : Type 0 where
    form : TypeForm
    is : form_at forms t.0 ≡ form
    fits : Fits (length forms) (ranges_of forms) t.0 form

  known : (t : TypeId) → t.0 < length forms → Known t
  known t h =
      let r = item_there forms t.0 h in record { form = r.item; is = form_of_item forms t.0 r.item r.is; fits = good.fits t.0 r.item r.is }

  shape_known : (t : TypeId) (f : TypeForm) → form_at forms t.0 ≡ f → shape_at here t.0 ≡ shape_of_form forms f
  shape_known t f e = shape_is forms t.0 ∙ ap (shape_of_form forms) e

  -- ---- parts

  form_may_be_part : (t : TypeId) (f : TypeForm) → t.0 < length forms → form_at forms t.0 ≡ f
      → Fits (length forms) (ranges_of forms) t.0 f → may_be_part here (sort_of_form f t) ≡ true
  form_may_be_part t f h e integer_fits = refl
  form_may_be_part t f h e boolean_fits = refl
  form_may_be_part t f h e (range_fits low high k) = refl
  form_may_be_part t f h e (pointer_fits u k) = in_shapes u k
  form_may_be_part t f h e (array_fits index element j k r) = both_true (in_shapes t h) (ap is_structure (shape_known t f e))
  form_may_be_part t f h e (record_fits fields b d) = both_true (in_shapes t h) (ap is_structure (shape_known t f e))

  part_fits : (t : TypeId) → t.0 < length forms → may_be_part here (sort_of forms t) ≡ true
  part_fits t h =
      let k = known t h in ap (λ f. may_be_part here (sort_of_form f t)) k.is ∙ form_may_be_part t k.form h k.is k.fits

  -- ---- each shape is right

  abbrev with_sort : TypeField → Field
  with_sort f = record { name = f.name; sort = sort_of forms f.of }

  none_alike : (x : Symbol) (fields : List TypeField)
      → list_any (same_name x) (map (λ f. f.name) fields)
      ≡ list_any (λ (g : Field). nat_eq x.0 g.name.0) (map (λ (f : TypeField). with_sort f) fields)
  none_alike x [] = refl
  none_alike x (f ∷ fields) = ap (λ b. nat_eq x.0 f.name.0 || b) (none_alike x fields)

  differ_alike : (fields : List TypeField)
      → names_differ (map (λ f. f.name) fields) ≡ shapes.names_differ (map (λ (f : TypeField). with_sort f) fields)
  differ_alike [] = refl
  differ_alike (f ∷ fields) =
      ap (λ b. not b && names_differ (map (λ g. g.name) fields)) (none_alike f.name fields)
      ∙ ap (λ b. not (list_any (λ (g : Field). nat_eq f.name.0 g.name.0) (map (λ (g : TypeField). with_sort g) fields)) && b)
      (differ_alike fields)

  one_shape : (i : ℕ) (f : TypeForm) → i < length forms → Fits (length forms) (ranges_of forms) i f
      → shape_ok here (shape_of_form forms f) ≡ true
  one_shape i f h integer_fits = refl
  one_shape i f h boolean_fits = refl
  one_shape i f h (range_fits low high k) = refl
  one_shape i f h (pointer_fits t k) = in_shapes t k
  one_shape i f h (array_fits index element j k r) = part_fits element (lower element.0 i (length forms) k h)
  one_shape i f h (record_fits fields b d) =
      both_true
      (all_map (λ (g : Field). may_be_part here g.sort) (λ (g : TypeField). with_sort g) fields
      ∙ all_at (λ (g : TypeField). may_be_part here (sort_of forms g.of)) fields
      (λ k g e. part_fits g.of (lower g.of.0 i (length forms) (b.each k g e) h)))
      (sym (differ_alike fields) ∙ d)

  one_form : (i : ℕ) (f : TypeForm) → i < length forms → Fits (length forms) (ranges_of forms) i f → form_ok forms f ≡ true
  one_form i f h integer_fits = refl
  one_form i f h boolean_fits = refl
  one_form i f h (range_fits low high k) = k
  one_form i f h (pointer_fits t k) = in_forms t k
  one_form i f h (array_fits index element j k r) = both_true r (in_forms element (lower element.0 i (length forms) k h))
  one_form i f h (record_fits fields b d) =
      both_true (all_at (λ (g : TypeField). type_exists forms g.of) fields
      (λ k g e. in_forms g.of (lower g.of.0 i (length forms) (b.each k g e) h))) d

  -- ---- no type contains itself

  not_below_zero : {P : Type 0} (n : ℕ) → n ≤ 0 → (m : ℕ) → m < n → P
  not_below_zero n h m g = none_below m (least m n g h)
    where
      least : (m n : ℕ) → m < n → n ≤ 0 → m < 0
      least m n g h = omega arith

  fits_within : (m n d : ℕ) → m < n → n ≤ suc d → m ≤ d
  fits_within m n d g h = omega arith

  no_fields : (i : ℕ) (fields : List TypeField) → i ≤ 0 → FieldsBelow i fields → fields ≡ []
  no_fields i [] h b = refl
  no_fields i (f ∷ fields) h b = not_below_zero i h f.of.0 (b.each 0 f refl)

  ends_now : (t : TypeId) (f : TypeForm) → t.0 ≤ 0 → form_at forms t.0 ≡ f → Fits (length forms) (ranges_of forms) t.0 f
      → ends_within 0 here (sort_of_form f t) ≡ true
  ends_now t f h e integer_fits = refl
  ends_now t f h e boolean_fits = refl
  ends_now t f h e (range_fits low high k) = refl
  ends_now t f h e (pointer_fits u k) = refl
  ends_now t f h e (array_fits index element j k r) = not_below_zero t.0 h element.0 k
  ends_now t f h e (record_fits fields b d) =
      ap (λ s. shapes.no_sorts (part_sorts s)) (shape_known t f e)
      ∙ ap (λ fs. shapes.no_sorts (map (λ (g : Field). g.sort) (map (λ (g : TypeField). with_sort g) fs))) (no_fields t.0 fields h b)

  ends_later : (d : ℕ) (t : TypeId) (f : TypeForm) → t.0 ≤ suc d → t.0 < length forms → form_at forms t.0 ≡ f
      → Fits (length forms) (ranges_of forms) t.0 f
      → ((u : TypeId) → u.0 ≤ d → u.0 < length forms → ends_within d here (sort_of forms u) ≡ true)
      → ends_within (suc d) here (sort_of_form f t) ≡ true
  ends_later d t f h g e integer_fits later = refl
  ends_later d t f h g e boolean_fits later = refl
  ends_later d t f h g e (range_fits low high k) later = refl
  ends_later d t f h g e (pointer_fits u k) later = refl
  ends_later d t f h g e (array_fits index element j k r) later =
      ap (λ s. list_all (ends_within d here) (part_sorts s)) (shape_known t f e)
      ∙ both_true (later element (fits_within element.0 t.0 d k h) (lower element.0 t.0 (length forms) k g)) refl
  ends_later d t f h g e (record_fits fields b q) later =
      ap (λ s. list_all (ends_within d here) (part_sorts s)) (shape_known t f e)
      ∙ (all_map (ends_within d here) (λ (k : Field). k.sort) (map (λ (k : TypeField). with_sort k) fields)
      ∙ (all_map (λ (k : Field). ends_within d here k.sort) (λ (k : TypeField). with_sort k) fields
      ∙ all_at (λ (k : TypeField). ends_within d here (sort_of forms k.of)) fields
      (λ n k is. later k.of (fits_within k.of.0 t.0 d (b.each n k is) h) (lower k.of.0 t.0 (length forms) (b.each n k is) g))))

  ends : (d : ℕ) (t : TypeId) → t.0 ≤ d → t.0 < length forms → ends_within d here (sort_of forms t) ≡ true
  ends zero t h g = let k = known t g in ap (λ f. ends_within 0 here (sort_of_form f t)) k.is ∙ ends_now t k.form h k.is k.fits
  ends (suc d) t h g =
      let k = known t g in
      ap (λ f. ends_within (suc d) here (sort_of_form f t)) k.is ∙ ends_later d t k.form h g k.is k.fits (λ u j l. ends d u j l)

  at_most : (a b c : ℕ) → a < b → b < c → a ≤ c
  at_most a b c h g = omega arith

  ends_all : (t : TypeId) (i : ℕ) → t.0 < i → i < length forms → ends_within (length here) here (sort_of forms t) ≡ true
  ends_all t i h g =
      subst (λ n. ends_within n here (sort_of forms t) ≡ true) (sym (length-map forms (shape_of_form forms)))
      (ends (length forms) t (at_most t.0 i (length forms) h g) (lower t.0 i (length forms) h g))

  parts_end : (i : ℕ) (f : TypeForm) → i < length forms → Fits (length forms) (ranges_of forms) i f
      → list_all (ends_within (length here) here) (part_sorts (shape_of_form forms f)) ≡ true
  parts_end i f h integer_fits = refl
  parts_end i f h boolean_fits = refl
  parts_end i f h (range_fits low high k) = refl
  parts_end i f h (pointer_fits t k) = refl
  parts_end i f h (array_fits index element j k r) = both_true (ends_all element i k h) refl
  parts_end i f h (record_fits fields b d) =
      all_map (ends_within (length here) here) (λ (k : Field). k.sort) (map (λ (k : TypeField). with_sort k) fields)
      ∙ (all_map (λ (k : Field). ends_within (length here) here k.sort) (λ (k : TypeField). with_sort k) fields
      ∙ all_at (λ (k : TypeField). ends_within (length here) here (sort_of forms k.of)) fields
      (λ n k is. ends_all k.of i (b.each n k is) h))

  -- ---- all of it

  pub forms_are_right : forms_ok forms ≡ true
  forms_are_right =
      both_true (all_at (form_ok forms) forms (λ i f e. one_form i f (item_within forms i f e) (good.fits i f e)))
      (both_true
      (all_map (shape_ok here) (shape_of_form forms) forms
      ∙ all_at (λ f. shape_ok here (shape_of_form forms f)) forms (λ i f e. one_shape i f (item_within forms i f e) (good.fits i f e)))
      (all_map (λ s. list_all (ends_within (length here) here) (part_sorts s)) (shape_of_form forms) forms
      ∙ all_at (λ f. list_all (ends_within (length here) here) (part_sorts (shape_of_form forms f))) forms
      (λ i f e. parts_end i f (item_within forms i f e) (good.fits i f e))))
