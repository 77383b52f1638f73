-- Types and sorts that are there.
use Rattle.std.proofs.Common.{◌≡◌, ℕ, zero, suc, Bool, true, false, cond, List, [], ◌∷◌, length, refl, sym, ap, ◌∙◌, nat_lt, Some}
use Rattle.std.specs.List.{list_all}
use Rattle.std.proofs.lemmas.List.{length-map}
use Rattle.spv_logic.proofs.list.Tests.{left_true, right_true}
use Rattle.spv_logic.specs.declared.names.names.Symbol.{Symbol}
use Rattle.spv_logic.specs.declared.types.TypeId.{TypeId}
use Rattle.spv_logic.specs.Sorts.{sort_in_range}
use Rattle.spv_logic.specs.Shapes.{shapes_ok}
use Rattle.spv_program.specs.declared.types.TypeForm.{TypeForm}
use Rattle.spv_program.specs.declared.types.TypeForm.TheVariants.{Integer, Boolean, Range, Pointer, Array, Record}
use Rattle.spv_program.specs.Lists.{same_name, found}
use Rattle.spv_program.specs.Types.{form_at, sort_of, sort_of_form, shape_of_form, shapes_of, target_of, type_exists, form_ok, forms_ok}
use Rattle.spv_program.proofs.SortFacts.{nothing_there, some_is}

-- a type that is there has a shape
pub shape_there : (forms : List TypeForm) (t : TypeId) → type_exists forms t ≡ true → nat_lt t.0 (length (shapes_of forms)) ≡ true
shape_there forms t h = ap (nat_lt t.0) (length-map forms (shape_of_form forms)) ∙ h

-- each form of a program is right, also what stands for one that is not there
form_right : (all forms : List TypeForm) (t : ℕ) → list_all (form_ok all) forms ≡ true → form_ok all (form_at forms t) ≡ true
form_right all [] t h = refl
form_right all (f ∷ forms) zero h = left_true (form_ok all f) (list_all (form_ok all) forms) h
form_right all (f ∷ forms) (suc t) h = form_right all forms t (right_true (form_ok all f) (list_all (form_ok all) forms) h)

pub form_is_right : (forms : List TypeForm) (t : ℕ) → forms_ok forms ≡ true → form_ok forms (form_at forms t) ≡ true
form_is_right forms t h = form_right forms forms t (left_true (list_all (form_ok forms) forms) (shapes_ok (shapes_of forms)) h)

-- the sort of a type that is there
pub sort_there : (forms : List TypeForm) (t : TypeId) → forms_ok forms ≡ true → type_exists forms t ≡ true → sort_in_range (shapes_of forms) (sort_of forms t) ≡ true
sort_there forms t right h = by_form (form_at forms t.0) (form_is_right forms t.0 right)
  where
    by_form : (f : TypeForm) → form_ok forms f ≡ true → sort_in_range (shapes_of forms) (sort_of_form f t) ≡ true
    by_form Integer g = refl
    by_form Boolean g = refl
    by_form (Range low high) g = refl
    by_form (Pointer u) g = shape_there forms u g
    by_form (Array index element) g = shape_there forms t h
    by_form (Record fields) g = shape_there forms t h

-- ---- the parts of a type that is there are there

pub target_exists : (forms : List TypeForm) (f : TypeForm) (u : TypeId) → form_ok forms f ≡ true → target_of f ≡ Some u → type_exists forms u ≡ true
target_exists forms Integer u h e = absurd (nothing_there e)
target_exists forms Boolean u h e = absurd (nothing_there e)
target_exists forms (Range low high) u h e = absurd (nothing_there e)
target_exists forms (Pointer v) u h e = ap (type_exists forms) (sym (some_is e)) ∙ h
target_exists forms (Array index v) u h e = absurd (nothing_there e)
target_exists forms (Record fields) u h e = absurd (nothing_there e)

-- ---- look-ups

-- what holds of all entries holds of the one that is found
pub found_all : {X : Type 0} (test : X → Bool) (entries : List (Symbol × X)) (x : Symbol) (v : X) → list_all (λ e. test e.1) entries ≡ true → found entries x ≡ Some v → test v ≡ true
found_all test [] x v h e = absurd (nothing_there e)
found_all test (n ∷ entries) x v h e = by_case (same_name n.0 x) e (found_all test entries x v (right_true (test n.1) (list_all (λ e. test e.1) entries) h))
  where
    by_case : (b : Bool) → cond b (Some n.1) (found entries x) ≡ Some v → (found entries x ≡ Some v → test v ≡ true) → test v ≡ true
    by_case true e later = ap test (sym (some_is e)) ∙ left_true (test n.1) (list_all (λ e. test e.1) entries) h
    by_case false e later = later e
