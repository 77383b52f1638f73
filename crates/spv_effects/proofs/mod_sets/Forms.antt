-- The form of a type, read off a list.
use Rattle.std.proofs.Common.{◌≡◌, ◌≤◌, ℕ, zero, suc, List, [], ◌∷◌, length, get_or, refl, sym, ap, ◌∙◌, arith}
use Rattle.spv_logic.specs.declared.types.TypeId.{TypeId}
use Rattle.spv_logic.specs.declared.types.Sort.{Sort}
use Rattle.spv_program.specs.declared.types.TypeForm.{TypeForm}
use Rattle.spv_program.specs.declared.types.TypeForm.TheVariants.{Record}
use Rattle.spv_program.specs.Types.{form_at, sort_of, sort_of_form}

form_is : (forms : List TypeForm) (n : ℕ) → get_or forms n (Record []) ≡ form_at forms n
form_is [] n = refl
form_is (f ∷ forms) zero = refl
form_is (f ∷ forms) (suc n) = form_is forms n

form_outside : (forms : List TypeForm) (n : ℕ) → length forms ≤ n → form_at forms n ≡ Record []
form_outside [] n over = refl
form_outside (f ∷ forms) zero over = absurd (omega arith)
form_outside (f ∷ forms) (suc n) over = form_outside forms n (omega arith)

pub sort_there : (forms : List TypeForm) (t : TypeId) (f : TypeForm) (s : Sort) → s ≡ sort_of_form f t → f ≡ get_or forms t.0 (Record []) → s ≡ sort_of forms t
sort_there forms t f s h is = h ∙ ap (λ (g : TypeForm). sort_of_form g t) (is ∙ form_is forms t.0)

pub sort_outside : (forms : List TypeForm) (t : TypeId) → length forms ≤ t.0 → sort_of_form (Record []) t ≡ sort_of forms t
sort_outside forms t over = ap (λ (g : TypeForm). sort_of_form g t) (sym (form_outside forms t.0 over))
