-- The form of a type by its place.
use Rattle.std.proofs.Common.{◌≡◌, ℕ, zero, suc, ◌≤◌, List, [], ◌∷◌, length, Some, refl, slice_get, arith}
use Rattle.spv_program.specs.declared.types.TypeForm.{TypeForm}
use Rattle.spv_program.specs.declared.types.TypeForm.TheVariants.{Record}
use Rattle.spv_program.specs.Types.{form_at}

pub form_there : (forms : List TypeForm) (n : ℕ) (f : TypeForm) → slice_get forms n ≡ Some f → form_at forms n ≡ f
form_there [] zero f h = cc
form_there [] (suc n) f h = cc
form_there (g ∷ forms) zero f h = cc
form_there (g ∷ forms) (suc n) f h = form_there forms n f h

pub form_past : (forms : List TypeForm) (n : ℕ) → length forms ≤ n → form_at forms n ≡ Record []
form_past [] n h = refl
form_past (g ∷ forms) zero h = absurd (omega (arith, h))
form_past (g ∷ forms) (suc n) h = form_past forms n (omega (arith, h))
