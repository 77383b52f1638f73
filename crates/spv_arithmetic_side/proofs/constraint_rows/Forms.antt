-- The form of a row.
use Rattle.std.proofs.Common.{◌≡◌, ℕ, zero, suc, ◌<◌, List, [], ◌∷◌, length, refl, Some, arith}
use Rattle.std.specs.Prelude.{slice_get}
use Rattle.spv_atoms.specs.Linear.{IdForm}

pub form_at : (forms : List IdForm) (row : ℕ) → row < length forms → (f : IdForm) × (slice_get forms row ≡ Some f)
form_at [] row h = absurd (omega arith)
form_at (f ∷ forms) zero h = (f, refl)
form_at (f ∷ forms) (suc row) h = form_at forms row (omega arith)
