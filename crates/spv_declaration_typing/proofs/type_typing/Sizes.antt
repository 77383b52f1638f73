-- A part of a list is no larger than the list.
use Rattle.std.proofs.Common.{ℕ, zero, suc, ◌≤◌, ◌<◌, List, [], ◌∷◌, length, get_or, arith}
use Rattle.spv_tree.specs.syntax.Types.{TypeDenoter, Field}
use Rattle.spv_tree.specs.syntax.Model.TypeSizes.{more_types_of, more_fields_of, type_size, more_types_size, field_size, more_fields_size}

pub type_within : (ts : List TypeDenoter) (i : ℕ) (d : TypeDenoter) → i < length ts → type_size (get_or ts i d) ≤ more_types_size (more_types_of ts)
type_within [] i d h = absurd (omega (arith, h))
type_within (t ∷ ts) zero d h = omega arith
type_within (t ∷ ts) (suc i) d h = omega (arith, type_within ts i d (omega (arith, h)))

pub field_within : (fs : List Field) (i : ℕ) (d : Field) → i < length fs → field_size (get_or fs i d) ≤ more_fields_size (more_fields_of fs)
field_within [] i d h = absurd (omega (arith, h))
field_within (f ∷ fs) zero d h = omega arith
field_within (f ∷ fs) (suc i) d h = omega (arith, field_within fs i d (omega (arith, h)))
