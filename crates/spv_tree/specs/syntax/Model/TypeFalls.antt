-- A type is larger than each of its parts.
use Rattle.std.specs.Prelude.{ℕ, ◌+◌, ◌≤◌, max, List, [], ◌∷◌, Option, Some, None}
use Rattle.std.proofs.Common.{arith}
use denote.Param.Weighed.{most}
use Rattle.spv_tree.specs.declared.syntax.lists.Several.{Several}
use Rattle.spv_tree.specs.declared.syntax.names.Name.{Name}
use Rattle.spv_tree.specs.declared.syntax.types.TypeDenoter.TheInside as denoter
use Rattle.spv_tree.specs.declared.syntax.types.Field.TheInside as field
use Rattle.spv_tree.specs.declared.syntax.types.TypeForm.{TypeForm}
use Rattle.spv_tree.specs.declared.syntax.types.TypeForm.TheVariants.{Named, Range, Pointer, Array, Record}
use Rattle.spv_tree.specs.declared.syntax.types.Field.TheDeep.{deep-TypeForm, deep-TypeDenoter, deep-Field}
use Rattle.spv_tree.specs.syntax.Types.{TypeDenoter, Field}
use Rattle.spv_tree.specs.syntax.Model.TypeSizes.{more_types_of, more_fields_of, type_size, more_types_size, field_size, more_fields_size}
use Rattle.spv_tree.specs.syntax.TypeViews.{type_of, field_of}

most_types : (ts : List TypeDenoter) → most (λ t. type_size t + 1) ts ≤ more_types_size (more_types_of ts) + 1
most_types [] = omega arith
most_types (t ∷ ts) = omega (arith, most_types ts)

most_fields : (fs : List Field) → most (λ f. field_size f + 1) fs ≤ more_fields_size (more_fields_of fs) + 1
most_fields [] = omega arith
most_fields (f ∷ fs) = omega (arith, most_fields fs)

form_falls : (line : ℕ) (t : TypeForm) → max (deep-TypeForm t) 0 ≤ type_size (type_of line t)
form_falls line (Named x) = omega arith
form_falls line (Range low high) = omega arith
form_falls line (Pointer x) = omega arith
form_falls line (Array first more elements) = omega (arith, most_types more.items)
form_falls line (Record first more) = omega (arith, most_fields more.items)

pub type_falls : (a : denoter.Inside) → deep-TypeDenoter a ≤ type_size (type_of a.line a.form)
type_falls a = form_falls a.line a.form

field_form_falls : (line : ℕ) (f : Option (Several Name × TypeDenoter)) → deep-Field (record { line = line; form = f }) ≤ field_size (field_of line f)
field_form_falls line None = omega arith
field_form_falls line (Some f) = omega arith

pub field_falls : (a : field.Inside) → deep-Field a ≤ field_size (field_of a.line a.form)
field_falls a = field_form_falls a.line a.form
