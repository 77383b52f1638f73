-- What the code's types are as plain data.
use Rattle.std.specs.Prelude.{ℕ, Option, Some, None}
use Rattle.spv_tree.specs.declared.syntax.lists.Several.{Several}
use Rattle.spv_tree.specs.declared.syntax.names.Name.{Name}
use Rattle.spv_tree.specs.declared.syntax.types.TypeForm.{TypeForm}
use Rattle.spv_tree.specs.declared.syntax.types.TypeForm.TheVariants.{Named, Range, Pointer, Array, Record}
use Rattle.spv_tree.specs.syntax.Types.{TypeDenoter, named, range, pointer, array, fields, Field, no_field, field}
use Rattle.spv_tree.specs.syntax.Model.TypeSizes.{more_types_of, more_fields_of}

abbrev pub type_of : ℕ → TypeForm → TypeDenoter
type_of line (Named x) = named line x
type_of line (Range low high) = range line low high
type_of line (Pointer x) = pointer line x
type_of line (Array first more elements) = array line first.value (more_types_of more.items) elements.value
type_of line (Record first more) = fields line first.value (more_fields_of more.items)

abbrev pub field_of : ℕ → Option (Several Name × TypeDenoter) → Field
field_of line None = no_field line
field_of line (Some f) = field line f.0 f.1
