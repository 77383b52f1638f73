-- The line of a type is that of its first token.
use Rattle.std.proofs.Common.{◌≡◌, ℕ, refl}
use Rattle.spv_tree.specs.declared.syntax.types.TypeForm.{TypeForm}
use Rattle.spv_tree.specs.declared.syntax.types.TypeForm.TheVariants.{Named, Range, Pointer, Array, Record}
use Rattle.spv_tree.specs.syntax.TypeViews.{type_of}
use Rattle.spv_typing.specs.TypeWalk.{type_line}

pub line_is : (line : ℕ) (f : TypeForm) → line ≡ type_line (type_of line f)
line_is line (Named x) = refl
line_is line (Range low high) = refl
line_is line (Pointer x) = refl
line_is line (Array first more elements) = refl
line_is line (Record first more) = refl
