-- The facts of kinds, by the shape of terms and their sorts.
use Rattle.std.specs.Prelude.{List, Option, None, if◌then◌else◌}
use Rattle.spv_logic.specs.declared.names.names.Symbol.{Symbol}
use Rattle.spv_logic.specs.Terms.{Term}
use Rattle.spv_logic.specs.Sorts.{term_sort}
use Rattle.spv_schemas.specs.declared.kinds.SchemaKind.{SchemaKind}
use Rattle.spv_schemas.specs.Facts.{of_shape}
use Rattle.spv_schemas.specs.SortsThatFit.{sorts_fit}
use Rattle.spv_term.specs.Arena.{Arena}

-- what a kind says of terms that have its shape, where their sorts fit it
abbrev pub fitting : Arena → SchemaKind → List Term → Option Symbol → Option Term
fitting a kind us field = if sorts_fit a.shapes (term_sort a.shapes a.decls) kind us field then of_shape (term_sort a.shapes a.decls) kind us field else None
