-- What is proved of schemas.
use Rattle.std.specs.Prelude.{◌≡◌, ℕ, List, Option, Some, None, IsTrue, slice_get, if◌then◌else◌}
use Rattle.std.specs.List.{list_all}
use Rattle.spv_logic.specs.declared.names.names.Symbol.{Symbol}
use Rattle.spv_logic.specs.declared.types.Sort.TheVariants as sort
use Rattle.spv_logic.specs.declared.types.Shape.{Shape}
use Rattle.spv_logic.specs.declared.types.Decl.{Decl}
use Rattle.spv_logic.specs.Terms.{Term}
use Rattle.spv_logic.specs.Shapes.{shapes_ok}
use Rattle.spv_logic.specs.Sorts.{term_sort}
use Rattle.spv_logic.specs.Conditions.{Meaning, Valuation, IsValuation, answers, holds}
use Rattle.spv_schemas.specs.declared.kinds.SchemaKind.{SchemaKind}
use Rattle.spv_schemas.specs.Kinds.{number_of_kind, kind_of_number}
use Rattle.spv_schemas.specs.Facts.{of_shape, schema_fact}
use Rattle.spv_schemas.specs.SortsThatFit.{sorts_fit}
use Rattle.spv_schemas.specs.Instances.{schemas, schema_facts}

-- each fact is a formula
abbrev pub FactsAreFormulas : Type 0
FactsAreFormulas =
    (shapes : List Shape) (decls : List Decl) (kind : SchemaKind) (ts : List Term) (field : Option Symbol) (fact : Term)
    → schema_fact shapes decls kind ts field ≡ Some fact → term_sort shapes decls fact ≡ Some sort.Bool

-- there is a fact exactly where terms have the kind's shape and sorts that fit it
abbrev pub FactsAreWhereSortsFit : Type 0
FactsAreWhereSortsFit =
    (shapes : List Shape) (decls : List Decl) (kind : SchemaKind) (ts : List Term) (field : Option Symbol)
    → schema_fact shapes decls kind ts field ≡ (if sorts_fit shapes (term_sort shapes decls) kind ts field then of_shape (term_sort shapes decls) kind ts field else None)

-- each fact is true in every world under every valuation
abbrev pub FactsAreTrue : Type 0
FactsAreTrue =
    (kind : SchemaKind) (shapes : List Shape) → IsTrue (shapes_ok shapes) → (decls : List Decl) (ts : List Term) (field : Option Symbol) (fact : Term)
    → schema_fact shapes decls kind ts field ≡ Some fact
    → (world : Meaning) (v : Valuation) → IsValuation shapes v → IsTrue (holds (answers shapes decls world) v fact)

-- so is each that is listed, whatever terms are used
abbrev pub ListedFactsAreTrue : Type 0
ListedFactsAreTrue =
    (shapes : List Shape) → IsTrue (shapes_ok shapes) → (decls : List Decl) (used : List Term)
    → (world : Meaning) (v : Valuation) → IsValuation shapes v → IsTrue (list_all (holds (answers shapes decls world) v) (schema_facts shapes decls used))

-- nothing stands at two places of a list
abbrev pub IsOnce : {T : Type 0} → List T → Type 0
IsOnce {T} xs = (i j : ℕ) (x : T) → slice_get xs i ≡ Some x → slice_get xs j ≡ Some x → i ≡ j

-- where no used term is, no instance is
abbrev pub InstancesAreOnce : Type 0
InstancesAreOnce = (shapes : List Shape) → IsTrue (shapes_ok shapes) → (decls : List Decl) (used : List Term) → IsOnce used → IsOnce (schemas shapes decls used)

-- a kind's number tells the kind
abbrev pub NumbersTellKinds : Type 0
NumbersTellKinds = (kind : SchemaKind) → kind_of_number (number_of_kind kind) ≡ Some kind
