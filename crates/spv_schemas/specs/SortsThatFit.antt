-- Which sorts terms have where there is a fact about them.
use Rattle.std.specs.Prelude.{Bool, true, false, List, [], ◌∷◌, Option, Some, None, is_some}
use Rattle.spv_logic.specs.declared.names.names.Symbol.{Symbol}
use Rattle.spv_logic.specs.declared.types.Sort.{Sort}
use Rattle.spv_logic.specs.declared.types.Sort.TheVariants as sort
use Rattle.spv_logic.specs.declared.types.Shape.{Shape}
use Rattle.spv_logic.specs.Terms.{Term, sort_eq}
use Rattle.spv_logic.specs.Shapes.{fields_of, field_sort_of, pointer_sort, is_list}
use Rattle.spv_logic.specs.Fits.{on_sort}
use Rattle.spv_schemas.specs.declared.kinds.SchemaKind.{SchemaKind}
use Rattle.spv_schemas.specs.declared.kinds.SchemaKind.TheVariants.{SelectStoreSame, SelectStoreOther, FieldPutSame, FieldPutOther, CellSetCellSame, CellSetCellOther, PointerToSetCell, CellExtendSame, CellExtendOther, PointerToExtend, PointerToNil, CarCons, CdrCons, AtomCons, ConsCarCdr, DivMod, ModOfNonNegative, ModOfNonPositive, DivOfNumerals, ModOfNumerals}

-- whether the first term has a sort that passes, and the first two have
abbrev pub first_fits : (Term → Option Sort) → (Sort → Bool) → List Term → Bool
first_fits sorts test [] = false
first_fits sorts test (t ∷ ts) = on_sort (sorts t) test

abbrev pub two_fit : (Term → Option Sort) → (Sort → Sort → Bool) → List Term → Bool
two_fit sorts test [] = false
two_fit sorts test (t ∷ []) = false
two_fit sorts test (t ∷ u ∷ ts) = on_sort (sorts t) (λ x. on_sort (sorts u) (test x))

abbrev pub is_class : Sort → Bool
is_class (sort.Class t) = true
is_class _ = false

abbrev pub has_field : List Shape → Option Symbol → Sort → Bool
has_field shapes None r = true
has_field shapes (Some g) r = is_some (field_sort_of (fields_of shapes r) g.0)

-- whether the sorts of terms that have a kind's shape fit it: what is changed, or put together, is well sorted; an index is a number,
-- a pointer one of the class, a field one of the record; and what is divided is a number
abbrev pub sorts_fit : List Shape → (Term → Option Sort) → SchemaKind → List Term → Option Symbol → Bool
sorts_fit shapes sorts SelectStoreSame ts field = two_fit sorts (λ s j. sort_eq sort.Int j) ts
sorts_fit shapes sorts SelectStoreOther ts field = two_fit sorts (λ s j. sort_eq sort.Int j) ts
sorts_fit shapes sorts FieldPutSame ts field = first_fits sorts (λ s. true) ts
sorts_fit shapes sorts FieldPutOther ts field = first_fits sorts (has_field shapes field) ts
sorts_fit shapes sorts CellSetCellSame ts field = two_fit sorts (λ s q. sort_eq (pointer_sort s) q) ts
sorts_fit shapes sorts CellSetCellOther ts field = two_fit sorts (λ s q. sort_eq (pointer_sort s) q) ts
sorts_fit shapes sorts PointerToSetCell ts field = two_fit sorts (λ s q. sort_eq (pointer_sort s) q) ts
sorts_fit shapes sorts CellExtendSame ts field = two_fit sorts (λ s q. sort_eq (pointer_sort s) q) ts
sorts_fit shapes sorts CellExtendOther ts field = two_fit sorts (λ s q. sort_eq (pointer_sort s) q) ts
sorts_fit shapes sorts PointerToExtend ts field = two_fit sorts (λ s q. sort_eq (pointer_sort s) q) ts
sorts_fit shapes sorts PointerToNil ts field = first_fits sorts is_class ts
sorts_fit shapes sorts CarCons ts field = first_fits sorts (λ s. true) ts
sorts_fit shapes sorts CdrCons ts field = first_fits sorts (λ s. true) ts
sorts_fit shapes sorts AtomCons ts field = first_fits sorts (λ s. true) ts
sorts_fit shapes sorts ConsCarCdr ts field = first_fits sorts is_list ts
sorts_fit shapes sorts DivMod ts field = first_fits sorts (sort_eq sort.Int) ts
sorts_fit shapes sorts ModOfNonNegative ts field = first_fits sorts (sort_eq sort.Int) ts
sorts_fit shapes sorts ModOfNonPositive ts field = first_fits sorts (sort_eq sort.Int) ts
sorts_fit shapes sorts DivOfNumerals ts field = true
sorts_fit shapes sorts ModOfNumerals ts field = true
