-- Which facts of schemas a condition has: those about the terms that it uses.
use Rattle.std.specs.Prelude.{Bool, true, false, ◌&&◌, ◌||◌, List, [], ◌∷◌, map, Option, Some, None, is_some}
use Rattle.std.specs.List.{list_any, filter, filter_map, flat_map}
use Rattle.spv_logic.specs.declared.names.names.Symbol.{Symbol}
use Rattle.spv_logic.specs.declared.types.Sort.{Sort}
use Rattle.spv_logic.specs.declared.types.Field.{Field as RecordField}
use Rattle.spv_logic.specs.declared.types.Shape.{Shape}
use Rattle.spv_logic.specs.declared.types.Decl.{Decl}
use Rattle.spv_logic.specs.declared.operators.Head.TheVariants.{Div, Mod, Select, Store, Cell, SetCell, Extend, PointerTo, Car, Cdr, Atom}
use Rattle.spv_logic.specs.Terms.{Term, term, terms, sort_eq, term_eq}
use Rattle.spv_logic.specs.Shapes.{fields_of}
use Rattle.spv_logic.specs.Fits.{on_sort}
use Rattle.spv_logic.specs.Sorts.{term_sort}
use Rattle.spv_schemas.specs.declared.kinds.SchemaKind.{SchemaKind}
use Rattle.spv_schemas.specs.declared.kinds.SchemaKind.TheVariants.{SelectStoreSame, SelectStoreOther, FieldPutSame, FieldPutOther, CellSetCellSame, CellSetCellOther, PointerToSetCell, CellExtendSame, CellExtendOther, PointerToExtend, PointerToNil, CarCons, CdrCons, AtomCons, ConsCarCdr, DivMod, ModOfNonNegative, ModOfNonPositive, DivOfNumerals, ModOfNumerals}
use Rattle.spv_schemas.specs.Kinds.{kinds}
use Rattle.spv_schemas.specs.Facts.{one, two, schema_fact}

-- an instance of a schema: its kind, the terms that it is about, and for one kind a field
pub record SchemaInstance : Type 0 where
  pub kind : SchemaKind
  pub about : List Term
  pub field : Option Symbol

abbrev pub instance_fact : List Shape → List Decl → SchemaInstance → Option Term
instance_fact shapes decls i = schema_fact shapes decls i.kind i.about i.field

-- ---- what used terms call for

abbrev pub is_used : List Term → Term → Bool
is_used used t = list_any (term_eq t) used

abbrev pub same_sort : Option Sort → Option Sort → Bool
same_sort s t = on_sort s (λ x. on_sort t (sort_eq x))

-- whether a term reads or changes an array of this sort at an index
abbrev pub indexes : (Term → Option Sort) → Option Sort → Term → Term → Bool
indexes sorts s j (term Select (terms a (terms i ts))) = same_sort (sorts a) s && term_eq i j
indexes sorts s j (term Store (terms a (terms i ts))) = same_sort (sorts a) s && term_eq i j
indexes sorts s j _ = false

-- whether a term reads or changes a class of this sort at a pointer, or asks whether it is a member
abbrev pub points : (Term → Option Sort) → Option Sort → Term → Term → Bool
points sorts s q (term Cell (terms c (terms p ts))) = same_sort (sorts c) s && term_eq p q
points sorts s q (term SetCell (terms c (terms p ts))) = same_sort (sorts c) s && term_eq p q
points sorts s q (term Extend (terms c (terms p ts))) = same_sort (sorts c) s && term_eq p q
points sorts s q (term PointerTo (terms p (terms c ts))) = same_sort (sorts c) s && term_eq p q
points sorts s q _ = false

-- whether a used term reads or changes an array of the sort of s at this index
abbrev pub is_index : (Term → Option Sort) → List Term → Term → Term → Bool
is_index sorts used s j = list_any (indexes sorts (sorts s) j) used

-- whether a used term does so with a class of the sort of s at this pointer, or asks whether it is a member
abbrev pub is_pointer : (Term → Option Sort) → List Term → Term → Term → Bool
is_pointer sorts used s q = list_any (points sorts (sorts s) q) used

-- whether a used term has the first part of x, the second, or whether it is an atom
abbrev pub is_taken_apart : List Term → Term → Bool
is_taken_apart used x = is_used used (one Car x) || (is_used used (one Cdr x) || is_used used (one Atom x))

abbrev pub is_divided : List Term → Term → Term → Bool
is_divided used a k = is_used used (two Div a k) || is_used used (two Mod a k)

-- ---- the list

abbrev pub is_any : Term → Bool
is_any t = true

-- used terms, and pairs of them by the place of the first and then of the second, that pass a test
abbrev pub each : List Term → (Term → Bool) → List (List Term)
each used test = map (λ t. t ∷ []) (filter test used)

abbrev pub pairs : List Term → (Term → Term → Bool) → List (List Term)
pairs used test = flat_map (λ s. map (λ t. s ∷ t ∷ []) (filter (test s) used)) used

-- the used terms that a kind is about, where they have its shape
abbrev pub subjects : (Term → Option Sort) → List Term → SchemaKind → List (List Term)
subjects sorts used SelectStoreSame = pairs used (is_index sorts used)
subjects sorts used SelectStoreOther = pairs used (is_index sorts used)
subjects sorts used FieldPutSame = each used is_any
subjects sorts used FieldPutOther = each used is_any
subjects sorts used CellSetCellSame = pairs used (is_pointer sorts used)
subjects sorts used CellSetCellOther = pairs used (is_pointer sorts used)
subjects sorts used PointerToSetCell = pairs used (is_pointer sorts used)
subjects sorts used CellExtendSame = pairs used (is_pointer sorts used)
subjects sorts used CellExtendOther = pairs used (is_pointer sorts used)
subjects sorts used PointerToExtend = pairs used (is_pointer sorts used)
subjects sorts used PointerToNil = each used is_any
subjects sorts used CarCons = each used is_any
subjects sorts used CdrCons = each used is_any
subjects sorts used AtomCons = each used is_any
subjects sorts used ConsCarCdr = each used (is_taken_apart used)
subjects sorts used DivMod = pairs used (is_divided used)
subjects sorts used ModOfNonNegative = pairs used (is_divided used)
subjects sorts used ModOfNonPositive = pairs used (is_divided used)
subjects sorts used DivOfNumerals = pairs used (λ a k. is_used used (two Div a k))
subjects sorts used ModOfNumerals = pairs used (λ a k. is_used used (two Mod a k))

abbrev pub named : Option (List RecordField) → List (Option Symbol)
named None = []
named (Some fields) = map (λ f. Some f.name) fields

abbrev pub names_in : List Shape → Option Sort → List (Option Symbol)
names_in shapes None = []
names_in shapes (Some r) = named (fields_of shapes r)

abbrev pub fields_of_first : List Shape → (Term → Option Sort) → List Term → List (Option Symbol)
fields_of_first shapes sorts [] = []
fields_of_first shapes sorts (s ∷ ts) = names_in shapes (sorts s)

-- the fields that an instance may name: for one kind those of its record, in their order; an instance of another kind names none
abbrev pub fields_for : List Shape → (Term → Option Sort) → SchemaKind → List Term → List (Option Symbol)
fields_for shapes sorts FieldPutOther ts = fields_of_first shapes sorts ts
fields_for shapes sorts _ ts = None ∷ []

abbrev pub instances_of : List Shape → List Decl → List Term → SchemaKind → List SchemaInstance
instances_of shapes decls used kind =
    filter (λ i. is_some (instance_fact shapes decls i))
    (flat_map (λ ts. map (λ field. record { kind = kind; about = ts; field = field }) (fields_for shapes (term_sort shapes decls) kind ts)) (subjects (term_sort shapes decls) used kind))

-- the instances about used terms: by kind, then by the places of their terms, then by the place of the field
abbrev pub schemas : List Shape → List Decl → List Term → List SchemaInstance
schemas shapes decls used = flat_map (instances_of shapes decls used) kinds

-- their facts
abbrev pub schema_facts : List Shape → List Decl → List Term → List Term
schema_facts shapes decls used = filter_map (instance_fact shapes decls) (schemas shapes decls used)
