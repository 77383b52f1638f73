-- What the instances of kinds are about.
use Rattle.std.specs.Prelude.{◌≡◌, Bool, true, false, List, [], ◌∷◌, map, filter, length, Option, None, is_some}
use Rattle.spv_logic.specs.declared.conditions.TermId.{TermId}
use Rattle.spv_logic.specs.declared.types.Sort.{Sort}
use Rattle.spv_logic.specs.declared.operators.Head.TheVariants.{Div, Mod, SetCell, Extend}
use Rattle.spv_logic.specs.Terms.{Term}
use Rattle.spv_logic.specs.Sorts.{term_sort}
use Rattle.spv_schemas.specs.declared.kinds.SchemaKind.{SchemaKind}
use Rattle.spv_schemas.specs.declared.kinds.SchemaKind.TheVariants.{SelectStoreSame, SelectStoreOther, FieldPutSame, FieldPutOther, CellSetCellSame, CellSetCellOther, PointerToSetCell, CellExtendSame, CellExtendOther, PointerToExtend, PointerToNil, CarCons, CdrCons, AtomCons, ConsCarCdr, DivMod, ModOfNonNegative, ModOfNonPositive, DivOfNumerals, ModOfNumerals}
use Rattle.spv_schemas.specs.Facts.{two, schema_fact}
use Rattle.spv_schemas.specs.Instances.{is_used, is_index, is_pointer, is_divided}
use Rattle.spv_term.specs.Arena.{Arena, AllBelow, tree}
use Rattle.spv_proof.specs.declared.schema_facts.groups.Link.{Link}
use Rattle.spv_proof.specs.declared.schema_facts.relations.Relation.TheVariants.{Indices, Pointers, Divisors, Quotients, Remainders, Lists}
use Rattle.spv_proof.specs.declared.schema_facts.uses.Subject.{Subject}
use Rattle.spv_proof.specs.declared.schema_facts.uses.Subject.TheVariants.{Any, Field, TakenApart, Array, Class, Division}
use Rattle.spv_proof.specs.declared.schema_facts.uses.Uses.{Uses}
use Rattle.spv_proof.specs.schema_facts.Relations.{IsTable, TellsAll}

abbrev pub subject_of : SchemaKind → Subject
subject_of SelectStoreSame = Array
subject_of SelectStoreOther = Array
subject_of FieldPutSame = Any
subject_of FieldPutOther = Field
subject_of CellSetCellSame = Class SetCell
subject_of CellSetCellOther = Class SetCell
subject_of PointerToSetCell = Class SetCell
subject_of CellExtendSame = Class Extend
subject_of CellExtendOther = Class Extend
subject_of PointerToExtend = Class Extend
subject_of PointerToNil = Any
subject_of CarCons = Any
subject_of CdrCons = Any
subject_of AtomCons = Any
subject_of ConsCarCdr = TakenApart
subject_of DivMod = Division Divisors
subject_of ModOfNonNegative = Division Divisors
subject_of ModOfNonPositive = Division Divisors
subject_of DivOfNumerals = Division Quotients
subject_of ModOfNumerals = Division Remainders

-- whether it is two terms
abbrev pub is_paired : Subject → Bool
is_paired Array = true
is_paired (Class h) = true
is_paired (Division r) = true
is_paired _ = false

-- whether an instance about a first term is about a second one too, where there is a fact
abbrev pub is_partner : (Term → Option Sort) → List Term → Subject → Term → Term → Bool
is_partner sorts us Array s t = is_index sorts us s t
is_partner sorts us (Class h) s t = is_pointer sorts us s t
is_partner sorts us (Division Divisors) s t = is_divided us s t
is_partner sorts us (Division Quotients) s t = is_used us (two Div s t)
is_partner sorts us (Division Remainders) s t = is_used us (two Mod s t)
is_partner sorts us _ s t = false

-- whether there is a fact about two terms
abbrev pub has_pair : Arena → SchemaKind → TermId → TermId → Bool
has_pair a kind s t = is_some (schema_fact a.shapes a.decls kind (tree a s ∷ tree a t ∷ []) None)

-- what used terms put together
pub record AreUses (a : Arena) (uses : Uses) : Type 0 where
  pub ids : AllBelow (length a.nodes) uses.ids.items
  pub indices : IsTable a uses.ids.items Indices uses.indices
  pub pointers : IsTable a uses.ids.items Pointers uses.pointers
  pub divisors : IsTable a uses.ids.items Divisors uses.divisors
  pub quotients : IsTable a uses.ids.items Quotients uses.quotients
  pub remainders : IsTable a uses.ids.items Remainders uses.remainders
  pub lists : TellsAll a Lists uses.ids.items uses.lists

abbrev pub AllLinksIn : Arena → List Link → Type 0
AllLinksIn a links = AllBelow (length a.nodes) (map (λ l. l.member) links)

-- of the used terms that instances can be about beside a first one, these have each with which there is a fact, in order
pub record ArePartners (a : Arena) (used : List TermId) (subject : Subject) (s : TermId) (links : List Link) : Type 0 where
  pub within : AllLinksIn a links
  pub all : (kind : SchemaKind) → subject_of kind ≡ subject
      → filter (has_pair a kind s) (map (λ l. l.member) links) ≡ filter (has_pair a kind s) (filter (λ t. is_partner (term_sort a.shapes a.decls) (map (tree a) used) subject (tree a s) (tree a t)) used)
