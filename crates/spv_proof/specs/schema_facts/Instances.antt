-- Instances of schemas over an arena.
use Rattle.std.specs.Prelude.{◌≡◌, Bool, List, [], ◌∷◌, ◌++◌, map, filter, length, Option, None, is_some, if◌then◌else◌}
use Rattle.std.specs.List.{flat_map}
use Rattle.spv_logic.specs.declared.conditions.TermId.{TermId}
use Rattle.spv_logic.specs.declared.names.names.Symbol.{Symbol}
use Rattle.spv_logic.specs.declared.types.Sort.{Sort}
use Rattle.spv_logic.specs.Terms.{Term}
use Rattle.spv_logic.specs.Sorts.{term_sort}
use Rattle.spv_schemas.specs.declared.kinds.SchemaKind.{SchemaKind}
use Rattle.spv_schemas.specs.Instances.{SchemaInstance, instance_fact, is_taken_apart, fields_for}
use Rattle.spv_term.specs.Arena.{Arena, AllBelow, tree}
use Rattle.spv_proof.specs.declared.schema_facts.groups.Link.{Link}
use Rattle.spv_proof.specs.declared.schema_facts.listing.Instance.{Instance}
use Rattle.spv_proof.specs.declared.schema_facts.uses.Subject.{Subject}
use Rattle.spv_proof.specs.declared.schema_facts.uses.Subject.TheVariants.{Any, Field, TakenApart}
use Rattle.spv_proof.specs.schema_facts.Uses.{subject_of, is_partner}

abbrev pub instance : SchemaKind → List Term → Option Symbol → SchemaInstance
instance kind ts field = record { kind = kind; about = ts; field = field }

-- an instance of the definition
abbrev pub instance_in : Arena → Instance → SchemaInstance
instance_in a i = instance i.kind (map (tree a) i.about) i.field

-- instances are about terms of an arena
abbrev pub AllIn : Arena → List Instance → Type 0
AllIn a [] = Unit {0}
AllIn a (i ∷ found) = AllBelow (length a.nodes) i.about × AllIn a found

-- these instances come behind those that were
pub record Adds (a : Arena) (old new : List Instance) (more : List SchemaInstance) : Type 0 where
  pub instances : map (instance_in a) new ≡ map (instance_in a) old ++ more
  pub within : AllIn a old → AllIn a new

abbrev pub is_instance : Arena → SchemaInstance → Bool
is_instance a i = is_some (instance_fact a.shapes a.decls i)

abbrev pub pair : Arena → SchemaKind → TermId → Link → SchemaInstance
pair a kind s l = instance kind (tree a s ∷ tree a l.member ∷ []) None

-- ---- by the first term

abbrev pub subjects_at : (Term → Option Sort) → List Term → Subject → Term → List (List Term)
subjects_at sorts us Any s = (s ∷ []) ∷ []
subjects_at sorts us Field s = (s ∷ []) ∷ []
subjects_at sorts us TakenApart s = if is_taken_apart us s then (s ∷ []) ∷ [] else []
subjects_at sorts us subject s = map (λ t. s ∷ t ∷ []) (filter (is_partner sorts us subject s) us)

-- the instances of a kind whose first term is this one
abbrev pub instances_at : Arena → List Term → SchemaKind → Term → List SchemaInstance
instances_at a us kind s =
    filter (is_instance a) (flat_map (λ ts. map (instance kind ts) (fields_for a.shapes (term_sort a.shapes a.decls) kind ts)) (subjects_at (term_sort a.shapes a.decls) us (subject_of kind) s))
