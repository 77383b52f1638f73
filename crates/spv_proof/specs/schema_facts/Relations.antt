-- Which terms used terms put together.
use Rattle.std.specs.Prelude.{◌≡◌, ℕ, ◌<◌, Bool, true, false, ◌&&◌, ◌||◌, nat_eq, List, map, filter, length, Option, Some, None}
use Rattle.std.specs.List.{list_any}
use Rattle.spv_logic.specs.declared.conditions.TermId.{TermId}
use Rattle.spv_logic.specs.declared.types.Sort.TheVariants as sort
use Rattle.spv_logic.specs.declared.operators.Head.{Head}
use Rattle.spv_logic.specs.declared.operators.Head.TheVariants.{Select, Store, Cell, SetCell, Extend, PointerTo, Car, Cdr, Atom, Div, Mod}
use Rattle.spv_logic.specs.Terms.{Term, term_eq}
use Rattle.spv_logic.specs.Sorts.{term_sort}
use Rattle.spv_schemas.specs.Facts.{one, two}
use Rattle.spv_schemas.specs.Instances.{indexes, points}
use Rattle.spv_term.specs.Arena.{Arena, tree}
use Rattle.spv_atoms.specs.Order.{same_id}
use Rattle.spv_proof.specs.declared.schema_facts.groups.Link.{Link}
use Rattle.spv_proof.specs.declared.schema_facts.groups.Groups.{Groups}
use Rattle.spv_proof.specs.declared.schema_facts.relations.Relation.{Relation}
use Rattle.spv_proof.specs.declared.schema_facts.relations.Relation.TheVariants.{Indices, Pointers, Divisors, Quotients, Remainders, Lists}
use Rattle.spv_proof.specs.schema_facts.Groups.{is_linked, linked}

-- ---- heads

abbrev pub is_array_head : Head → Bool
is_array_head Select = true
is_array_head Store = true
is_array_head _ = false

abbrev pub is_class_head : Head → Bool
is_class_head Cell = true
is_class_head SetCell = true
is_class_head Extend = true
is_class_head _ = false

abbrev pub is_membership_head : Head → Bool
is_membership_head PointerTo = true
is_membership_head _ = false

abbrev pub is_list_head : Head → Bool
is_list_head Car = true
is_list_head Cdr = true
is_list_head Atom = true
is_list_head _ = false

abbrev pub divides : Relation → Head → Bool
divides Divisors Div = true
divides Divisors Mod = true
divides Quotients Div = true
divides Remainders Mod = true
divides _ _ = false

-- ---- what a term puts together

-- the term of a number
abbrev pub numbered : Arena → ℕ → Term
numbered a q = tree a (record { 0 = q })

-- whether a term takes another one apart, or asks whether it is an atom
abbrev pub takes_apart : Term → Term → Bool
takes_apart t u = term_eq (one Car t) u || (term_eq (one Cdr t) u || term_eq (one Atom t) u)

-- whether a term puts another one together with a number: that of a type, or of a term
abbrev pub calls_for : Arena → Relation → ℕ → Term → Term → Bool
calls_for a Indices q t u = indexes (term_sort a.shapes a.decls) (Some (sort.Whole (record { 0 = q }))) t u
calls_for a Pointers q t u = points (term_sort a.shapes a.decls) (Some (sort.Class (record { 0 = q }))) t u
calls_for a Divisors q t u = term_eq (two Div (numbered a q) t) u || term_eq (two Mod (numbered a q) t) u
calls_for a Quotients q t u = term_eq (two Div (numbered a q) t) u
calls_for a Remainders q t u = term_eq (two Mod (numbered a q) t) u
calls_for a Lists q t u = takes_apart (numbered a q) u && takes_apart t u

-- where a number has to be that of a term, it is
abbrev pub IsKey : Arena → Relation → ℕ → Type 0
IsKey a Indices q = Unit {0}
IsKey a Pointers q = Unit {0}
IsKey a Divisors q = q < length a.nodes
IsKey a Quotients q = q < length a.nodes
IsKey a Remainders q = q < length a.nodes
IsKey a Lists q = q < length a.nodes

abbrev pub says : Option Link → ℕ → TermId → Bool
says None q t = false
says (Some l) q t = nat_eq l.key q && same_id l.member t

abbrev pub IsDivision : Relation → Type 0
IsDivision Divisors = Unit {0}
IsDivision Quotients = Unit {0}
IsDivision Remainders = Unit {0}
IsDivision _ = ⊥

-- a link is what a term puts together
abbrev pub Tells : Arena → Relation → TermId → Option Link → Type 0
Tells a relation u o = (q : ℕ) (t : TermId) → IsKey a relation q → t.0 < length a.nodes → says o q t ≡ calls_for a relation q (tree a t) (tree a u)

-- links are what used terms put together
abbrev pub TellsAll : Arena → Relation → List TermId → List Link → Type 0
TellsAll a relation used links =
    (q : ℕ) (t : TermId) → IsKey a relation q → t.0 < length a.nodes → list_any (is_linked q t) links ≡ list_any (calls_for a relation q (tree a t)) (map (tree a) used)

-- the used terms that used terms put together with a number are those linked to it, in their order
abbrev pub IsTable : Arena → List TermId → Relation → Groups → Type 0
IsTable a used relation groups =
    (q : ℕ) → IsKey a relation q → map (λ l. l.member) (linked groups q) ≡ filter (λ t. list_any (calls_for a relation q (tree a t)) (map (tree a) used)) used
