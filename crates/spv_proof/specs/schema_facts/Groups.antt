-- Links between numbers and terms.
use Rattle.std.specs.Prelude.{◌≡◌, ℕ, Bool, ◌&&◌, List, [], ◌∷◌, filter, nat_eq, if◌then◌else◌}
use Rattle.std.specs.BTreeMap.{get}
use Rattle.std.specs.List.{list_any}
use Rattle.std.specs.Option.{option_map_or}
use Rattle.std.specs.Ordering.{nat_cmp}
use Rattle.spv_logic.specs.declared.conditions.TermId.{TermId}
use Rattle.spv_proof.specs.declared.schema_facts.groups.Link.{Link}
use Rattle.spv_proof.specs.declared.schema_facts.groups.Groups.{Groups}

abbrev pub same_link : Link → Link → Bool
same_link l m = nat_eq l.key m.key && nat_eq l.member.0 m.member.0

abbrev pub has_key : ℕ → Link → Bool
has_key q l = nat_eq q l.key

abbrev pub has_member : ℕ → Link → Bool
has_member q l = nat_eq q l.member.0

-- whether a link says that a term belongs to a number
abbrev pub is_linked : ℕ → TermId → Link → Bool
is_linked q t l = nat_eq q l.key && nat_eq t.0 l.member.0

-- no link stands twice
abbrev pub OnceEach : List Link → Type 0
OnceEach links = (l : Link) → filter (same_link l) links ≡ (if list_any (same_link l) links then l ∷ [] else [])

-- the links of a number
abbrev pub linked : Groups → ℕ → List Link
linked groups q = option_map_or (λ list. list.items) (get nat_cmp groups.lists q) []
