-- Tables of names with the sorts of what they stand for.
use Rattle.std.specs.Prelude.{◌≡◌, List, [], map, Option, Some, None}
use Rattle.spv_logic.specs.declared.names.names.Symbol.{Symbol}
use Rattle.spv_logic.specs.declared.types.TypeId.{TypeId}
use Rattle.spv_logic.specs.declared.types.Sort.{Sort}
use Rattle.spv_logic.specs.declared.types.Sort.TheVariants as sort
use Rattle.spv_program.specs.declared.types.Item.{Item}
use Rattle.spv_program.specs.declared.types.Item.TheVariants.{Variable, Class}
use Rattle.spv_program.specs.declared.types.TypeForm.{TypeForm}
use Rattle.spv_program.specs.Lists.{found, first_of}
use Rattle.spv_program.specs.Types.{sort_of}
use Rattle.spv_program.specs.Programs.{Formal, Routine}
use Rattle.spv_program.specs.Scopes.{Scope, sort_or_int}

abbrev pub sorted_name : Symbol → Sort → Symbol × Sort
sorted_name x s = (x, s)

abbrev pub formal_name : Formal → Symbol × TypeId
formal_name f = (f.name, f.of)

-- names with the sorts of their types
abbrev pub sorts_of : List TypeForm → List (Symbol × TypeId) → Scope
sorts_of forms names = map (λ n. (n.0, sort_of forms n.1)) names

-- the sort of what an INITIAL name stands for, where the variables are in this table
abbrev pub item_sort_in : Scope → Item → Sort
item_sort_in variables (Variable x) = sort_or_int (found variables x)
item_sort_in variables (Class t) = sort.Class t

abbrev pub initial_sorts : Scope → List (Symbol × Item) → Scope
initial_sorts variables initial = map (λ i. (i.0, item_sort_in variables i.1)) initial

-- the INITIAL names of a routine; the main block has none
abbrev pub initial_in : Scope → Option Routine → Scope
initial_in variables None = []
initial_in variables (Some r) = initial_sorts variables r.initial

-- a table finds what it found, and where it found nothing, what these names stand for
pub record Puts (old new more : Scope) : Type 0 where
  pub each : (x : Symbol) → found new x ≡ first_of (found old x) (found more x)
