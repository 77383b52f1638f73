-- Sets of items as lists, and what they allow.
use Rattle.std.specs.Prelude.{Bool, List, [], ◌∷◌, ◌++◌, if◌then◌else◌}
use Rattle.std.specs.List.{list_any}
use Rattle.spv_logic.specs.declared.names.names.Symbol.{Symbol}
use Rattle.spv_logic.specs.declared.types.TypeId.{TypeId}
use Rattle.spv_program.specs.declared.types.Item.{Item}
use Rattle.spv_program.specs.declared.types.Item.TheVariants.{Variable, Class}
use Rattle.spv_program.specs.Types.{same_type}
use Rattle.spv_program.specs.Programs.{GlobalItem}
use Rattle.spv_effects.specs.frame_events.Names.{named, with_name}

pub record ItemSets : Type 0 where
  pub names : List Symbol
  pub classes : List TypeId

abbrev pub no_items : ItemSets
no_items = record { names = []; classes = [] }

abbrev pub holds : ItemSets → Item → Bool
holds s (Variable x) = named s.names x
holds s (Class t) = list_any (same_type t) s.classes

abbrev pub with_type : List TypeId → TypeId → List TypeId
with_type types t = if list_any (same_type t) types then types else types ++ t ∷ []

abbrev pub with_item : ItemSets → Item → ItemSets
with_item s (Variable x) = record { names = with_name s.names x; classes = s.classes }
with_item s (Class t) = record { names = s.names; classes = with_type s.classes t }

-- with these names
abbrev pub with_names : List Symbol → List Symbol → List Symbol
with_names known [] = known
with_names known (x ∷ names) = with_names (with_name known x) names

-- with the items of a GLOBAL list
abbrev pub with_globals : ItemSets → List GlobalItem → ItemSets
with_globals s [] = s
with_globals s (g ∷ globals) = with_globals (with_item s g.item) globals

-- with the items of its VAR groups
abbrev pub with_var_groups : ItemSets → List GlobalItem → ItemSets
with_var_groups s [] = s
with_var_groups s (g ∷ globals) = with_var_groups (if g.is_var then with_item s g.item else s) globals
