-- Sets as lists, and what they hold.
use Rattle.std.specs.Prelude.{◌≡◌, Bool, ◌||◌, List, [], ◌∷◌, ◌++◌, nat_eq, if◌then◌else◌}
use Rattle.std.specs.List.{list_any}
use Rattle.spv_logic.specs.declared.types.TypeId.{TypeId}
use Rattle.spv_logic.specs.declared.conditions.RoutineId.{RoutineId}
use Rattle.spv_program.specs.declared.types.Item.TheVariants.{Variable, Class}
use Rattle.spv_program.specs.Types.{same_type}
use Rattle.spv_program.specs.Uses.{Root, Own, Shared}
use Rattle.spv_effects.specs.frame_events.Names.{named}
use Rattle.spv_effects.specs.declared.mod_sets.sets.RootSet.{RootSet}

abbrev pub with_type : List TypeId → TypeId → List TypeId
with_type types t = if list_any (same_type t) types then types else types ++ t ∷ []

-- with these types
abbrev pub with_types : List TypeId → List TypeId → List TypeId
with_types types [] = types
with_types types (t ∷ others) = with_types (with_type types t) others

abbrev pub same_routine : RoutineId → RoutineId → Bool
same_routine r q = nat_eq r.0 q.0

abbrev pub with_routine : List RoutineId → RoutineId → List RoutineId
with_routine numbers r = if list_any (same_routine r) numbers then numbers else numbers ++ r ∷ []

-- ---- roots

abbrev pub no_roots : RootSet
no_roots = record { own = []; variables = []; classes = [] }

abbrev pub has_root : RootSet → Root → Bool
has_root s (Own x) = named s.own x
has_root s (Shared (Variable x)) = named s.variables x
has_root s (Shared (Class t)) = list_any (same_type t) s.classes

-- what more there is: the roots that the test tells
pub record Adds (old new : RootSet) (more : Root → Bool) : Type 0 where
  pub each : (q : Root) → has_root new q ≡ has_root old q || more q
