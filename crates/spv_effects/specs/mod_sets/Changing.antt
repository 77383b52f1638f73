-- What events change.
use Rattle.std.specs.Prelude.{◌≡◌, Bool, ◌||◌, List, ◌∷◌, ◌++◌, map, filter}
use Rattle.std.specs.List.{list_any, flat_map}
use Rattle.spv_logic.specs.declared.conditions.RoutineId.{RoutineId}
use Rattle.spv_program.specs.declared.types.Item.{Item}
use Rattle.spv_program.specs.Programs.{Program, routine_at}
use Rattle.spv_program.specs.Uses.{Root, Shared, same_root}
use Rattle.spv_program.specs.Changes.{changed_by_call, items_of_callee}
use Rattle.spv_effects.specs.frame_walk.Events.{Event, uses_in, calls_in}
use Rattle.spv_effects.specs.declared.mod_sets.sets.RootSet.{RootSet}
use Rattle.spv_effects.specs.mod_sets.Sets.{has_root}

-- whether a root is one of these
abbrev pub among : List Root → Root → Bool
among roots q = list_any (same_root q) roots

abbrev pub shared_roots : List Item → List Root
shared_roots items = map Shared items

-- what is written, and what the routines that are called may change
abbrev pub changed_in : Program → List Event → List Root
changed_in p events = map (λ u. u.root) (filter (λ u. u.changes) (uses_in events)) ++ flat_map (changed_by_call p) (calls_in events)

-- whether one of these routines may change a root when it is called
abbrev pub of_callees : Program → List RoutineId → Root → Bool
of_callees p callees q = list_any (λ r. among (shared_roots (items_of_callee (routine_at p r))) q) callees

-- the roots that were found, with those of the callees that were found
abbrev pub found_by : Program → RootSet → List RoutineId → Root → Bool
found_by p roots callees q = has_root roots q || of_callees p callees q

-- this event was taken
pub record Follows (e : Event) (roots : RootSet) (callees : List RoutineId) (roots_after : RootSet) (callees_after : List RoutineId) : Type 0 where
  pub each : (p : Program) (events : List Event) (q : Root)
      → found_by p roots_after callees_after q || among (changed_in p events) q ≡ found_by p roots callees q || among (changed_in p (e ∷ events)) q
