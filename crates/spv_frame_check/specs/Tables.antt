-- The lists of all routines at hand, and callees whose lists were looked through.
use Rattle.std.specs.Prelude.{◌≡◌, Bool, true, false, List, [], ◌∷◌, ◌++◌, map, nat_eq, Option, Some, None, option_map, if◌then◌else◌}
use Rattle.std.specs.List.{list_any}
use Rattle.spv_logic.specs.declared.conditions.RoutineId.{RoutineId}
use Rattle.spv_program.specs.declared.types.Item.{Item}
use Rattle.spv_logic.specs.declared.names.names.Symbol.{Symbol}
use Rattle.spv_program.specs.Lists.{item_at, first_of}
use Rattle.spv_program.specs.Expressions.{Call, call}
use Rattle.spv_program.specs.Programs.{Routine, Program, routine_at, lists}
use Rattle.spv_program.specs.Uses.{Root, Own, Shared}
use Rattle.spv_program.specs.Frames.{globals_of, place_roots}
use Rattle.spv_effects.specs.frame_walk.FrameWalk.{missing_item, twice, alias}
use Rattle.spv_effects.specs.declared.frame_walk.faults.FrameFault.{FrameFault}

-- what each routine may use
abbrev pub tables_of : List Routine → List (Item → Bool → Bool)
tables_of routines = map (λ r. lists r.globals) routines

abbrev pub has_item : Option (Item → Bool → Bool) → Item → Bool
has_item None i = false
has_item (Some may) i = may i false

-- whether a root is an item of the list of the routine with this number
abbrev pub has_root_in : List (Item → Bool → Bool) → RoutineId → Root → Bool
has_root_in tables number (Own x) = false
has_root_in tables number (Shared i) = has_item (item_at tables number.0) i

abbrev pub listed_in : List (Item → Bool → Bool) → RoutineId → List Root → Option Root
listed_in tables number [] = None
listed_in tables number (r ∷ roots) = if has_root_in tables number r then Some r else listed_in tables number roots

abbrev pub meeting_in : List (Item → Bool → Bool) → (Symbol → Bool) → Call → Option FrameFault
meeting_in tables own (call r line given) =
    option_map (alias line) (first_of (twice (place_roots own given)) (listed_in tables r (place_roots own given)))

-- ---- callees whose items may all be used

abbrev pub same_routine : RoutineId → RoutineId → Bool
same_routine r q = nat_eq r.0 q.0

abbrev pub with_routine : List RoutineId → RoutineId → List RoutineId
with_routine covered r = if list_any (same_routine r) covered then covered else covered ++ r ∷ []

pub record IsCovered (p : Program) (may : Item → Bool → Bool) (covered : List RoutineId) : Type 0 where
  pub each : (r : RoutineId) → list_any (same_routine r) covered ≡ true → missing_item may (globals_of (routine_at p r)) ≡ None
