-- What is made for the conditions of a program, in order, and the limit that may be met.
use Rattle.std.specs.Prelude.{◌≡◌, ⊤, ℕ, suc, ◌+◌, List, [], ◌∷◌, ◌++◌, map, filter, not, length, Option, Some, None, option_map}
use Rattle.spv_logic.specs.declared.conditions.Kind.TheVariants as kind
use Rattle.spv_logic.specs.declared.conditions.RoutineId.{RoutineId}
use Rattle.spv_logic.specs.declared.names.names.Symbol.{Symbol}
use Rattle.spv_logic.specs.declared.operators.Head.{Head}
use Rattle.spv_logic.specs.declared.operators.Head.TheVariants as head
use Rattle.spv_logic.specs.Terms.{Term}
use Rattle.spv_logic.specs.Conditions.{Condition}
use Rattle.spv_term.specs.Arena.{Arena, IsArena}
use Rattle.spv_program.specs.Statements.{Statement}
use Rattle.spv_program.specs.Programs.{Formal, Routine, Program, shapes}
use Rattle.spv_program.specs.Supplies.{Supply, full_supply}
use Rattle.spv_program.specs.Terms.{alone, entry_term, exit_term, item_head}
use Rattle.spv_program.specs.Calls.{formal_head}
use Rattle.spv_program.specs.Types.{sort_of}
use Rattle.spv_program.specs.Scopes.{item_sort}
use Rattle.spv_program.specs.declared.types.Item.{Item}
use Rattle.spv_meaning.specs.Before.{Made, before, annotation_term, assuming_if_there, wanted_if_there}
use Rattle.spv_meaning.specs.ProgramConditions.{initial_pairs, start_pairs, wanted_exit, routine_conditions, main_conditions, conditions_from}
use Rattle.spv_assign.specs.declared.creation_trace.faults.GenFault.{GenFault}
use Rattle.spv_assign.specs.declared.creation_trace.faults.GenFault.TheVariants as fault
use Rattle.spv_assign.specs.creation_trace.Events.{Event, Stops}
use Rattle.spv_assign.specs.creation_trace.StatementEvents.{counted, in_order, one_if_there, replacing_events}
use Rattle.spv_flow.specs.statement_rules.Events.{events_by}
use Rattle.spv_assign.specs.limits.Laws.{IsMadeWhole}
use Rattle.spv_conditions.specs.Leaves.{leaf_making}

-- how many terms there may be
abbrev pub most_terms : ℕ
most_terms = 200000

-- what a walk over a statement makes
abbrev pub events : Program → Option RoutineId → Statement → Made → List Event
events p here s q = events_by (leaf_making p here) p here s q

-- ---- routines

-- what stands behind a routine's body
abbrev pub behind_routine : Program → RoutineId → Routine → Supply → Made
behind_routine p id r n = record { conditions = wanted_exit p id r r.exit; supply = n }

-- what is wanted before it, under ENTRY
abbrev pub under_entry : Program → RoutineId → Routine → Supply → List Condition
under_entry p id r n = assuming_if_there (option_map (entry_term p r) r.entry) (before p (Some id) r.body (behind_routine p id r n)).conditions

-- an INITIAL name and its item
abbrev pub initial_pair : Program → Routine → Symbol × Item → Head × Term
initial_pair p r i = (head.Var i.0 (item_sort p (Some r) i.1) 0, alone (item_head p (Some r) i.1))

-- the starts of value parameters, and these
abbrev pub start_pairs_of : Program → List Formal → List (Head × Term)
start_pairs_of p formals = map (λ f. (head.Start f.name (sort_of p.forms f.of), alone (formal_head p f))) (filter (λ f. not f.by_place) formals)

-- what is replaced where it begins: INITIAL names by their items, and the starts of value parameters by the parameters
abbrev pub beginning_pairs : Program → Routine → List (Head × Term)
beginning_pairs p r = initial_pairs p r ++ start_pairs p r

-- the events of EXIT and ENTRY
abbrev pub exit_events : Program → Routine → List Event
exit_events p r = one_if_there (option_map (exit_term p r) r.exit)

abbrev pub entry_events : Program → Routine → List Event
entry_events p r = one_if_there (option_map (entry_term p r) r.entry)

-- EXIT, and what the body makes of it
abbrev pub inside_parts : Program → RoutineId → Routine → Supply → List (List Event)
inside_parts p id r n = exit_events p r ∷ events p (Some id) r.body (behind_routine p id r n) ∷ []

-- and ENTRY
abbrev pub entered_parts : Program → RoutineId → Routine → Supply → List (List Event)
entered_parts p id r n = exit_events p r ∷ events p (Some id) r.body (behind_routine p id r n) ∷ entry_events p r ∷ []

abbrev pub entered_made : Program → RoutineId → Routine → Supply → Made
entered_made p id r n = record { conditions = under_entry p id r n; supply = (before p (Some id) r.body (behind_routine p id r n)).supply }

-- and all with the names as they are at the beginning
abbrev pub routine_events : Program → RoutineId → Routine → Supply → List Event
routine_events p id r n =
    in_order (exit_events p r
    ∷ events p (Some id) r.body (behind_routine p id r n)
    ∷ entry_events p r
    ∷ replacing_events (beginning_pairs p r) (under_entry p id r n)
    ∷ [])

-- ---- the main block

-- what stands behind the main block
abbrev pub behind_main : Program → Supply → Made
behind_main p n = record { conditions = wanted_if_there p None kind.Exit p.main.exit; supply = n }

-- EXIT, and what the block makes of it
abbrev pub inside_main : Program → Supply → List (List Event)
inside_main p n = one_if_there (annotation_term p None p.main.exit) ∷ events p None p.main.body (behind_main p n) ∷ []

-- and ENTRY
abbrev pub main_events : Program → Supply → List Event
main_events p n =
    in_order (one_if_there (annotation_term p None p.main.exit)
    ∷ events p None p.main.body (behind_main p n)
    ∷ one_if_there (annotation_term p None p.main.entry)
    ∷ [])

abbrev pub main_made : Program → Supply → Made
main_made p n = record { conditions = main_conditions p n; supply = (before p None p.main.body (behind_main p n)).supply }

-- ---- the program

-- one more routine behind so many conditions, and how many there are then
abbrev pub one_routine : Program → RoutineId → Routine → ℕ → Supply → List (List Event)
one_routine p id r so_far n = routine_events p id r n ∷ counted (so_far + length (routine_conditions p id r n).conditions) ∷ []

abbrev pub after_routine : Program → RoutineId → Routine → Made → Made
after_routine p id r q =
    let made = routine_conditions p id r q.supply in record { conditions = q.conditions ++ made.conditions; supply = made.supply }

-- the main block behind so many
abbrev pub last_main : Program → ℕ → Supply → List (List Event)
last_main p so_far n = main_events p n ∷ counted (so_far + length (main_conditions p n)) ∷ []

abbrev pub after_main : Program → Made → Made
after_main p q = record { conditions = q.conditions ++ main_conditions p q.supply; supply = (main_made p q.supply).supply }

-- the routines in their order, counted from a number, and then the main block, behind so many conditions; after each, how many there are
abbrev pub events_from : Program → ℕ → List Routine → ℕ → Supply → List Event
events_from p number [] so_far n = in_order (last_main p so_far n)
events_from p number (r ∷ routines) so_far n =
    let made = routine_conditions p (record { 0 = number }) r n in
    in_order (one_routine p (record { 0 = number }) r so_far n) ++ events_from p (suc number) routines (so_far + length made.conditions) made.supply

-- the supply that is left behind them
abbrev pub supply_from : Program → ℕ → List Routine → Supply → Supply
supply_from p number [] n = (main_made p n).supply
supply_from p number (r ∷ routines) n = supply_from p (suc number) routines (routine_conditions p (record { 0 = number }) r n).supply

abbrev pub all_made : Program → Supply → Made
all_made p n = record { conditions = conditions_from p 0 p.routines n; supply = supply_from p 0 p.routines n }

abbrev pub program_events : Program → List Event
program_events p = events_from p 0 p.routines 0 full_supply

-- an arena for the terms of a program, in which none stands yet
abbrev pub empty_arena : Program → Arena
empty_arena p = record { nodes = []; most = most_terms; shapes = shapes p; decls = p.symbols }

-- the first limit that the walk meets
pub record MeetsLimit (e : GenFault) (p : Program) : Type 0 where
  pub arena : Arena
  pub sound : IsArena arena
  pub stops : Stops e (program_events p) (empty_arena p) arena

-- why there are no conditions; of want of memory nothing is said
abbrev pub IsLimit : GenFault → Program → Type 0
IsLimit (fault.Conditions n) p = MeetsLimit (fault.Conditions n) p
IsLimit (fault.Terms n) p = MeetsLimit (fault.Terms n) p
IsLimit fault.Memory p = ⊤

-- no limit is met: all is made
abbrev pub IsWithinLimits : Program → Type 0
IsWithinLimits p = IsMadeWhole (program_events p) (empty_arena p)

-- ---- which limit it is

-- a walk within the limits meets none, and of the two it meets one alone
abbrev pub MeetsNoOther : Type 0
MeetsNoOther = (p : Program) (e : GenFault) → MeetsLimit e p → IsWithinLimits p → e ≡ fault.Memory

abbrev pub MeetsOne : Type 0
MeetsOne = (p : Program) (e f : GenFault) → MeetsLimit e p → MeetsLimit f p → (e ≡ fault.Memory → ⊥) → (f ≡ fault.Memory → ⊥) → e ≡ f
