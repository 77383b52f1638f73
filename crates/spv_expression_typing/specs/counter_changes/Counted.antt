-- Which of the variables that count are changed.
use Rattle.std.specs.Prelude.{Bool, List, [], ◌∷◌, Option, Some, None, if◌then◌else◌}
use Rattle.std.specs.List.{list_any}
use Rattle.spv_logic.specs.declared.names.names.Symbol.{Symbol}
use Rattle.spv_logic.specs.declared.conditions.RoutineId.{RoutineId}
use Rattle.spv_program.specs.declared.types.Item.{Item}
use Rattle.spv_program.specs.declared.types.Item.TheVariants as item
use Rattle.spv_program.specs.Lists.{same_name, first_of}
use Rattle.spv_program.specs.Programs.{GlobalItem}
use Rattle.spv_typing.specs.Known.{Scope, Heading}
use Rattle.spv_typing.specs.StatementWalk.{own_in}
use Rattle.spv_environments.specs.Numbered.{numbered}
use Rattle.spv_expression_typing.specs.declared.counter_changes.works.Event.{Event}
use Rattle.spv_expression_typing.specs.declared.counter_changes.works.Event.TheVariants as event

abbrev pub is_counted : List Symbol → Symbol → Bool
is_counted counted x = list_any (λ v. same_name v x) counted

abbrev pub if_counted : List Symbol → Symbol → Option Symbol
if_counted counted x = if is_counted counted x then Some x else None

-- an item of a GLOBAL list, where the routine may change it
abbrev pub item_counted : (Symbol → Bool) → List Symbol → Item → Option Symbol
item_counted own counted (item.Variable x) = if own x then None else if_counted counted x
item_counted own counted (item.Class t) = None

abbrev pub global_counted : (Symbol → Bool) → List Symbol → GlobalItem → Option Symbol
global_counted own counted g = if g.is_var then item_counted own counted g.item else None

abbrev pub globals_counted : (Symbol → Bool) → List Symbol → List GlobalItem → Option Symbol
globals_counted own counted [] = None
globals_counted own counted (g ∷ globals) = first_of (global_counted own counted g) (globals_counted own counted globals)

abbrev pub headings_counted : (Symbol → Bool) → List Symbol → List Heading → Option Symbol
headings_counted own counted [] = None
headings_counted own counted (h ∷ headings) = first_of (globals_counted own counted h.globals) (headings_counted own counted headings)

-- what a call of the routine with this number may change
abbrev pub callee_counted : Scope → List Symbol → RoutineId → Option Symbol
callee_counted s counted r = headings_counted (own_in s) counted (numbered r s.known.headings)

-- ---- the first of what is written, and the first of what calls may change

abbrev pub first_wrote : List Symbol → List Event → Option Symbol
first_wrote counted [] = None
first_wrote counted (event.Wrote x ∷ events) = first_of (if_counted counted x) (first_wrote counted events)
first_wrote counted (event.Called r ∷ events) = first_wrote counted events

abbrev pub first_called : (RoutineId → Option Symbol) → List Event → Option Symbol
first_called callee [] = None
first_called callee (event.Wrote x ∷ events) = first_called callee events
first_called callee (event.Called r ∷ events) = first_of (callee r) (first_called callee events)

-- the first of all
abbrev pub first_in : Scope → List Symbol → List Event → Option Symbol
first_in s counted events = first_of (first_wrote counted events) (first_called (callee_counted s counted) events)
