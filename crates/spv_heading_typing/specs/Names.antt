-- Which names a routine may take.
use Rattle.std.specs.Prelude.{Bool, ◌&&◌, ◌||◌, not, List, map, is_some}
use Rattle.spv_logic.specs.declared.names.names.Symbol.{Symbol}
use Rattle.spv_program.specs.Lists.{same_name, found}
use Rattle.spv_typing.specs.Known.{KnownNames, is_fixed}
use Rattle.spv_environments.specs.declared.scopes.Own.{Own}
use Rattle.spv_heading_typing.specs.declared.names.RoutineNames.{RoutineNames}

-- the names in a table
abbrev pub symbols_of : {X : Type 0} → List (Symbol × X) → List Symbol
symbols_of entries = map (λ e. e.0) entries

-- whether a table has a name
abbrev pub has : {X : Type 0} → List (Symbol × X) → Symbol → Bool
has entries x = is_some (found entries x)

-- whether a further name of a routine may be this: its own name, its listed variables, and two tables of its names
abbrev pub free_by : KnownNames → Symbol → List (Symbol × Bool) → List (Symbol × Own) → List (Symbol × Own) → Symbol → Bool
free_by start routine listed parameters own x =
    not (is_fixed start x || same_name routine x) && not (has parameters x || (has own x || has listed x))

abbrev pub free_in : RoutineNames → Symbol → Bool
free_in n = free_by n.known.now.start n.routine n.listed.now n.parameters.now n.own.now
