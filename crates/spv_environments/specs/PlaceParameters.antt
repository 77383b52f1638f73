-- Which parameters have VAR.
use Rattle.std.specs.Prelude.{◌≡◌, Bool, ◌&&◌, List, map, is_some}
use Rattle.std.specs.List.{list_any}
use Rattle.spv_logic.specs.declared.names.names.Symbol.{Symbol}
use Rattle.spv_program.specs.Lists.{same_name, found}
use Rattle.spv_program.specs.Programs as program
use Rattle.spv_program.specs.declared.typed.programs.Formal.{Formal}
use Rattle.spv_program.specs.typed.ProgramViews.{formal_of}

-- whether one of these parameters has this name and VAR
abbrev pub by_place_in : List program.Formal → Symbol → Bool
by_place_in formals x = list_any (λ f. same_name f.name x && f.by_place) formals

-- whether a table has a name
abbrev pub has : {X : Type 0} → List (Symbol × X) → Symbol → Bool
has entries x = is_some (found entries x)

-- a table has the names of the parameters with VAR
pub record ArePlaces {X : Type 0} (places : List (Symbol × X)) (formals : List Formal) : Type 0 where
  pub names : (x : Symbol) → has places x ≡ by_place_in (map formal_of formals) x
