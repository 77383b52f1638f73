-- Sets of names as lists.
use Rattle.std.specs.Prelude.{Bool, List, [], ◌∷◌, ◌++◌, if◌then◌else◌}
use Rattle.std.specs.List.{list_any}
use Rattle.spv_logic.specs.declared.names.names.Symbol.{Symbol}
use Rattle.spv_program.specs.Lists.{same_name}

abbrev pub named : List Symbol → Symbol → Bool
named names x = list_any (same_name x) names

abbrev pub with_name : List Symbol → Symbol → List Symbol
with_name names x = if named names x then names else names ++ x ∷ []
