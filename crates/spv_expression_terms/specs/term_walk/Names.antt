-- The heads of names, by a table of their sorts and one of those that stand for what they were at the entry.
use Rattle.std.specs.Prelude.{List, is_some}
use Rattle.spv_logic.specs.declared.names.names.Symbol.{Symbol}
use Rattle.spv_logic.specs.declared.operators.Head.{Head}
use Rattle.spv_program.specs.Lists.{found}
use Rattle.spv_program.specs.Scopes.{Scope, sort_or_int}
use Rattle.spv_program.specs.Terms.{start_or_name}

abbrev pub head_in : {X : Type 0} → Scope → List (Symbol × X) → Symbol → Head
head_in names starts x = start_or_name (is_some (found starts x)) x (sort_or_int (found names x))
