-- The variables of a rule file as the tables of the code have them.
use Rattle.std.specs.Prelude.{List, map}
use Rattle.spv_logic.specs.declared.names.names.Symbol.{Symbol}
use Rattle.spv_program.specs.Scopes as program
use Rattle.spv_environments.specs.declared.scopes.Own.{Own}
use Rattle.spv_environments.specs.declared.scopes.Own.TheVariants as own

abbrev pub starts_of : program.Scope → List (Symbol × Own)
starts_of vars = map (λ v. (v.0, own.Start v.1)) vars
