-- The walk over the variables of a rule file.
use Rattle.std.specs.Prelude.{List, [], ◌++◌, map, Ok}
use Rattle.spv_logic.specs.declared.names.names.Symbol.{Symbol}
use Rattle.spv_logic.specs.declared.types.Sort.{Sort}
use Rattle.spv_logic.specs.declared.types.Sort.TheVariants as sort
use Rattle.spv_tree.specs.declared.syntax.declarations.NameOrClass.{NameOrClass}
use Rattle.spv_tree.specs.declared.syntax.declarations.NameOrClass.TheVariants as written
use Rattle.spv_tree.specs.declared.syntax.declarations.SortName.{SortName}
use Rattle.spv_tree.specs.declared.syntax.rules.RuleVars.{RuleVars}
use Rattle.spv_program.specs.Scopes as program
use Rattle.spv_typing.specs.Outcomes.{Outcome, after, each}
use Rattle.spv_typing.specs.Known.{Known, Scope, meaning}
use Rattle.spv_typing.specs.TypeWalk.{all_names}
use Rattle.spv_typing.specs.DeclarationWalk.{new_name, sort_named, class_named}
use Rattle.spv_rule_files.specs.Scopes.{rule_scope, is_free_variable}

-- the sort that is written
abbrev pub sort_in : Scope → SortName → Outcome Sort
sort_in s n = of_form n.form
  where
    of_form : NameOrClass → Outcome Sort
    of_form (written.Name x) = sort_named s.known.program.forms n.line x (meaning s x.symbol)
    of_form (written.Class x) = after (class_named n.line x (meaning s x.symbol)) (λ t. Ok (sort.Class t))

abbrev pub of_sort : Sort → List Symbol → program.Scope
of_sort s names = map (λ x. (x, s)) names

-- the variables so far, with further ones of one sort: each name is looked at, then the sort, and then the names are in scope
abbrev pub variables_walk : Known → program.Scope → RuleVars → Outcome program.Scope
variables_walk k vars v =
    after (each (new_name (is_free_variable k vars)) [] (all_names v.names)) (λ names.
    after (sort_in (rule_scope k vars) v.sort) (λ s. Ok (vars ++ of_sort s names)))
