-- The rules of a file as rules over terms.
use Rattle.std.specs.Prelude.{map, Option, Some, None}
use Rattle.spv_logic.specs.declared.names.names.Symbol.{Symbol}
use Rattle.spv_logic.specs.declared.types.Sort.{Sort}
use Rattle.spv_logic.specs.declared.operators.Head.{Head}
use Rattle.spv_logic.specs.declared.operators.Head.TheVariants as head
use Rattle.spv_logic.specs.Terms.{Term}
use Rattle.spv_program.specs.Formulas.{Formula}
use Rattle.spv_program.specs.Scopes.{Scope}
use Rattle.spv_program.specs.Terms.{alone, formula_term, name_in}
use Rattle.spv_proof_rules.specs.Rules.{Rule}
use Rattle.spv_rule_files.specs.declared.rules.TypedRule.{TypedRule}
use Rattle.spv_rule_files.specs.Triggers.{trigger_in}
use Rattle.spv_rule_files.specs.Rules.{leading}
use Rattle.spv_rule_files.specs.Stated.{stated}

abbrev pub variable_head : Symbol × Sort → Head
variable_head v = head.Var v.0 v.1 0

-- the term of a trigger; where there is none, TRUE
abbrev pub trigger_term : Scope → Option Formula → Term
trigger_term names None = alone head.True
trigger_term names (Some t) = formula_term (name_in names) t

-- its variables, its trigger and what it says
abbrev pub rule_of : TypedRule → Rule
rule_of r = record {
  replaced = map variable_head r.variables;
  trigger = trigger_term r.variables (trigger_in (leading r.form));
  formula = formula_term (name_in r.variables) (stated r);
}
