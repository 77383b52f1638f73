-- Rules whose terms may be made.
use Rattle.std.specs.Prelude.{◌≡◌, ℕ, true, List, Some, is_some, slice_get}
use Rattle.std.specs.List.{list_all}
use Rattle.spv_logic.specs.declared.types.Shape.{Shape}
use Rattle.spv_logic.specs.declared.types.Decl.{Decl}
use Rattle.spv_logic.specs.Sorts.{sort_in_range}
use Rattle.spv_program.specs.Programs.{Program, shapes}
use Rattle.spv_expression_terms.specs.term_walk.Makeable.{IsWellSorted}
use Rattle.spv_rules.specs.RuleSets.{IsProper}
use Rattle.spv_rule_files.specs.declared.rules.TypedRule.{TypedRule}
use Rattle.spv_rule_files.specs.Triggers.{trigger_in}
use Rattle.spv_rule_files.specs.Rules.{leading}
use Rattle.spv_rule_files.specs.Right.{AreRight}
use Rattle.spv_rule_files.specs.rule_terms.RuleTerms.{rule_of}

-- a rule that is one over terms of these types and symbols: its sorts fit, and its types are there
pub record IsSound (shapes : List Shape) (decls : List Decl) (r : TypedRule) : Type 0 where
  pub proper : IsProper shapes decls (rule_of r)
  pub triggered : is_some (trigger_in (leading r.form)) ≡ true
  pub trigger : IsWellSorted shapes decls (rule_of r).trigger
  pub formula : IsWellSorted shapes decls (rule_of r).formula
  pub variables : list_all (λ v. sort_in_range shapes v.1) r.variables ≡ true

pub record AreSound (shapes : List Shape) (decls : List Decl) (rules : List TypedRule) : Type 0 where
  pub each : (k : ℕ) (r : TypedRule) → slice_get rules k ≡ Some r → IsSound shapes decls r

-- rules that are right in a program are rules over its terms
abbrev pub RightRulesAreSound : Type 0
RightRulesAreSound = (p : Program) (rules : List TypedRule) → AreRight p rules → AreSound (shapes p) p.symbols rules
