-- Terms that may stand in the place of a rule's variables.
use Rattle.std.specs.Prelude.{◌≡◌, ℕ, true, List, map, Some, None}
use Rattle.spv_logic.specs.declared.conditions.TermId.{TermId}
use Rattle.spv_term.specs.Arena.{Arena, tree}
use Rattle.spv_proof_rules.specs.Rules.{have_sorts, numbered_rule, instance_of}
use Rattle.spv_rules.specs.declared.rules.Rule.{Rule}
use Rattle.spv_rules.specs.RuleSets.{RuleSet, IsRule, rule_in, rules_in}

-- the rule of a number, which may be had for these terms
pub record IsFitting (s : RuleSet) (a : Arena) (number : ℕ) (values : List TermId) (r : Rule) : Type 0 where
  pub is_rule : IsRule s.arena r
  pub is_there : numbered_rule (rules_in s) number ≡ Some (rule_in s.arena r)
  pub fits : have_sorts a.shapes a.decls (rule_in s.arena r).replaced (map (tree a) values) ≡ true

-- there is no such rule, or it may not be had for them
abbrev pub HasNone : RuleSet → Arena → ℕ → List TermId → Type 0
HasNone s a number values = instance_of a.shapes a.decls (numbered_rule (rules_in s) number) (map (tree a) values) ≡ None
