-- The rules of a rule file for a program, and what the file is refused for where it has none.
use Rattle.std.specs.Prelude.{◌≡◌, ⊤, ℕ, ◌⊎◌, List, [], map, Option, Some, None, Ok, Err}
use Rattle.spv_tree.specs.declared.syntax.rules.RuleTree.{RuleTree}
use Rattle.spv_tree.specs.syntax.Reads.{ReadsRules}
use Rattle.spv_parser.specs.declared.language.fault.LanguageFault.{LanguageFault}
use Rattle.spv_parser.specs.language.Texts.{names_with, IsTreeOf, IsFaultOf}
use Rattle.spv_program.specs.Programs.{Program}
use Rattle.spv_typing.specs.Known.{known_in}
use Rattle.spv_proof_rules.specs.Rules.{Rule}
use Rattle.spv_rule_files.specs.declared.faults.RuleFault.{RuleFault}
use Rattle.spv_rule_files.specs.declared.rules.TypedRule.{TypedRule}
use Rattle.spv_rule_files.specs.Rules.{rules_walk}
use Rattle.spv_rule_files.specs.rule_terms.RuleTerms.{rule_of}
use Rattle.spv_verify.specs.declared.refused.refusal.Refusal.{Refusal}
use Rattle.spv_verify.specs.declared.refused.fault.TextFault.{TextFault}
use Rattle.spv_verify.specs.declared.refused.fault.TextFault.TheVariants.{Refused, Memory}
use Rattle.spv_verify.specs.refused.Told.{text_refusal, rule_refusal}

-- the names so far, and behind them the further ones of a rule file, where there is one
abbrev pub names_under : List (List ℕ) → Option (List ℕ) → List (List ℕ)
names_under names None = names
names_under names (Some text) = names_with names text

-- ---- rules

-- the rules of a rule file for a program, where these are the names so far: the file has no fault of names, types and variables
pub record AreFileRules (names : List (List ℕ)) (p : Program) (text : List ℕ) (rules : List Rule) : Type 0 where
  pub tree : RuleTree
  pub is_tree : IsTreeOf ReadsRules names text tree
  pub list : List TypedRule
  pub typed : rules_walk (known_in (names_with names text)) p tree ≡ Ok list
  pub same : rules ≡ map rule_of list

-- without a rule file there are none
abbrev pub AreRulesOf : List (List ℕ) → Program → Option (List ℕ) → List Rule → Type 0
AreRulesOf names p None rules = rules ≡ []
AreRulesOf names p (Some text) rules = AreFileRules names p text rules

-- ---- refusals

-- the rule file is refused so for a fault of reading
pub record IsRuleReadingRefusal (names : List (List ℕ)) (text : List ℕ) (r : Refusal) : Type 0 where
  pub fault : LanguageFault
  pub stops : IsFaultOf ReadsRules names text fault
  pub told : text_refusal fault ≡ Some r

-- its tree is refused so for its first fault of names, types and variables
pub record IsRuleWalkRefusal (names : List (List ℕ)) (p : Program) (tree : RuleTree) (r : Refusal) : Type 0 where
  pub fault : RuleFault
  pub stops : rules_walk (known_in names) p tree ≡ Err fault
  pub told : rule_refusal names fault ≡ Some r

abbrev pub IsFileRefusal : List (List ℕ) → Program → List ℕ → Refusal → Type 0
IsFileRefusal names p text r =
    IsRuleReadingRefusal names text r ⊎ ((tree : RuleTree) × IsTreeOf ReadsRules names text tree × IsRuleWalkRefusal (names_with names text) p tree r)

abbrev pub IsRulesRefusal : List (List ℕ) → Program → Option (List ℕ) → Refusal → Type 0
IsRulesRefusal names p None r = ⊥
IsRulesRefusal names p (Some text) r = IsFileRefusal names p text r

-- ---- what code answers: the refusal, or want of memory, which has no cause

abbrev pub IsRuleReadingCause : List (List ℕ) → List ℕ → TextFault → Type 0
IsRuleReadingCause names text (Refused r) = IsRuleReadingRefusal names text r
IsRuleReadingCause names text Memory = ⊤

abbrev pub IsRuleWalkCause : List (List ℕ) → Program → RuleTree → TextFault → Type 0
IsRuleWalkCause names p tree (Refused r) = IsRuleWalkRefusal names p tree r
IsRuleWalkCause names p tree Memory = ⊤

abbrev pub IsFileCause : List (List ℕ) → Program → List ℕ → TextFault → Type 0
IsFileCause names p text (Refused r) = IsFileRefusal names p text r
IsFileCause names p text Memory = ⊤

abbrev pub IsRulesCause : List (List ℕ) → Program → Option (List ℕ) → TextFault → Type 0
IsRulesCause names p rules (Refused r) = IsRulesRefusal names p rules r
IsRulesCause names p rules Memory = ⊤
