-- A fault of a rule file, and what is told of it, are a cause.
use Rattle.std.proofs.Common.{◌≡◌, inl, inr, ℕ, List, map, Result, Ok, Err, IfErr, IfOk, subst, sym}
use Rattle.std.proofs.lemmas.Option.{none-some}
use Rattle.spv_logic.proofs.list.Tests.{left_true}
use Rattle.spv_tree.specs.declared.syntax.rules.RuleTree.{RuleTree}
use Rattle.spv_tree.specs.syntax.Reads.{ReadsRules, block_ok, routines_ok}
use Rattle.spv_parser.specs.declared.language.fault.LanguageFault.{LanguageFault}
use Rattle.spv_parser.specs.language.Texts.{names_with, IsTreeOf, IsFaultOf}
use Rattle.spv_program.specs.Programs.{Program}
use Rattle.spv_typing.specs.Known.{KnownNames, known_in}
use Rattle.spv_proof_rules.specs.Rules.{Rule}
use Rattle.spv_rule_files.specs.declared.faults.RuleFault.{RuleFault}
use Rattle.spv_rule_files.specs.declared.faults.RuleFault.TheVariants as rule
use Rattle.spv_rule_files.specs.declared.rules.TypedRule.{TypedRule}
use Rattle.spv_rule_files.specs.Outcomes.{RuleStops}
use Rattle.spv_rule_files.specs.Right.{AreRight, RulesAreRight, FormulaRulesAreRight}
use Rattle.spv_rule_files.specs.Rules.{rules_walk}
use Rattle.spv_rule_files.specs.rule_terms.RuleTerms.{rule_of}
use Rattle.spv_verify.specs.declared.texts.TextTree.{TextTree}
use Rattle.spv_verify.specs.declared.texts.TextTree.TheVariants.{OfProgram, OfFormula}
use Rattle.spv_verify.specs.texts.Trees.{IsFormed}
use Rattle.spv_verify.specs.declared.refused.fault.TextFault.{TextFault}
use Rattle.spv_verify.specs.declared.refused.fault.TextFault.TheVariants.{Refused, Memory}
use Rattle.spv_verify.specs.refused.Told.{Tells, text_refusal, rule_refusal}
use Rattle.spv_verify.specs.tree_reports.Walks.{IsOfTree, is_typed_as}
use Rattle.spv_verify.specs.tree_reports.RuleFiles.{AreFileRules, IsRuleReadingCause, IsRuleWalkCause, IsFileCause}

pub reading_cause : (names : List (List ℕ)) (text : List ℕ) (fault : LanguageFault) (v : TextFault) → IsFaultOf ReadsRules names text fault → Tells (text_refusal fault) v → IsRuleReadingCause names text v
reading_cause names text fault (Refused r) stops tells = record { fault = fault; stops = stops; told = tells }
reading_cause names text fault Memory stops tells = tt

pub walk_cause : (names : List (List ℕ)) (p : Program) (tree : RuleTree) (fault : RuleFault) (v : TextFault)
    → RuleStops fault (rules_walk (known_in names) p tree) → Tells (rule_refusal names fault) v → IsRuleWalkCause names p tree v
walk_cause names p tree fault Memory stops tells = tt
walk_cause names p tree (rule.Typing fault) (Refused r) stops tells = record { fault = rule.Typing fault; stops = stops; told = tells }
walk_cause names p tree (rule.Unbound line x) (Refused r) stops tells = record { fault = rule.Unbound line x; stops = stops; told = tells }
walk_cause names p tree rule.Memory (Refused r) stops tells = absurd (none-some _ tells)

-- ---- of a file

pub reading_file_cause : (names : List (List ℕ)) (p : Program) (text : List ℕ) (v : TextFault) → IsRuleReadingCause names text v → IsFileCause names p text v
reading_file_cause names p text (Refused r) is = inl is
reading_file_cause names p text Memory is = tt

pub walk_file_cause : (names more : List (List ℕ)) (p : Program) (text : List ℕ) (tree : RuleTree) (v : TextFault) → more ≡ names_with names text → IsTreeOf ReadsRules names text tree
    → IsRuleWalkCause more p tree v → IsFileCause names p text v
walk_file_cause names more p text tree (Refused r) same tree_is is = inr (tree, tree_is, subst (λ n. IsRuleWalkCause n p tree (Refused r)) same is)
walk_file_cause names more p text tree Memory same tree_is is = tt

-- ---- of rules that are right

-- those that are read for the program of a tree are
pub right_rules : RulesAreRight → FormulaRulesAreRight → (p : Program) → IsOfTree p → (start : KnownNames) (t : RuleTree) (rules : List TypedRule) → rules_walk start p t ≡ Ok rules → AreRight p rules
right_rules programs formulas p of_tree start t rules walk = by of_tree.tree of_tree.formed of_tree.typed
  where
    by : (tree : TextTree) → IsFormed tree → is_typed_as of_tree.names tree p → AreRight p rules
    by (OfProgram tree) formed typed = programs (known_in of_tree.names) start tree p t rules (left_true (routines_ok 0 tree.routines) (block_ok tree.block) formed) typed walk
    by (OfFormula tree) formed typed = formulas (known_in of_tree.names) start tree p t rules typed walk

-- what was made of a file's rules is the rules of the file
pub are_file_rules : {T : Type 0} (rules_of : T → List Rule) (names more : List (List ℕ)) (p : Program) (text : List ℕ) (tree : RuleTree) (list : List TypedRule) → more ≡ names_with names text
    → IsTreeOf ReadsRules names text tree → rules_walk (known_in more) p tree ≡ Ok list
    → (r : Result T TextFault) → IfOk r (λ x. rules_of x ≡ map rule_of list) → IfOk r (λ x. AreFileRules names p text (rules_of x))
are_file_rules rules_of names more p text tree list same tree_is walk (Ok x) h =
    record { tree = tree; is_tree = tree_is; list = list; typed = subst (λ n. rules_walk (known_in n) p tree ≡ Ok list) same walk; same = h }
are_file_rules rules_of names more p text tree list same tree_is walk (Err v) h = tt

-- want of memory has no cause
memory_file_cause : (names : List (List ℕ)) (p : Program) (text : List ℕ) (v : TextFault) → v ≡ Memory → IsFileCause names p text v
memory_file_cause names p text v e = subst (IsFileCause names p text) (sym e) tt

pub memory_file_causes : {T : Type 0} (names : List (List ℕ)) (p : Program) (text : List ℕ) (r : Result T TextFault) → IfErr r (λ v. v ≡ Memory) → IfErr r (IsFileCause names p text)
memory_file_causes names p text (Ok x) h = tt
memory_file_causes names p text (Err v) h = memory_file_cause names p text v h
