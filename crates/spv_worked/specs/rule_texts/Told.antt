-- What is told of a rule file for a program, from the bytes of both on.
use Rattle.std.specs.Prelude.{ℕ, List, [], map, Option, Some, None, Ok, Err, slice_get}
use Rattle.spv_logic.specs.declared.names.names.Symbol.{Symbol}
use Rattle.spv_tree.specs.declared.syntax.programs.Program.{Program as ProgramText}
use Rattle.spv_tree.specs.declared.syntax.rules.RuleTree.{RuleTree}
use Rattle.spv_grammar.specs.reading.RoutineReaders.{read_program, read_whole}
use Rattle.spv_grammar.specs.reading.RuleReaders.{read_rules}
use Rattle.spv_lexer.specs.Reading.{Spelled, reading}
use Rattle.spv_lexer.specs.Tokens.{numbered, names_after}
use Rattle.spv_program.specs.Programs.{Program}
use Rattle.spv_typing.specs.declared.faults.TypeFault.TheVariants as fault
use Rattle.spv_typing.specs.Outcomes.{Outcome}
use Rattle.spv_typing.specs.Known.{known_in}
use Rattle.spv_typing.specs.ProgramWalk.{program_walk}
use Rattle.spv_proof_rules.specs.Rules.{Rule}
use Rattle.spv_rule_files.specs.declared.faults.RuleFault.{RuleFault}
use Rattle.spv_rule_files.specs.declared.faults.RuleFault.TheVariants as rule_fault
use Rattle.spv_rule_files.specs.declared.rules.TypedRule.{TypedRule}
use Rattle.spv_rule_files.specs.Outcomes.{RuleOutcome}
use Rattle.spv_rule_files.specs.Rules.{rules_walk}
use Rattle.spv_rule_files.specs.rule_terms.RuleTerms.{rule_of}

-- the program or the rule file is not right in another way; or these rules are read; or the file has this first fault on a line, with a name
pub data Told : Type 0 where
  no_program : Told
  no_tree : Told
  said : List Rule → Told
  undeclared : ℕ → List ℕ → Told
  twice : ℕ → List ℕ → Told
  wrong_type : ℕ → Told
  wrong_count : ℕ → Told
  unbound : ℕ → List ℕ → Told
  other_fault : Told

abbrev pub text_or_none : Option (List ℕ) → List ℕ
text_or_none None = []
text_or_none (Some text) = text

abbrev pub text_of : List (List ℕ) → Symbol → List ℕ
text_of names x = text_or_none (slice_get names x.0)

abbrev pub of_fault : List (List ℕ) → RuleFault → Told
of_fault names (rule_fault.Typing (fault.Undeclared line x)) = undeclared line (text_of names x)
of_fault names (rule_fault.Typing (fault.DeclaredTwice line x)) = twice line (text_of names x)
of_fault names (rule_fault.Typing (fault.WrongType line)) = wrong_type line
of_fault names (rule_fault.Typing (fault.Count line)) = wrong_count line
of_fault names (rule_fault.Unbound line x) = unbound line (text_of names x)
of_fault names other = other_fault

abbrev pub of_rules : List (List ℕ) → RuleOutcome (List TypedRule) → Told
of_rules names (Ok rules) = said (map rule_of rules)
of_rules names (Err f) = of_fault names f

abbrev pub of_tree : List (List ℕ) → Program → Option RuleTree → Told
of_tree names p None = no_tree
of_tree names p (Some tree) = of_rules names (rules_walk (known_in names) p tree)

-- the names of the file stand behind those of the program
abbrev pub of_file : List (List ℕ) → Program → List Spelled → Told
of_file names p tokens = of_tree (names_after names tokens) p (read_whole (read_rules 12 (numbered names tokens)))

abbrev pub of_program : List (List ℕ) → Outcome Program → List Spelled → Told
of_program names (Err f) tokens = no_program
of_program names (Ok p) tokens = of_file names p tokens

abbrev pub of_program_tree : List (List ℕ) → Option ProgramText → List Spelled → Told
of_program_tree names None tokens = no_program
of_program_tree names (Some tree) tokens = of_program names (program_walk (known_in names) tree) tokens

abbrev pub of_tokens : List Spelled → List Spelled → Told
of_tokens program file =
    of_program_tree (names_after [] program) (read_whole (read_program 12 (numbered [] program))) file

-- what is told of a rule file for a program
abbrev pub told : List ℕ → List ℕ → Told
told program file = of_tokens (reading program).tokens (reading file).tokens
