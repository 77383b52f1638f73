-- The walk over the rules of a rule file.
use Rattle.std.specs.Prelude.{ℕ, List, [], ◌∷◌, ◌++◌, Option, Some, None, Ok, Err}
use Rattle.spv_logic.specs.declared.types.Sort.TheVariants as sort
use Rattle.spv_tree.specs.declared.syntax.names.Name.{Name}
use Rattle.spv_tree.specs.declared.syntax.rules.Rule.{Rule as RuleText}
use Rattle.spv_tree.specs.declared.syntax.rules.RuleForm.{RuleForm as RuleFormText}
use Rattle.spv_tree.specs.declared.syntax.rules.RuleForm.TheVariants as text
use Rattle.spv_tree.specs.declared.syntax.rules.RuleTree.{RuleTree}
use Rattle.spv_tree.specs.syntax.Formulas as tree
use Rattle.spv_program.specs.Formulas.{Formula, NilOf}
use Rattle.spv_program.specs.Programs.{Program}
use Rattle.spv_program.specs.Scopes as program
use Rattle.spv_typing.specs.Outcomes.{Outcome, after, each, if_there, wrong}
use Rattle.spv_typing.specs.Known.{KnownNames, Known, Scope}
use Rattle.spv_typing.specs.OperatorWalk.{Operand, Of, NilAt, settled, formula_line, formula_walk}
use Rattle.spv_rule_files.specs.declared.rules.RuleForm.{RuleForm}
use Rattle.spv_rule_files.specs.declared.rules.RuleForm.TheVariants.{Replace, Infer}
use Rattle.spv_rule_files.specs.declared.rules.Said.{Said}
use Rattle.spv_rule_files.specs.declared.rules.TypedRule.{TypedRule}
use Rattle.spv_rule_files.specs.declared.faults.RuleFault.TheVariants.{Unbound}
use Rattle.spv_rule_files.specs.Outcomes.{RuleOutcome, behind, and_then, each_rule}
use Rattle.spv_rule_files.specs.Scopes.{rule_known, rule_scope}
use Rattle.spv_rule_files.specs.Variables.{variables_walk}
use Rattle.spv_rule_files.specs.Forms.{rule_forms}
use Rattle.spv_rule_files.specs.Triggers.{trigger_in, names_behind, variables_of, first_unbound}

-- ---- formulas

-- a formula that may be of any sort, NIL included
abbrev pub side : Scope → tree.Formula → Outcome (Operand Formula)
side s f = formula_walk (rule_forms s) f

-- a truth value
abbrev pub truth : Scope → tree.Formula → Outcome Formula
truth s f = after (side s f) (settled NilOf (wrong (formula_line f)) sort.Bool)

-- ---- what a rule says

-- two sides of one sort; NIL takes that of the other side
abbrev pub sides : ℕ → Operand Formula → Operand Formula → Outcome RuleForm
sides line (Of x s) b = after (settled NilOf (wrong line) s b) (λ y. Ok (Replace x y))
sides line (NilAt at) (Of y s) = after (settled NilOf (wrong line) s (NilAt at)) (λ x. Ok (Replace x y))
sides line (NilAt at) (NilAt on) = Err (wrong line)

abbrev pub replaced : Scope → ℕ → tree.Formula → tree.Formula → Outcome RuleForm
replaced s line l r = after (side s l) (λ a. after (side s r) (λ b. sides line a b))

abbrev pub says_walk : Scope → ℕ → RuleFormText → Outcome RuleForm
says_walk s line (text.Replace l r guard) = replaced s line l r
says_walk s line (text.Infer g guard) = after (truth s g) (λ f. Ok (Infer f))

-- WHERE or FROM
abbrev pub guard_of : RuleFormText → Option tree.Formula
guard_of (text.Replace l r guard) = guard
guard_of (text.Infer g guard) = guard

abbrev pub form_walk : Scope → ℕ → RuleFormText → Outcome Said
form_walk s line r =
    after (says_walk s line r) (λ f. after (if_there (truth s) (guard_of r)) (λ g. Ok (record { form = f; guard = g })))

-- ---- triggers

-- the formula that has the trigger: the left side, or what is inferred
abbrev pub leading : RuleForm → Formula
leading (Replace l r) = l
leading (Infer f) = f

-- the variables of a rule's trigger; each rule has one
abbrev pub trigger_variables : ℕ → program.Scope → Option Formula → Outcome program.Scope
trigger_variables line vars None = Err (wrong line)
trigger_variables line vars (Some t) = Ok (variables_of vars t)

-- the names in a rule, in the order of the text
abbrev pub form_names : List Name → RuleForm → List Name
form_names done (Replace l r) = names_behind (names_behind done l) r
form_names done (Infer f) = names_behind done f

abbrev pub guard_names : List Name → Option Formula → List Name
guard_names done None = done
guard_names done (Some g) = names_behind done g

abbrev pub rule_names : TypedRule → List Name
rule_names r = guard_names (form_names [] r.form) r.guard

-- each variable of a rule is one of its trigger's
abbrev pub unless_unbound : TypedRule → Option Name → RuleOutcome TypedRule
unless_unbound r None = Ok r
unless_unbound r (Some x) = Err (Unbound x.line x.symbol)

abbrev pub bound_rule : TypedRule → RuleOutcome TypedRule
bound_rule r = unless_unbound r (first_unbound r.variables (rule_names r))

-- ---- rules

-- a rule, where names stand for this and the variables of the file have these sorts
abbrev pub typed_rule : Scope → program.Scope → RuleText → Outcome TypedRule
typed_rule s vars r =
    after (form_walk s r.line r.form) (λ says.
    after (trigger_variables r.line vars (trigger_in (leading says.form))) (λ own.
    Ok (record { form = says.form; guard = says.guard; variables = own })))

abbrev pub rule_walk : Scope → program.Scope → RuleText → RuleOutcome TypedRule
rule_walk s vars r = behind (typed_rule s vars r) bound_rule

abbrev pub one_more : Scope → program.Scope → List TypedRule → RuleText → RuleOutcome (List TypedRule)
one_more s vars rules r = and_then (rule_walk s vars r) (λ t. Ok (rules ++ t ∷ []))

-- the rules of a file, where this is known of the program
abbrev pub file_walk : Known → RuleTree → RuleOutcome (List TypedRule)
file_walk k t = behind (each (variables_walk k) [] t.variables) (λ vars. each_rule (one_more (rule_scope k vars) vars) [] t.rules)

-- the rules of a rule file for a program, or the first fault in the order of the text
abbrev pub rules_walk : KnownNames → Program → RuleTree → RuleOutcome (List TypedRule)
rules_walk start p t = file_walk (rule_known start p) t
