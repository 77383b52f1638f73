-- Rule files that are spelled are read.
use Rattle.std.proofs.Common.{◌≡◌, ℕ, suc, ◌+◌, ◌≤◌, true, false, ◌||◌, List, [], ◌∷◌, Option, Some, None, length, refl, ap, arith}
use Rattle.spv_tree.specs.declared.tokens.token.Token.{Token}
use Rattle.spv_tree.specs.declared.tokens.token.TokenKind.{TokenKind}
use Rattle.spv_tree.specs.declared.tokens.token.TokenKind.TheVariants as kind
use Rattle.spv_tree.specs.declared.tokens.token.Word.TheVariants as word
use Rattle.spv_tree.specs.declared.tokens.token.Sign.TheVariants as sign
use Rattle.spv_tree.specs.declared.syntax.rules.RuleVars.{RuleVars}
use Rattle.spv_tree.specs.declared.syntax.rules.RuleForm.{RuleForm}
use Rattle.spv_tree.specs.declared.syntax.rules.RuleForm.TheVariants.{Replace, Infer}
use Rattle.spv_tree.specs.declared.syntax.rules.Rule.{Rule}
use Rattle.spv_tree.specs.declared.syntax.rules.RuleTree.{RuleTree}
use Rattle.spv_tree.specs.declared.syntax.formula_texts.FormulaText.{FormulaText}
use Rattle.spv_tree.specs.syntax.Formulas.{Formula}
use Rattle.spv_tree.specs.syntax.Lists.{each, headed}
use Rattle.spv_tree.specs.syntax.Steps.{Step, passes, first_line}
use Rattle.spv_grammar.specs.reading.Readers.{first, after, is, same_kind, headed_by}
use Rattle.spv_grammar.specs.reading.FormulaReaders.{read_formula}
use Rattle.spv_grammar.specs.reading.TypeReaders.{begins_name}
use Rattle.spv_grammar.specs.reading.DeclarationReaders.{read_sort}
use Rattle.spv_grammar.specs.reading.RuleReaders.{read_rule_vars, begins_rule, read_premise, rule_on, read_rule_form, read_rule, read_rules}
use Rattle.spv_grammar.specs.reading.Continuing.{continues_formula}
use Rattle.spv_grammar.specs.reading.Depths.{condition_depth, rule_form_depth, rules_depth, rule_tree_depth, formula_text_depth}
use Rattle.spv_grammar.specs.reading.Parts.{Stands, sort_part, headed_part, rule_vars_part, rule_part}
use Rattle.spv_grammar.proofs.reading.Whole.{Answers, Complete, Each, begun_of, taken_of, done, then_answers, past_answers, answers_after}
use Rattle.spv_grammar.proofs.reading.WholeHeads.{never, ended_complete, absent, present, each_complete, headed_complete}
use Rattle.spv_grammar.proofs.reading.Lengths.{formula_length}
use Rattle.spv_grammar.proofs.reading.FormulaWhole.{formula_complete}
use Rattle.spv_grammar.proofs.reading.TypeWhole.{names_complete, names_length}
use Rattle.spv_grammar.proofs.reading.DeclarationWhole.{sort_complete, either_length}
use Rattle.spv_grammar.proofs.reading.RoutineLengths.{declarations_length}
use Rattle.spv_tree.specs.syntax.Members.{in_kinds, in_lines}
use Rattle.spv_tree.specs.syntax.FormulaSpelling.{formula_spelling}
use Rattle.spv_tree.specs.syntax.ProgramSpelling.{sort_spelling}
use Rattle.spv_tree.specs.syntax.RuleSpelling.{premise_spelling, rule_form_spelling, rule_spelling, rule_tree_spelling, formula_text_spelling, rule_vars_spelling}

-- ---- lengths

rule_vars_length : (x : RuleVars) (rest : List TokenKind) → suc (length rest) ≤ length (rule_vars_spelling in_kinds x rest)
rule_vars_length x rest = omega (arith, names_length x.names (kind.Sign sign.Colon ∷ sort_spelling in_kinds x.sort (kind.Sign sign.Semicolon ∷ rest)), either_length x.sort.form (kind.Sign sign.Semicolon ∷ rest))

premise_length : (k : TokenKind) (x : Option Formula) (rest : List TokenKind) → condition_depth x + length rest ≤ length (premise_spelling in_kinds k x rest)
premise_length k None rest = omega arith
premise_length k (Some f) rest = omega (arith, formula_length f rest)

rule_form_length : (x : RuleForm) (rest : List TokenKind) → suc (rule_form_depth x + length rest) ≤ length (rule_form_spelling in_kinds x rest)
rule_form_length (Replace f g h) rest =
    let limit = premise_spelling in_kinds (kind.Word word.Where) h rest in
    omega (arith, formula_length f (kind.Word word.By ∷ formula_spelling in_kinds g limit), formula_length g limit, premise_length (kind.Word word.Where) h rest)
rule_form_length (Infer f h) rest = omega (arith, formula_length f (premise_spelling in_kinds (kind.Word word.From) h rest), premise_length (kind.Word word.From) h rest)

rules_length : (xs : List Rule) (rest : List TokenKind) → rules_depth xs + length rest ≤ length (each (rule_spelling in_kinds) xs rest)
rules_length [] rest = omega arith
rules_length (x ∷ xs) rest = omega (arith, rule_form_length x.form (kind.Sign sign.Semicolon ∷ each (rule_spelling in_kinds) xs rest), rules_length xs rest)

each_vars : (xs : List RuleVars) (rest : List TokenKind) → length rest ≤ length (each (rule_vars_spelling in_kinds) xs rest)
each_vars [] rest = omega arith
each_vars (x ∷ xs) rest = omega (arith, rule_vars_length x (each (rule_vars_spelling in_kinds) xs rest), each_vars xs rest)

variables_length : (xs : List RuleVars) (rest : List TokenKind) → length rest ≤ length (headed (kind.Word word.Var) (rule_vars_spelling in_kinds) xs rest)
variables_length [] rest = omega arith
variables_length (x ∷ xs) rest = omega (arith, rule_vars_length x (each (rule_vars_spelling in_kinds) xs rest), each_vars xs rest)

pub rule_tree_length : (t : RuleTree) (rest : List TokenKind) → rule_tree_depth t + length rest ≤ length (rule_tree_spelling in_kinds t rest)
rule_tree_length t rest = omega (arith, variables_length t.variables (each (rule_spelling in_kinds) t.rules rest), rules_length t.rules rest)

pub formula_text_length : (t : FormulaText) (rest : List TokenKind) → formula_text_depth t + length rest ≤ length (formula_text_spelling in_kinds t rest)
formula_text_length t rest =
    let asserted = kind.Word word.Assert ∷ formula_spelling in_kinds t.formula (kind.Sign sign.Period ∷ rest) in
    omega (arith, declarations_length t.declarations asserted, formula_length t.formula (kind.Sign sign.Period ∷ rest))

-- ---- variables

rule_vars_complete : (x : RuleVars) → Complete rule_vars_part never read_rule_vars x
rule_vars_complete x tokens spelled steps s e =
    let b = begun_of s in
    then_answers (names_complete x.names tokens (kind.Sign sign.Colon ∷ sort_spelling in_kinds x.sort (kind.Sign sign.Semicolon ∷ spelled)) (passes ∷ (sort_spelling in_lines) x.sort (passes ∷ steps)) b.stands refl) (λ xs is_xs mid m. past_answers (kind.Sign sign.Colon) refl m (λ last q. then_answers (ended_complete (kind.Sign sign.Semicolon) sort_part never read_sort x.sort refl refl (sort_complete x.sort) last spelled steps q refl) (λ v is_v rest r. done {y = record { line = first_line tokens; names = xs; sort = v }} r (λ i. record { line = b.line i; names = is_xs i; sort = is_v i }))))

all_rule_vars : (xs : List RuleVars) → Each (Complete rule_vars_part never read_rule_vars) xs
all_rule_vars [] = tt
all_rule_vars (x ∷ xs) = (rule_vars_complete x, all_rule_vars xs)

variables_complete : (xs : List RuleVars) → Complete (headed_part (kind.Word word.Var) rule_vars_part) (λ o. is (kind.Word word.Var) o || begins_name o) (headed_by (kind.Word word.Var) begins_name read_rule_vars) xs
variables_complete xs = headed_complete rule_vars_part begins_name read_rule_vars (λ x rest. refl) rule_vars_length (kind.Word word.Var) refl xs (all_rule_vars xs)

-- ---- rules

premise_answers : (n : ℕ) (k : TokenKind) → same_kind k k ≡ true → (x : Option Formula) → condition_depth x ≤ n → {tokens : List Token} {spelled : List TokenKind} {steps : List Step} → Stands tokens (premise_spelling in_kinds k x spelled) (premise_spelling in_lines k x steps) → is k (first spelled) ≡ false → continues_formula (first spelled) ≡ false → Answers (read_premise n k tokens) x tokens spelled steps
premise_answers n k same None d s e g = absent k (read_formula n) s e
premise_answers n k same (Some f) d {tokens} {spelled} {steps} s e g = present k (read_formula n) same s (λ mid m. formula_complete f n d mid spelled steps m g)

-- neither this word nor ";" goes on with a formula
premise_ends : (k : TokenKind) (x : Option Formula) (spelled : List TokenKind) → continues_formula (Some k) ≡ false → continues_formula (first (premise_spelling in_kinds k x (kind.Sign sign.Semicolon ∷ spelled))) ≡ false
premise_ends k None spelled e = refl
premise_ends k (Some f) spelled e = e

-- a rule up to its ";"
rule_form_answers : (n : ℕ) (x : RuleForm) → rule_form_depth x ≤ n → {tokens : List Token} {spelled : List TokenKind} {steps : List Step} → Stands tokens (rule_form_spelling in_kinds x (kind.Sign sign.Semicolon ∷ spelled)) (rule_form_spelling in_lines x (passes ∷ steps)) → Answers (read_rule_form n tokens) x tokens (kind.Sign sign.Semicolon ∷ spelled) (passes ∷ steps)
rule_form_answers n (Replace f g h) d {tokens} {spelled} {steps} s =
    let p = taken_of s in
    let limit = premise_spelling in_kinds (kind.Word word.Where) h (kind.Sign sign.Semicolon ∷ spelled) in
    let lines = premise_spelling in_lines (kind.Word word.Where) h (passes ∷ steps) in
    answers_after (omega (arith, p.shorter)) (ap (λ o. rule_on n o tokens) p.front) (then_answers (formula_complete f n (omega arith) (after tokens) (kind.Word word.By ∷ formula_spelling in_kinds g limit) (passes ∷ (formula_spelling in_lines) g lines) p.stands refl) (λ x is_x mid m. past_answers (kind.Word word.By) refl m (λ last q. then_answers (formula_complete g n (omega arith) last limit lines q (premise_ends (kind.Word word.Where) h spelled refl)) (λ y is_y next v. then_answers (premise_answers n (kind.Word word.Where) refl h (omega arith) v refl refl) (λ z is_z rest r. done {y = Replace x y z} r (cc (is_x, is_y, is_z)))))))
rule_form_answers n (Infer f h) d {tokens} {spelled} {steps} s =
    let p = taken_of s in
    let reason = premise_spelling in_kinds (kind.Word word.From) h (kind.Sign sign.Semicolon ∷ spelled) in
    let lines = premise_spelling in_lines (kind.Word word.From) h (passes ∷ steps) in
    answers_after (omega (arith, p.shorter)) (ap (λ o. rule_on n o tokens) p.front) (then_answers (formula_complete f n (omega arith) (after tokens) reason lines p.stands (premise_ends (kind.Word word.From) h spelled refl)) (λ x is_x mid m. then_answers (premise_answers n (kind.Word word.From) refl h (omega arith) m refl refl) (λ z is_z rest r. done {y = Infer x z} r (cc (is_x, is_z)))))

rule_complete : (n : ℕ) (x : Rule) → rule_form_depth x.form ≤ n → Complete rule_part never (read_rule n) x
rule_complete n x d tokens spelled steps s e =
    let b = begun_of s in
    then_answers (then_answers (rule_form_answers n x.form d b.stands) (λ y is_y mid m. past_answers (kind.Sign sign.Semicolon) refl m (λ rest r. done r is_y))) (λ y is_y rest r. done {y = record { line = first_line tokens; form = y }} r (λ i. record { line = b.line i; form = is_y i }))

all_rules : (n : ℕ) (xs : List Rule) → rules_depth xs ≤ n → Each (Complete rule_part never (read_rule n)) xs
all_rules n [] d = tt
all_rules n (x ∷ xs) d = (rule_complete n x (omega arith), all_rules n xs (omega arith))

form_begins : (x : RuleForm) (rest : List TokenKind) → begins_rule (first (rule_form_spelling in_kinds x rest)) ≡ true
form_begins (Replace f g h) rest = refl
form_begins (Infer f h) rest = refl

-- ---- rule files

-- no rule goes on with variables
form_is_no_name : (x : RuleForm) (rest : List TokenKind) → (is (kind.Word word.Var) (first (rule_form_spelling in_kinds x rest)) || begins_name (first (rule_form_spelling in_kinds x rest))) ≡ false
form_is_no_name (Replace f g h) rest = refl
form_is_no_name (Infer f h) rest = refl

variables_end : (xs : List Rule) → (is (kind.Word word.Var) (first (each (rule_spelling in_kinds) xs [])) || begins_name (first (each (rule_spelling in_kinds) xs []))) ≡ false
variables_end [] = refl
variables_end (x ∷ xs) = form_is_no_name x.form (kind.Sign sign.Semicolon ∷ each (rule_spelling in_kinds) xs [])

pub rule_tree_answers : (n : ℕ) (t : RuleTree) → rule_tree_depth t ≤ n → {tokens : List Token} → Stands tokens (rule_tree_spelling in_kinds t []) (rule_tree_spelling in_lines t []) → Answers (read_rules n tokens) t tokens [] []
rule_tree_answers n t d {tokens} s =
    let b = begun_of s in
    then_answers (variables_complete t.variables tokens (each (rule_spelling in_kinds) t.rules []) (each (rule_spelling in_lines) t.rules []) b.stands (variables_end t.rules)) (λ vs is_vs mid m. then_answers (each_complete rule_part begins_rule (read_rule n) (λ x rest. form_begins x.form (kind.Sign sign.Semicolon ∷ rest)) (λ x rest. omega (arith, rule_form_length x.form (kind.Sign sign.Semicolon ∷ rest))) t.rules (all_rules n t.rules d) (length mid) mid [] [] (omega arith) m refl) (λ rs is_rs rest r. done {y = record { line = first_line tokens; variables = vs; rules = rs }} r (λ i. record { line = b.line i; variables = is_vs i; rules = is_rs i })))
