-- What is read as a rule file is spelled at the front, on its lines.
use Rattle.std.proofs.Common.{◌≡◌, ℕ, List, Option, Some, refl}
use Rattle.spv_tree.specs.declared.tokens.token.Token.{Token}
use Rattle.spv_tree.specs.declared.tokens.token.TokenKind.{TokenKind}
use Rattle.spv_tree.specs.declared.tokens.token.TokenKind.TheVariants as kind
use Rattle.spv_tree.specs.declared.tokens.token.Word.TheVariants as word
use Rattle.spv_tree.specs.declared.tokens.token.Sign.TheVariants as sign
use Rattle.spv_tree.specs.declared.syntax.rules.RuleForm.TheVariants.{Replace, Infer}
use Rattle.spv_tree.specs.syntax.Steps.{first_line}
use Rattle.spv_grammar.specs.reading.Readers.{front}
use Rattle.spv_grammar.specs.reading.FormulaReaders.{read_formula}
use Rattle.spv_grammar.specs.reading.TypeReaders.{begins_name}
use Rattle.spv_grammar.specs.reading.DeclarationReaders.{read_sort}
use Rattle.spv_grammar.specs.reading.RuleReaders.{read_rule_vars, begins_rule, read_premise, read_replace, read_infer, rule_on, read_rule_form, read_rule, read_rules}
use Rattle.spv_grammar.specs.reading.Parts.{BeginsWith, sort_part, rule_vars_part, premise_part, rule_form_part, rule_part, rule_tree_part}
use Rattle.spv_grammar.proofs.reading.Fronts.{Passed, passed, join, started}
use Rattle.spv_grammar.proofs.reading.Sound.{On, on_none, on_some, on_then, on_past, on_more, items_sound, each_list, starting_sound, headed_sound, on_optional, ended_sound}
use Rattle.spv_grammar.proofs.reading.FormulaSound.{formula_sound}
use Rattle.spv_grammar.proofs.reading.TypeSound.{names_sound}
use Rattle.spv_grammar.proofs.reading.DeclarationSound.{sort_sound}

rule_vars_sound : (tokens : List Token) → On (read_rule_vars tokens) (BeginsWith rule_vars_part tokens)
rule_vars_sound tokens =
    on_then (names_sound tokens) (λ xs mid n. on_past (kind.Sign sign.Colon) mid (λ last p. on_then (ended_sound (kind.Sign sign.Semicolon) sort_part read_sort last (sort_sound last)) (λ s rest a. on_some _ (record { line = first_line tokens; names = xs; sort = s }) rest (started (join n (join p a))))))

premise_sound : (n : ℕ) (k : TokenKind) (tokens : List Token) → On (read_premise n k tokens) (BeginsWith (premise_part k) tokens)
premise_sound n k tokens =
    on_optional k (read_formula n) tokens (BeginsWith (premise_part k) tokens) (record { spelled = refl; lined = λ steps. refl }) (λ mid p. on_more (formula_sound n mid) (λ f rest a. join p a))

replace_sound : (n : ℕ) (tokens mid : List Token) → Passed (kind.Word word.Replace) tokens mid → On (read_replace n mid) (BeginsWith rule_form_part tokens)
replace_sound n tokens mid p =
    on_then (formula_sound n mid) (λ f last a. on_past (kind.Word word.By) last (λ next q. on_then (formula_sound n next) (λ g there b. on_then (premise_sound n (kind.Word word.Where) there) (λ h rest c. on_some _ (Replace f g h) rest (join p (join a (join q (join b c))))))))

infer_sound : (n : ℕ) (tokens mid : List Token) → Passed (kind.Word word.Infer) tokens mid → On (read_infer n mid) (BeginsWith rule_form_part tokens)
infer_sound n tokens mid p =
    on_then (formula_sound n mid) (λ f last a. on_then (premise_sound n (kind.Word word.From) last) (λ h rest c. on_some _ (Infer f h) rest (join p (join a c))))

by_front : (n : ℕ) (tokens : List Token) (o : Option TokenKind) → front tokens ≡ o → On (rule_on n o tokens) (BeginsWith rule_form_part tokens)
by_front n tokens (Some (kind.Word word.Replace)) e = replace_sound n tokens _ (passed _ tokens e)
by_front n tokens (Some (kind.Word word.Infer)) e = infer_sound n tokens _ (passed _ tokens e)
by_front n tokens _ e = on_none _

rule_form_sound : (n : ℕ) (tokens : List Token) → On (read_rule_form n tokens) (BeginsWith rule_form_part tokens)
rule_form_sound n tokens = by_front n tokens (front tokens) refl

rule_sound : (n : ℕ) (tokens : List Token) → On (read_rule n tokens) (BeginsWith rule_part tokens)
rule_sound n tokens =
    on_then (ended_sound (kind.Sign sign.Semicolon) rule_form_part (read_rule_form n) tokens (rule_form_sound n tokens)) (λ x rest a. on_some _ (record { line = first_line tokens; form = x }) rest (started a))

pub rule_tree_sound : (n : ℕ) (tokens : List Token) → On (read_rules n tokens) (BeginsWith rule_tree_part tokens)
rule_tree_sound n tokens =
    on_then (headed_sound (kind.Word word.Var) begins_name rule_vars_part read_rule_vars rule_vars_sound tokens) (λ vs mid a. on_then (items_sound (each_list rule_part) _ (starting_sound begins_rule rule_part (read_rule n) (rule_sound n)) _ mid) (λ rs rest b. on_some _ (record { line = first_line tokens; variables = vs; rules = rs }) rest (started (join a b))))
