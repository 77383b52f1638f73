-- Tokens that complete what is expected, and which first token behind them goes on with it.
use Rattle.std.specs.Prelude.{ℕ, zero, suc, Bool, true, false, ◌&&◌, ◌||◌, not, List, [], ◌∷◌, ◌++◌, Option, Some}
use Rattle.spv_tree.specs.declared.tokens.token.Token.{Token}
use Rattle.spv_tree.specs.declared.tokens.token.TokenKind.{TokenKind}
use Rattle.spv_tree.specs.declared.tokens.token.TokenKind.TheVariants as kind
use Rattle.spv_tree.specs.declared.tokens.token.Word.TheVariants as word
use Rattle.spv_tree.specs.declared.tokens.token.Sign.TheVariants as sign
use Rattle.spv_grammar.specs.reading.Readers.{first, is}
use Rattle.spv_grammar.specs.reading.RoutineReaders.{begins_heading}
use Rattle.spv_grammar.specs.reading.RuleReaders.{begins_rule}
use Rattle.spv_grammar.specs.reading.Continuing.{continues_selectors, continues_factor, continues_term, continues_simple, continues_relation, continues_formula, continues_formulas, continues_arms, continues_type, continues_types, continues_fields, continues_declarations, continues_heading}
use Rattle.spv_grammar.specs.expected_tokens.Expected.{Expected, unexpected, taken, opened, Prediction}
use Rattle.spv_grammar.specs.expected_tokens.Expected as expected

abbrev pub some_name : TokenKind
some_name = kind.Name (record { 0 = 0 })

-- the bodies and ends of so many routines
abbrev pub routine_ends : ℕ → List TokenKind
routine_ends zero = []
routine_ends (suc begun) = kind.Word word.Begin ∷ kind.Word word.End ∷ kind.Sign sign.Semicolon ∷ routine_ends begun

-- few tokens that are such a part
abbrev pub completion : Expected → List TokenKind
completion (expected.token k) = k ∷ []
completion expected.name = some_name ∷ []
completion expected.formula = kind.Word word.Nil ∷ []
completion expected.simple = kind.Word word.Nil ∷ []
completion expected.term = kind.Word word.Nil ∷ []
completion expected.factor = kind.Word word.Nil ∷ []
completion expected.scalar = some_name ∷ []
completion expected.constant = some_name ∷ []
completion expected.loop = kind.Word word.While ∷ kind.Word word.Nil ∷ kind.Word word.Do ∷ []
completion expected.direction = kind.Word word.To ∷ []
completion expected.type = some_name ∷ []
completion expected.sort = some_name ∷ []
completion expected.group = some_name ∷ kind.Sign sign.Colon ∷ some_name ∷ []
completion expected.heading = kind.Word word.Procedure ∷ some_name ∷ []
completion expected.global_group = some_name ∷ []
completion (expected.marks begun) = routine_ends begun
completion (expected.mark_end begun) = kind.Word word.Forward ∷ kind.Sign sign.Semicolon ∷ routine_ends begun
completion _ = []

-- whether a token may go on with what is read of such a part. Of a word or sign this says that it is none, which none is
abbrev pub continues : Expected → Option TokenKind → Bool
continues (expected.token k) o = not (is k (Some k))
continues expected.formula o = continues_formula o
continues expected.conclusion o = continues_formula o
continues expected.right_side o = continues_relation o
continues expected.simple o = continues_simple o
continues expected.more_terms o = continues_simple o
continues expected.term o = continues_term o
continues expected.more_factors o = continues_term o
continues expected.factor o = continues_factor o
continues expected.named o = continues_factor o
continues expected.selectors o = continues_selectors o
continues expected.more_formulas o = continues_formulas o
continues expected.more_constants o = is (kind.Sign sign.Comma) o
continues expected.statement o = continues_arms o
continues expected.more_statements o = continues_arms o
continues expected.action o = continues_arms o
continues expected.loop o = continues_arms o
continues expected.otherwise o = continues_arms o
continues expected.arm o = continues_arms o
continues expected.more_arms o = continues_arms o
continues expected.more_names o = is (kind.Sign sign.Comma) o
continues expected.type o = continues_type o
continues expected.range_part o = continues_type o
continues expected.more_types o = continues_types o
continues expected.field o = continues_fields o
continues expected.more_fields o = continues_fields o
continues expected.more_consts o = continues_declarations o
continues expected.const_part o = continues_declarations o
continues expected.more_typedefs o = continues_declarations o
continues expected.type_part o = continues_declarations o
continues expected.more_vars o = continues_declarations o
continues expected.var_part o = continues_declarations o
continues expected.more_symbols o = continues_declarations o
continues expected.declare_part o = continues_declarations o
continues expected.argument_part o = is (kind.Sign sign.OpenParenthesis) o
continues expected.more_sorts o = is (kind.Sign sign.Comma) o
continues expected.group o = is (kind.Sign sign.Comma) o
continues expected.more_groups o = is (kind.Sign sign.Semicolon) o || is (kind.Sign sign.Comma) o
continues expected.group_part o = continues_heading o
continues expected.result_part o = continues_heading o
continues expected.heading o = continues_heading o
continues expected.global_group o = is (kind.Sign sign.Comma) o
continues expected.more_global_groups o = is (kind.Sign sign.Semicolon) o || is (kind.Sign sign.Comma) o
continues expected.global_part o = is (kind.Word word.Global) o
continues expected.more_starts o = is (kind.Sign sign.Comma) o
continues expected.initial_part o = is (kind.Word word.Initial) o
continues (expected.condition_part k) o = is k o
continues (expected.marks begun) o = begins_heading o
continues (expected.mark_end begun) o = begins_heading o
continues expected.file_part o = is (kind.Sign sign.OpenParenthesis) o
continues expected.more_rule_vars o = continues_declarations o
continues expected.rule_var_part o = continues_declarations o
continues (expected.premise_part k) o = is k o || continues_formula o
continues expected.rules o = begins_rule o
continues _ o = false

abbrev pub completions : List Expected → List TokenKind
completions [] = []
completions (p ∷ ps) = completion p ++ completions ps

-- what completes them goes on with none of them
abbrev pub fits : List Expected → Bool
fits [] = true
fits (p ∷ ps) = not (continues p (first (completions ps))) && fits ps

-- ---- the same before what begins with a token, or nothing

abbrev pub or_first : List TokenKind → Option TokenKind → Option TokenKind
or_first [] o = o
or_first (k ∷ ks) o = Some k

abbrev pub fits_before : Option TokenKind → List Expected → Bool
fits_before o [] = true
fits_before o (p ∷ ps) = not (continues p (or_first (completions ps) o)) && fits_before o ps

abbrev pub fits_prediction : Option TokenKind → Prediction → Bool
fits_prediction o unexpected = true
fits_prediction o (taken parts) = fits_before o parts
fits_prediction o (opened parts) = fits_before o parts

abbrev pub token_of : TokenKind → Token
token_of k = record { kind = k; line = 1 }
