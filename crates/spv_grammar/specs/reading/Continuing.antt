-- Which tokens go on with a part: where a part is read, the first token behind it is none of these.
use Rattle.std.specs.Prelude.{Bool, true, false, ◌||◌, ◌&&◌, Option, Some, is_some}
use Rattle.spv_tree.specs.declared.tokens.token.TokenKind.{TokenKind}
use Rattle.spv_tree.specs.declared.tokens.token.TokenKind.TheVariants as kind
use Rattle.spv_tree.specs.declared.tokens.token.Word.TheVariants as word
use Rattle.spv_tree.specs.declared.tokens.token.Sign.TheVariants as sign
use Rattle.spv_tree.specs.syntax.Statements.{Statement, Otherwise, Arm, no_arm, arm, Loop}
use Rattle.spv_tree.specs.syntax.Types.{Field, no_field, field}
use Rattle.spv_tree.specs.syntax.Reads.{ends_open, otherwise_ends_open, loop_ends_open}
use Rattle.spv_grammar.specs.reading.Readers.{is}
use Rattle.spv_grammar.specs.reading.FormulaReaders.{comparison_of, adding_of, multiplying_of}
use Rattle.spv_grammar.specs.reading.StatementReaders.{begins_constant}
use Rattle.spv_grammar.specs.reading.TypeReaders.{begins_name}

abbrev pub continues_selectors : Option TokenKind → Bool
continues_selectors (Some (kind.Sign sign.OpenBracket)) = true
continues_selectors (Some (kind.Sign sign.Period)) = true
continues_selectors (Some (kind.Sign sign.Caret)) = true
continues_selectors _ = false

abbrev pub continues_factor : Option TokenKind → Bool
continues_factor o = is (kind.Sign sign.OpenParenthesis) o || continues_selectors o

abbrev pub continues_term : Option TokenKind → Bool
continues_term o = is_some (multiplying_of o) || continues_factor o

abbrev pub continues_simple : Option TokenKind → Bool
continues_simple o = is_some (adding_of o) || continues_term o

abbrev pub continues_relation : Option TokenKind → Bool
continues_relation o = is_some (comparison_of o) || continues_simple o

abbrev pub continues_formula : Option TokenKind → Bool
continues_formula o = is (kind.Sign sign.Arrow) o || continues_relation o

-- a formula and those behind it
abbrev pub continues_formulas : Option TokenKind → Bool
continues_formulas o = is (kind.Sign sign.Comma) o || continues_formula o

-- whether a statement begins with the token
abbrev pub begins_statement : Option TokenKind → Bool
begins_statement (Some (kind.Name x)) = true
begins_statement (Some (kind.Word word.New)) = true
begins_statement (Some (kind.Word word.Begin)) = true
begins_statement (Some (kind.Word word.If)) = true
begins_statement (Some (kind.Word word.Case)) = true
begins_statement (Some (kind.Word word.Invariant)) = true
begins_statement (Some (kind.Word word.While)) = true
begins_statement (Some (kind.Word word.Repeat)) = true
begins_statement (Some (kind.Word word.For)) = true
begins_statement (Some (kind.Word word.Assert)) = true
begins_statement _ = false

-- ELSE apart
abbrev pub continues_action : Option TokenKind → Bool
continues_action o = begins_statement o || (is (kind.Sign sign.Becomes) o || continues_formula o)

-- ELSE goes on with a statement that ends with an IF without one
abbrev pub continues_statement : Statement → Option TokenKind → Bool
continues_statement s o = continues_action o || (ends_open s && is (kind.Word word.Else) o)

-- a statement and those behind it
abbrev pub continues_statements : Option TokenKind → Bool
continues_statements o = is (kind.Sign sign.Semicolon) o || (is (kind.Word word.Else) o || continues_action o)

abbrev pub continues_arm : Arm → Option TokenKind → Bool
continues_arm (no_arm line) o = begins_constant o
continues_arm (arm line constants s) o = continues_statement s o

abbrev pub continues_arms : Option TokenKind → Bool
continues_arms o = begins_constant o || continues_statements o

abbrev pub continues_loop : Loop → Option TokenKind → Bool
continues_loop l o = continues_action o || (loop_ends_open l && is (kind.Word word.Else) o)

abbrev pub continues_otherwise : Otherwise → Option TokenKind → Bool
continues_otherwise other o = continues_action o || (otherwise_ends_open other && is (kind.Word word.Else) o)

abbrev pub continues_type : Option TokenKind → Bool
continues_type o = is (kind.Sign sign.Range) o

abbrev pub continues_types : Option TokenKind → Bool
continues_types o = is (kind.Sign sign.Comma) o || continues_type o

abbrev pub continues_field : Field → Option TokenKind → Bool
continues_field (no_field line) o = begins_name o
continues_field (field line names t) o = continues_type o

abbrev pub continues_fields : Option TokenKind → Bool
continues_fields o = is (kind.Sign sign.Semicolon) o || (begins_name o || continues_type o)

-- a name among them: of further declarations of one kind
abbrev pub continues_declarations : Option TokenKind → Bool
continues_declarations o = begins_name o || (is (kind.Word word.Const) o || (is (kind.Word word.Type) o || (is (kind.Word word.Var) o || is (kind.Word word.Declare) o)))

abbrev pub continues_heading : Option TokenKind → Bool
continues_heading o = is (kind.Sign sign.OpenParenthesis) o || is (kind.Sign sign.Colon) o

abbrev pub continues_clauses : Option TokenKind → Bool
continues_clauses o = is (kind.Word word.Global) o || (is (kind.Word word.Initial) o || (is (kind.Word word.Entry) o || is (kind.Word word.Exit) o))
