-- What is expected next, and what the next token makes of it: the grammar as a table, for theorems alone.
use Rattle.std.specs.Prelude.{ℕ, zero, suc, Bool, true, false, if◌then◌else◌, List, [], ◌∷◌, Option, Some, None}
use Rattle.spv_tree.specs.declared.tokens.token.TokenKind.{TokenKind}
use Rattle.spv_tree.specs.declared.tokens.token.TokenKind.TheVariants as kind
use Rattle.spv_tree.specs.declared.tokens.token.Word.TheVariants as word
use Rattle.spv_tree.specs.declared.tokens.token.Sign.TheVariants as sign
use Rattle.spv_tree.specs.declared.syntax.operators.PlusOrMinus.{PlusOrMinus}
use Rattle.spv_tree.specs.declared.syntax.operators.Comparison.{Comparison}
use Rattle.spv_tree.specs.declared.syntax.operators.Adding.{Adding}
use Rattle.spv_tree.specs.declared.syntax.operators.Multiplying.{Multiplying}
use Rattle.spv_tree.specs.declared.syntax.operators.Direction.{Direction}
use Rattle.spv_grammar.specs.reading.Readers.{is}
use Rattle.spv_grammar.specs.reading.FormulaReaders.{prefix_of, comparison_of, adding_of, multiplying_of}
use Rattle.spv_grammar.specs.reading.StatementReaders.{begins_constant, direction_of}
use Rattle.spv_grammar.specs.reading.TypeReaders.{begins_name}
use Rattle.spv_grammar.specs.reading.RoutineReaders.{begins_heading}

-- a part that may stand next; `more_..` are those of a list behind its first, `.._part` what may stand behind a word or not at all
pub data Expected : Type 0 where
  token : TokenKind → Expected
  name : Expected
  formula : Expected
  conclusion : Expected
  right_side : Expected
  simple : Expected
  more_terms : Expected
  term : Expected
  more_factors : Expected
  factor : Expected
  named : Expected
  selectors : Expected
  more_formulas : Expected
  scalar : Expected
  constant : Expected
  more_constants : Expected
  statement : Expected
  more_statements : Expected
  action : Expected
  loop : Expected
  direction : Expected
  otherwise : Expected
  arm : Expected
  more_arms : Expected
  more_names : Expected
  type : Expected
  range_part : Expected
  more_types : Expected
  field : Expected
  more_fields : Expected
  more_consts : Expected
  const_part : Expected
  more_typedefs : Expected
  type_part : Expected
  more_vars : Expected
  var_part : Expected
  more_symbols : Expected
  declare_part : Expected
  argument_part : Expected
  sort : Expected
  more_sorts : Expected
  group : Expected
  more_groups : Expected
  group_part : Expected
  result_part : Expected
  heading : Expected
  global_group : Expected
  more_global_groups : Expected
  global_part : Expected
  more_starts : Expected
  initial_part : Expected
  condition_part : TokenKind → Expected
  marks : ℕ → Expected
  mark_end : ℕ → Expected
  file_part : Expected
  more_rule_vars : Expected
  rule_var_part : Expected
  premise_part : TokenKind → Expected
  rules : Expected

-- what the next token makes of it: it does not fit; or it is taken, and these parts are expected behind it; or these parts are expected
-- in place of the one
pub data Prediction : Type 0 where
  unexpected : Prediction
  taken : List Expected → Prediction
  opened : List Expected → Prediction

abbrev pub word_is : TokenKind → Option TokenKind → List Expected → Prediction
word_is k o parts = if is k o then taken parts else opened []

abbrev pub signed : Option PlusOrMinus → List Expected → Prediction
signed None parts = opened parts
signed (Some s) parts = taken parts

abbrev pub compared : Option Comparison → Prediction
compared None = opened []
compared (Some c) = taken (simple ∷ [])

abbrev pub added : Option Adding → Prediction
added None = opened []
added (Some a) = taken (term ∷ more_terms ∷ [])

abbrev pub multiplied : Option Multiplying → Prediction
multiplied None = opened []
multiplied (Some m) = taken (factor ∷ more_factors ∷ [])

abbrev pub directed : Option Direction → Prediction
directed None = unexpected
directed (Some d) = taken []

abbrev pub factor_on : Option TokenKind → Prediction
factor_on (Some (kind.Number n)) = taken []
factor_on (Some (kind.Word word.True)) = taken []
factor_on (Some (kind.Word word.False)) = taken []
factor_on (Some (kind.Word word.Nil)) = taken []
factor_on (Some (kind.Word word.Not)) = taken (factor ∷ [])
factor_on (Some (kind.Sign sign.Hash)) = taken (name ∷ [])
factor_on (Some (kind.Sign sign.OpenParenthesis)) = taken (formula ∷ token (kind.Sign sign.CloseParenthesis) ∷ [])
factor_on (Some (kind.Name x)) = taken (named ∷ [])
factor_on _ = unexpected

abbrev pub named_by : Bool → Prediction
named_by true = taken (formula ∷ more_formulas ∷ token (kind.Sign sign.CloseParenthesis) ∷ selectors ∷ [])
named_by false = opened (selectors ∷ [])

-- selectors, and these parts behind them
abbrev pub selectors_on : Option TokenKind → List Expected → Prediction → Prediction
selectors_on (Some (kind.Sign sign.OpenBracket)) behind others = taken (formula ∷ more_formulas ∷ token (kind.Sign sign.CloseBracket) ∷ selectors ∷ behind)
selectors_on (Some (kind.Sign sign.Period)) behind others = taken (name ∷ selectors ∷ behind)
selectors_on (Some (kind.Sign sign.Caret)) behind others = taken (selectors ∷ behind)
selectors_on _ behind others = others

abbrev pub scalar_on : Option TokenKind → Prediction
scalar_on (Some (kind.Number n)) = taken []
scalar_on (Some (kind.Name x)) = taken []
scalar_on _ = unexpected

abbrev pub name_on : Option TokenKind → Prediction
name_on (Some (kind.Name x)) = taken []
name_on _ = unexpected

abbrev pub while_parts : List Expected
while_parts = formula ∷ token (kind.Word word.Do) ∷ statement ∷ []

abbrev pub repeat_parts : List Expected
repeat_parts = statement ∷ more_statements ∷ token (kind.Word word.Until) ∷ formula ∷ []

abbrev pub for_parts : List Expected
for_parts = name ∷ token (kind.Sign sign.Becomes) ∷ formula ∷ direction ∷ formula ∷ token (kind.Word word.Do) ∷ statement ∷ []

-- the parts of a block behind BEGIN, and these behind it
abbrev pub block_parts : List Expected → List Expected
block_parts behind = statement ∷ more_statements ∷ token (kind.Word word.End) ∷ behind

abbrev pub statement_on : Option TokenKind → Prediction
statement_on (Some (kind.Name x)) = taken (action ∷ [])
statement_on (Some (kind.Word word.New)) = taken (token (kind.Sign sign.OpenParenthesis) ∷ name ∷ selectors ∷ token (kind.Sign sign.CloseParenthesis) ∷ [])
statement_on (Some (kind.Word word.Begin)) = taken (block_parts [])
statement_on (Some (kind.Word word.If)) = taken (formula ∷ token (kind.Word word.Then) ∷ statement ∷ otherwise ∷ [])
statement_on (Some (kind.Word word.Case)) = taken (formula ∷ token (kind.Word word.Of) ∷ arm ∷ more_arms ∷ token (kind.Word word.End) ∷ [])
statement_on (Some (kind.Word word.Invariant)) = taken (formula ∷ loop ∷ [])
statement_on (Some (kind.Word word.While)) = taken while_parts
statement_on (Some (kind.Word word.Repeat)) = taken repeat_parts
statement_on (Some (kind.Word word.For)) = taken for_parts
statement_on (Some (kind.Word word.Assert)) = taken (formula ∷ [])
statement_on _ = opened []

abbrev pub loop_on : Option TokenKind → Prediction
loop_on (Some (kind.Word word.While)) = taken while_parts
loop_on (Some (kind.Word word.Repeat)) = taken repeat_parts
loop_on (Some (kind.Word word.For)) = taken for_parts
loop_on _ = unexpected

abbrev pub behind_name : Option TokenKind → Prediction
behind_name (Some (kind.Sign sign.OpenParenthesis)) = taken (formula ∷ more_formulas ∷ token (kind.Sign sign.CloseParenthesis) ∷ [])
behind_name (Some (kind.Sign sign.Becomes)) = taken (formula ∷ [])
behind_name _ = opened []

abbrev pub range_parts : List Expected
range_parts = constant ∷ token (kind.Sign sign.Range) ∷ constant ∷ []

abbrev pub type_on : Option TokenKind → Prediction
type_on (Some (kind.Name x)) = taken (range_part ∷ [])
type_on (Some (kind.Number n)) = opened range_parts
type_on (Some (kind.Sign sign.Plus)) = opened range_parts
type_on (Some (kind.Sign sign.Minus)) = opened range_parts
type_on (Some (kind.Sign sign.Caret)) = taken (name ∷ [])
type_on (Some (kind.Word word.Array)) = taken (token (kind.Sign sign.OpenBracket) ∷ type ∷ more_types ∷ token (kind.Sign sign.CloseBracket) ∷ token (kind.Word word.Of) ∷ type ∷ [])
type_on (Some (kind.Word word.Record)) = taken (field ∷ more_fields ∷ token (kind.Word word.End) ∷ [])
type_on _ = unexpected

-- these parts, where a name begins the first of them
abbrev pub name_begins : Option TokenKind → List Expected → Prediction
name_begins (Some (kind.Name x)) parts = taken parts
name_begins _ parts = opened []

abbrev pub opened_if : Bool → List Expected → Prediction
opened_if true parts = opened parts
opened_if false parts = opened []

abbrev pub taken_if : Bool → List Expected → Prediction
taken_if true parts = taken parts
taken_if false parts = opened parts

-- what of a declaration stands behind its first name, and these parts behind it
abbrev pub const_parts : List Expected → List Expected
const_parts behind = token (kind.Sign sign.Equal) ∷ constant ∷ token (kind.Sign sign.Semicolon) ∷ behind

abbrev pub typedef_parts : List Expected → List Expected
typedef_parts behind = token (kind.Sign sign.Equal) ∷ type ∷ token (kind.Sign sign.Semicolon) ∷ behind

abbrev pub vars_parts : List Expected → List Expected
vars_parts behind = more_names ∷ token (kind.Sign sign.Colon) ∷ type ∷ token (kind.Sign sign.Semicolon) ∷ behind

abbrev pub symbol_parts : List Expected → List Expected
symbol_parts behind = argument_part ∷ token (kind.Sign sign.Colon) ∷ sort ∷ token (kind.Sign sign.Semicolon) ∷ behind

abbrev pub rule_vars_parts : List Expected → List Expected
rule_vars_parts behind = more_names ∷ token (kind.Sign sign.Colon) ∷ sort ∷ token (kind.Sign sign.Semicolon) ∷ behind

-- names with a type behind them
abbrev pub typed_names : List Expected
typed_names = name ∷ more_names ∷ token (kind.Sign sign.Colon) ∷ name ∷ []

abbrev pub group_on : Option TokenKind → Prediction
group_on (Some (kind.Word word.Var)) = taken typed_names
group_on (Some (kind.Word word.Procedure)) = taken (name ∷ more_names ∷ [])
group_on (Some (kind.Word word.Function)) = taken typed_names
group_on _ = opened typed_names

abbrev pub heading_on : Option TokenKind → Prediction
heading_on (Some (kind.Word word.Procedure)) = taken (name ∷ group_part ∷ [])
heading_on (Some (kind.Word word.Function)) = taken (name ∷ group_part ∷ result_part ∷ [])
heading_on _ = unexpected

-- the clauses of a routine, and these parts behind them
abbrev pub clause_parts : List Expected → List Expected
clause_parts behind = global_part ∷ initial_part ∷ condition_part (kind.Word word.Entry) ∷ condition_part (kind.Word word.Exit) ∷ behind

-- the marks of routines, where so many have begun and not ended
abbrev pub marks_by : ℕ → Bool → Prediction
marks_by begun true = opened (heading ∷ token (kind.Sign sign.Semicolon) ∷ clause_parts (mark_end begun ∷ []))
marks_by zero false = opened []
marks_by (suc begun) false = opened (token (kind.Word word.Begin) ∷ block_parts (token (kind.Sign sign.Semicolon) ∷ marks begun ∷ []))

abbrev pub mark_end_by : ℕ → Bool → Prediction
mark_end_by begun true = taken (token (kind.Sign sign.Semicolon) ∷ marks begun ∷ [])
mark_end_by begun false = opened (const_part ∷ var_part ∷ marks (suc begun) ∷ [])

abbrev pub rules_on : Option TokenKind → Prediction
rules_on (Some (kind.Word word.Replace)) = taken (formula ∷ token (kind.Word word.By) ∷ formula ∷ premise_part (kind.Word word.Where) ∷ token (kind.Sign sign.Semicolon) ∷ rules ∷ [])
rules_on (Some (kind.Word word.Infer)) = taken (formula ∷ premise_part (kind.Word word.From) ∷ token (kind.Sign sign.Semicolon) ∷ rules ∷ [])
rules_on _ = opened []

abbrev pub token_by : Bool → Prediction
token_by true = taken []
token_by false = unexpected

abbrev pub predict : Expected → Option TokenKind → Prediction
predict (token k) o = token_by (is k o)
predict name o = name_on o
predict formula o = opened (simple ∷ right_side ∷ conclusion ∷ [])
predict conclusion o = word_is (kind.Sign sign.Arrow) o (formula ∷ [])
predict right_side o = compared (comparison_of o)
predict simple o = signed (prefix_of o) (term ∷ more_terms ∷ [])
predict more_terms o = added (adding_of o)
predict term o = opened (factor ∷ more_factors ∷ [])
predict more_factors o = multiplied (multiplying_of o)
predict factor o = factor_on o
predict named o = named_by (is (kind.Sign sign.OpenParenthesis) o)
predict selectors o = selectors_on o [] (opened [])
predict more_formulas o = word_is (kind.Sign sign.Comma) o (formula ∷ more_formulas ∷ [])
predict scalar o = scalar_on o
predict constant o = signed (prefix_of o) (scalar ∷ [])
predict more_constants o = word_is (kind.Sign sign.Comma) o (constant ∷ more_constants ∷ [])
predict statement o = statement_on o
predict more_statements o = word_is (kind.Sign sign.Semicolon) o (statement ∷ more_statements ∷ [])
predict action o = selectors_on o (token (kind.Sign sign.Becomes) ∷ formula ∷ []) (behind_name o)
predict loop o = loop_on o
predict direction o = directed (direction_of o)
predict otherwise o = word_is (kind.Word word.Else) o (statement ∷ [])
predict arm o = opened_if (begins_constant o) (constant ∷ more_constants ∷ token (kind.Sign sign.Colon) ∷ statement ∷ [])
predict more_arms o = word_is (kind.Sign sign.Semicolon) o (arm ∷ more_arms ∷ [])
predict more_names o = word_is (kind.Sign sign.Comma) o (name ∷ more_names ∷ [])
predict type o = type_on o
predict range_part o = word_is (kind.Sign sign.Range) o (constant ∷ [])
predict more_types o = word_is (kind.Sign sign.Comma) o (type ∷ more_types ∷ [])
predict field o = opened_if (begins_name o) (name ∷ more_names ∷ token (kind.Sign sign.Colon) ∷ type ∷ [])
predict more_fields o = word_is (kind.Sign sign.Semicolon) o (field ∷ more_fields ∷ [])
predict more_consts o = name_begins o (const_parts (more_consts ∷ []))
predict const_part o = word_is (kind.Word word.Const) o (name ∷ const_parts (more_consts ∷ []))
predict more_typedefs o = name_begins o (typedef_parts (more_typedefs ∷ []))
predict type_part o = word_is (kind.Word word.Type) o (name ∷ typedef_parts (more_typedefs ∷ []))
predict more_vars o = name_begins o (vars_parts (more_vars ∷ []))
predict var_part o = word_is (kind.Word word.Var) o (name ∷ vars_parts (more_vars ∷ []))
predict more_symbols o = name_begins o (symbol_parts (more_symbols ∷ []))
predict declare_part o = word_is (kind.Word word.Declare) o (name ∷ symbol_parts (more_symbols ∷ []))
predict argument_part o = word_is (kind.Sign sign.OpenParenthesis) o (sort ∷ more_sorts ∷ token (kind.Sign sign.CloseParenthesis) ∷ [])
predict sort o = taken_if (is (kind.Sign sign.Hash) o) (name ∷ [])
predict more_sorts o = word_is (kind.Sign sign.Comma) o (sort ∷ more_sorts ∷ [])
predict group o = group_on o
predict more_groups o = word_is (kind.Sign sign.Semicolon) o (group ∷ more_groups ∷ [])
predict group_part o = word_is (kind.Sign sign.OpenParenthesis) o (group ∷ more_groups ∷ token (kind.Sign sign.CloseParenthesis) ∷ [])
predict result_part o = word_is (kind.Sign sign.Colon) o (name ∷ [])
predict heading o = heading_on o
predict global_group o = taken_if (is (kind.Word word.Var) o) (sort ∷ more_sorts ∷ [])
predict more_global_groups o = word_is (kind.Sign sign.Semicolon) o (global_group ∷ more_global_groups ∷ [])
predict global_part o = word_is (kind.Word word.Global) o (token (kind.Sign sign.OpenParenthesis) ∷ global_group ∷ more_global_groups ∷ token (kind.Sign sign.CloseParenthesis) ∷ token (kind.Sign sign.Semicolon) ∷ [])
predict more_starts o = word_is (kind.Sign sign.Comma) o (sort ∷ token (kind.Sign sign.Equal) ∷ name ∷ more_starts ∷ [])
predict initial_part o = word_is (kind.Word word.Initial) o (sort ∷ token (kind.Sign sign.Equal) ∷ name ∷ more_starts ∷ token (kind.Sign sign.Semicolon) ∷ [])
predict (condition_part k) o = word_is k o (formula ∷ token (kind.Sign sign.Semicolon) ∷ [])
predict (marks begun) o = marks_by begun (begins_heading o)
predict (mark_end begun) o = mark_end_by begun (is (kind.Word word.Forward) o)
predict file_part o = word_is (kind.Sign sign.OpenParenthesis) o (name ∷ more_names ∷ token (kind.Sign sign.CloseParenthesis) ∷ [])
predict more_rule_vars o = name_begins o (rule_vars_parts (more_rule_vars ∷ []))
predict rule_var_part o = word_is (kind.Word word.Var) o (name ∷ rule_vars_parts (more_rule_vars ∷ []))
predict (premise_part k) o = word_is k o (formula ∷ [])
predict rules o = rules_on o

-- ---- whole texts

abbrev pub program : List Expected
program =
    token (kind.Word word.Program) ∷ name ∷ file_part ∷ token (kind.Sign sign.Semicolon) ∷ const_part ∷ type_part ∷ var_part ∷ declare_part ∷ marks zero
    ∷ condition_part (kind.Word word.Entry) ∷ condition_part (kind.Word word.Exit) ∷ token (kind.Word word.Begin) ∷ block_parts (token (kind.Sign sign.Period) ∷ [])

abbrev pub rule_file : List Expected
rule_file = rule_var_part ∷ rules ∷ []

-- a formula text without the period that ends it, with which the formula could go on
abbrev pub formula_text : List Expected
formula_text = token (kind.Word word.Program) ∷ name ∷ token (kind.Sign sign.Semicolon) ∷ const_part ∷ type_part ∷ var_part ∷ declare_part ∷ token (kind.Word word.Assert) ∷ formula ∷ []
