-- What is expected in place of a part can be completed as it could.
use Rattle.std.proofs.Common.{◌≡◌, ℕ, zero, suc, Bool, true, false, ◌&&◌, ◌||◌, not, if◌then◌else◌, List, [], ◌∷◌, Option, Some, None, refl}
use Rattle.spv_logic.proofs.list.Tests.{right_false}
use Rattle.spv_tree.specs.declared.tokens.token.TokenKind.{TokenKind}
use Rattle.spv_tree.specs.declared.tokens.token.TokenKind.TheVariants as kind
use Rattle.spv_tree.specs.declared.tokens.token.Word.TheVariants as word
use Rattle.spv_tree.specs.declared.tokens.token.Sign.TheVariants as sign
use Rattle.spv_tree.specs.declared.syntax.operators.PlusOrMinus.{PlusOrMinus}
use Rattle.spv_tree.specs.declared.syntax.operators.Comparison.{Comparison}
use Rattle.spv_tree.specs.declared.syntax.operators.Adding.{Adding}
use Rattle.spv_tree.specs.declared.syntax.operators.Multiplying.{Multiplying}
use Rattle.spv_tree.specs.declared.syntax.operators.Direction.{Direction}
use Rattle.spv_grammar.specs.reading.Readers.{is}
use Rattle.spv_grammar.specs.reading.FormulaReaders.{prefix_of, comparison_of, adding_of, multiplying_of}
use Rattle.spv_grammar.specs.reading.StatementReaders.{begins_constant, direction_of}
use Rattle.spv_grammar.specs.reading.TypeReaders.{begins_name}
use Rattle.spv_grammar.specs.reading.RoutineReaders.{begins_heading}
use Rattle.spv_grammar.specs.reading.Continuing.{continues_selectors, continues_factor, continues_term, continues_simple, continues_relation, continues_formula, continues_statements, continues_action, continues_arms, begins_statement, continues_type}
use Rattle.spv_grammar.specs.expected_tokens.Expected.{Expected, Prediction, word_is, signed, compared, added, multiplied, directed, factor_on, named_by, selectors_on, behind_name, scalar_on, name_on, statement_on, loop_on, type_on, name_begins, opened_if, taken_if, group_on, heading_on, marks_by, mark_end_by, rules_on, token_by, predict}
use Rattle.spv_grammar.specs.expected_tokens.Expected as expected
use Rattle.spv_grammar.proofs.expected_tokens.Completions.{continues, fits_before, fits_prediction}

-- ---- tests

one : {b : Bool} → b ≡ false → (not b && true) ≡ true
one {b = true} h = absurd (cc (h))
one {b = false} h = refl

two : {a b : Bool} → a ≡ false → b ≡ false → (not a && (not b && true)) ≡ true
two {a = true} g h = absurd (cc (g))
two {a = false} {b = true} g h = absurd (cc (h))
two {a = false} {b = false} g h = refl

three : {a b c : Bool} → a ≡ false → b ≡ false → c ≡ false → (not a && (not b && (not c && true))) ≡ true
three {a = true} e g h = absurd (cc (e))
three {a = false} e g h = two g h

-- ---- which tokens go on with parts of a part

pub relation_ends : (o : Option TokenKind) → continues_formula o ≡ false → continues_relation o ≡ false
relation_ends o h = right_false _ _ h

pub simple_ends : (o : Option TokenKind) → continues_relation o ≡ false → continues_simple o ≡ false
simple_ends o h = right_false _ _ h

pub term_ends : (o : Option TokenKind) → continues_simple o ≡ false → continues_term o ≡ false
term_ends o h = right_false _ _ h

pub factor_ends : (o : Option TokenKind) → continues_term o ≡ false → continues_factor o ≡ false
factor_ends o h = right_false _ _ h

pub selectors_end : (o : Option TokenKind) → continues_factor o ≡ false → continues_selectors o ≡ false
selectors_end o h = right_false _ _ h

-- a formula at the end of a statement
pub formula_ends : (o : Option TokenKind) → continues_arms o ≡ false → continues_formula o ≡ false
formula_ends o h =
    let statements : continues_statements o ≡ false = right_false (begins_constant o) (continues_statements o) h in
    let others : (is (kind.Word word.Else) o || continues_action o) ≡ false = right_false (is (kind.Sign sign.Semicolon) o) _ statements in
    let action : continues_action o ≡ false = right_false (is (kind.Word word.Else) o) (continues_action o) others in
    let behind : (is (kind.Sign sign.Becomes) o || continues_formula o) ≡ false = right_false (begins_statement o) _ action in
    right_false (is (kind.Sign sign.Becomes) o) (continues_formula o) behind

-- ---- predictions

word_fits : (k : TokenKind) (o f : Option TokenKind) (parts : List Expected) → fits_before f parts ≡ true → fits_prediction f (word_is k o parts) ≡ true
word_fits k o f parts h = by_test (is k o)
  where
    by_test : (b : Bool) → fits_prediction f (if b then expected.taken parts else expected.opened []) ≡ true
    by_test true = h
    by_test false = refl

signed_fits : (o : Option PlusOrMinus) (f : Option TokenKind) (parts : List Expected) → fits_before f parts ≡ true → fits_prediction f (signed o parts) ≡ true
signed_fits None f parts h = h
signed_fits (Some s) f parts h = h

compared_fits : (o : Option Comparison) (f : Option TokenKind) → continues_relation f ≡ false → fits_prediction f (compared o) ≡ true
compared_fits None f h = refl
compared_fits (Some c) f h = one (simple_ends f h)

added_fits : (o : Option Adding) (f : Option TokenKind) → continues_simple f ≡ false → fits_prediction f (added o) ≡ true
added_fits None f h = refl
added_fits (Some a) f h = two (term_ends f h) h

multiplied_fits : (o : Option Multiplying) (f : Option TokenKind) → continues_term f ≡ false → fits_prediction f (multiplied o) ≡ true
multiplied_fits None f h = refl
multiplied_fits (Some m) f h = two (factor_ends f h) h

directed_fits : (o : Option Direction) (f : Option TokenKind) → fits_prediction f (directed o) ≡ true
directed_fits None f = refl
directed_fits (Some d) f = refl

factor_fits : (o f : Option TokenKind) → continues_factor f ≡ false → fits_prediction f (factor_on o) ≡ true
factor_fits (Some (kind.Word word.Not)) f h = one h
factor_fits (Some (kind.Name x)) f h = one h
factor_fits (Some (kind.Sign sign.Hash)) f h = refl
factor_fits o f h = refl

named_fits : (b : Bool) (f : Option TokenKind) → continues_factor f ≡ false → fits_prediction f (named_by b) ≡ true
named_fits true f h = one (selectors_end f h)
named_fits false f h = one (selectors_end f h)

selectors_fit : (o f : Option TokenKind) → continues_selectors f ≡ false → fits_prediction f (selectors_on o [] (expected.opened [])) ≡ true
selectors_fit (Some (kind.Sign sign.OpenBracket)) f h = one h
selectors_fit (Some (kind.Sign sign.Period)) f h = one h
selectors_fit (Some (kind.Sign sign.Caret)) f h = one h
selectors_fit o f h = refl

action_fits : (o f : Option TokenKind) → continues_formula f ≡ false → fits_prediction f (selectors_on o (expected.token (kind.Sign sign.Becomes) ∷ expected.formula ∷ []) (behind_name o)) ≡ true
action_fits (Some (kind.Sign sign.OpenBracket)) f h = one h
action_fits (Some (kind.Sign sign.Period)) f h = one h
action_fits (Some (kind.Sign sign.Caret)) f h = one h
action_fits (Some (kind.Sign sign.Becomes)) f h = one h
action_fits o f h = refl

scalar_fits : (o f : Option TokenKind) → fits_prediction f (scalar_on o) ≡ true
scalar_fits (Some (kind.Number n)) f = refl
scalar_fits (Some (kind.Name x)) f = refl
scalar_fits o f = refl

name_fits : (o f : Option TokenKind) → fits_prediction f (name_on o) ≡ true
name_fits (Some (kind.Name x)) f = refl
name_fits o f = refl

statement_fits : (o f : Option TokenKind) → continues_arms f ≡ false → fits_prediction f (statement_on o) ≡ true
statement_fits (Some (kind.Name x)) f h = one h
statement_fits (Some (kind.Word word.If)) f h = two h h
statement_fits (Some (kind.Word word.Invariant)) f h = one h
statement_fits (Some (kind.Word word.While)) f h = one h
statement_fits (Some (kind.Word word.Repeat)) f h = one (formula_ends f h)
statement_fits (Some (kind.Word word.For)) f h = one h
statement_fits (Some (kind.Word word.Assert)) f h = one (formula_ends f h)
statement_fits o f h = refl

loop_fits : (o f : Option TokenKind) → continues_arms f ≡ false → fits_prediction f (loop_on o) ≡ true
loop_fits (Some (kind.Word word.While)) f h = one h
loop_fits (Some (kind.Word word.Repeat)) f h = one (formula_ends f h)
loop_fits (Some (kind.Word word.For)) f h = one h
loop_fits o f h = refl

type_fits : (o f : Option TokenKind) → continues_type f ≡ false → fits_prediction f (type_on o) ≡ true
type_fits (Some (kind.Name x)) f h = one h
type_fits (Some (kind.Word word.Array)) f h = one h
type_fits (Some (kind.Sign sign.Caret)) f h = refl
type_fits o f h = refl

begins_fit : (o f : Option TokenKind) (parts : List Expected) → fits_before f parts ≡ true → fits_prediction f (name_begins o parts) ≡ true
begins_fit (Some (kind.Name x)) f parts h = h
begins_fit o f parts h = refl

opened_fit : (b : Bool) (f : Option TokenKind) (parts : List Expected) → fits_before f parts ≡ true → fits_prediction f (opened_if b parts) ≡ true
opened_fit true f parts h = h
opened_fit false f parts h = refl

taken_fit : (b : Bool) (f : Option TokenKind) (parts : List Expected) → fits_before f parts ≡ true → fits_prediction f (taken_if b parts) ≡ true
taken_fit true f parts h = h
taken_fit false f parts h = h

group_fits : (o f : Option TokenKind) → is (kind.Sign sign.Comma) f ≡ false → fits_prediction f (group_on o) ≡ true
group_fits (Some (kind.Word word.Procedure)) f h = one h
group_fits o f h = refl

heading_fits : (o f : Option TokenKind) → continues expected.heading f ≡ false → fits_prediction f (heading_on o) ≡ true
heading_fits (Some (kind.Word word.Procedure)) f h = one h
heading_fits (Some (kind.Word word.Function)) f h = two h h
heading_fits o f h = refl

marks_fit : (begun : ℕ) (b : Bool) (f : Option TokenKind) → begins_heading f ≡ false → fits_prediction f (marks_by begun b) ≡ true
marks_fit begun true f h = one h
marks_fit zero false f h = refl
marks_fit (suc begun) false f h = one h

mark_end_fits : (begun : ℕ) (b : Bool) (f : Option TokenKind) → begins_heading f ≡ false → fits_prediction f (mark_end_by begun b) ≡ true
mark_end_fits begun true f h = one h
mark_end_fits begun false f h = one h

rules_fit : (o f : Option TokenKind) → continues expected.rules f ≡ false → fits_prediction f (rules_on o) ≡ true
rules_fit (Some (kind.Word word.Replace)) f h = one h
rules_fit (Some (kind.Word word.Infer)) f h = one h
rules_fit o f h = refl

token_fits : (b : Bool) (f : Option TokenKind) → fits_prediction f (token_by b) ≡ true
token_fits true f = refl
token_fits false f = refl

pub prediction_fits : (p : Expected) (o f : Option TokenKind) → continues p f ≡ false → fits_prediction f (predict p o) ≡ true
prediction_fits (expected.token k) o f h = token_fits (is k o) f
prediction_fits expected.name o f h = name_fits o f
prediction_fits expected.formula o f h = three (simple_ends f (relation_ends f h)) (relation_ends f h) h
prediction_fits expected.conclusion o f h = word_fits _ o f _ (one h)
prediction_fits expected.right_side o f h = compared_fits (comparison_of o) f h
prediction_fits expected.simple o f h = signed_fits (prefix_of o) f _ (two (term_ends f h) h)
prediction_fits expected.more_terms o f h = added_fits (adding_of o) f h
prediction_fits expected.term o f h = two (factor_ends f h) h
prediction_fits expected.more_factors o f h = multiplied_fits (multiplying_of o) f h
prediction_fits expected.factor o f h = factor_fits o f h
prediction_fits expected.named o f h = named_fits (is (kind.Sign sign.OpenParenthesis) o) f h
prediction_fits expected.selectors o f h = selectors_fit o f h
prediction_fits expected.more_formulas o f h = word_fits _ o f _ (two (right_false (is (kind.Sign sign.Comma) f) (continues_formula f) h) h)
prediction_fits expected.scalar o f h = scalar_fits o f
prediction_fits expected.constant o f h = signed_fits (prefix_of o) f _ refl
prediction_fits expected.more_constants o f h = word_fits _ o f _ (one h)
prediction_fits expected.statement o f h = statement_fits o f h
prediction_fits expected.more_statements o f h = word_fits _ o f _ (two h h)
prediction_fits expected.action o f h = action_fits o f (formula_ends f h)
prediction_fits expected.loop o f h = loop_fits o f h
prediction_fits expected.direction o f h = directed_fits (direction_of o) f
prediction_fits expected.otherwise o f h = word_fits _ o f _ (one h)
prediction_fits expected.arm o f h = opened_fit (begins_constant o) f _ (one h)
prediction_fits expected.more_arms o f h = word_fits _ o f _ (two h h)
prediction_fits expected.more_names o f h = word_fits _ o f _ (one h)
prediction_fits expected.type o f h = type_fits o f h
prediction_fits expected.range_part o f h = word_fits _ o f _ refl
prediction_fits expected.more_types o f h = word_fits _ o f _ (two (right_false (is (kind.Sign sign.Comma) f) (continues_type f) h) h)
prediction_fits expected.field o f h = opened_fit (begins_name o) f _ (one (right_false (begins_name f) (continues_type f) (right_false (is (kind.Sign sign.Semicolon) f) _ h)))
prediction_fits expected.more_fields o f h = word_fits _ o f _ (two h h)
prediction_fits expected.more_consts o f h = begins_fit o f _ (one h)
prediction_fits expected.const_part o f h = word_fits _ o f _ (one h)
prediction_fits expected.more_typedefs o f h = begins_fit o f _ (one h)
prediction_fits expected.type_part o f h = word_fits _ o f _ (one h)
prediction_fits expected.more_vars o f h = begins_fit o f _ (one h)
prediction_fits expected.var_part o f h = word_fits _ o f _ (one h)
prediction_fits expected.more_symbols o f h = begins_fit o f _ (one h)
prediction_fits expected.declare_part o f h = word_fits _ o f _ (one h)
prediction_fits expected.argument_part o f h = word_fits _ o f _ refl
prediction_fits expected.sort o f h = taken_fit (is (kind.Sign sign.Hash) o) f _ refl
prediction_fits expected.more_sorts o f h = word_fits _ o f _ (one h)
prediction_fits expected.group o f h = group_fits o f h
prediction_fits expected.more_groups o f h = word_fits _ o f _ (two (right_false (is (kind.Sign sign.Semicolon) f) _ h) h)
prediction_fits expected.group_part o f h = word_fits _ o f _ refl
prediction_fits expected.result_part o f h = word_fits _ o f _ refl
prediction_fits expected.heading o f h = heading_fits o f h
prediction_fits expected.global_group o f h = taken_fit (is (kind.Word word.Var) o) f _ (one h)
prediction_fits expected.more_global_groups o f h = word_fits _ o f _ (two (right_false (is (kind.Sign sign.Semicolon) f) _ h) h)
prediction_fits expected.global_part o f h = word_fits _ o f _ refl
prediction_fits expected.more_starts o f h = word_fits _ o f _ (one h)
prediction_fits expected.initial_part o f h = word_fits _ o f _ refl
prediction_fits (expected.condition_part k) o f h = word_fits _ o f _ refl
prediction_fits (expected.marks begun) o f h = marks_fit begun (begins_heading o) f h
prediction_fits (expected.mark_end begun) o f h = mark_end_fits begun (is (kind.Word word.Forward) o) f h
prediction_fits expected.file_part o f h = word_fits _ o f _ refl
prediction_fits expected.more_rule_vars o f h = begins_fit o f _ (one h)
prediction_fits expected.rule_var_part o f h = word_fits _ o f _ (one h)
prediction_fits (expected.premise_part k) o f h = word_fits _ o f _ (one (right_false (is k f) (continues_formula f) h))
prediction_fits expected.rules o f h = rules_fit o f h
