-- What stands behind a part of a statement does not go on with it.
use Rattle.std.proofs.Common.{◌≡◌, Bool, true, false, ◌&&◌, not, List, ◌∷◌, Option, Some, None, refl, ap}
use Rattle.std.proofs.lemmas.Bool.{false≢true}
use Rattle.spv_tree.specs.declared.tokens.token.TokenKind.{TokenKind}
use Rattle.spv_tree.specs.declared.tokens.token.TokenKind.TheVariants as kind
use Rattle.spv_tree.specs.declared.tokens.token.Word.TheVariants as word
use Rattle.spv_tree.specs.declared.tokens.token.Sign.TheVariants as sign
use Rattle.spv_tree.specs.declared.syntax.names.Scalar.{Scalar}
use Rattle.spv_tree.specs.declared.syntax.names.Scalar.TheVariants as scalar
use Rattle.spv_tree.specs.declared.syntax.operators.PlusOrMinus.{PlusOrMinus}
use Rattle.spv_tree.specs.declared.syntax.operators.PlusOrMinus.TheVariants as prefix
use Rattle.spv_tree.specs.declared.syntax.operators.Direction.{Direction}
use Rattle.spv_tree.specs.declared.syntax.operators.Direction.TheVariants as direction
use Rattle.spv_tree.specs.syntax.Members.{in_kinds}
use Rattle.spv_tree.specs.syntax.FormulaSpelling.{prefix_spelling}
use Rattle.spv_tree.specs.syntax.StatementSpelling.{direction_kind, more_arms_spelling, more_statements_spelling, otherwise_spelling}
use Rattle.spv_tree.specs.syntax.TypeSpelling.{scalar_kind}
use Rattle.spv_tree.specs.syntax.Statements.{Statement, Otherwise, nothing_otherwise, otherwise, MoreStatements, no_more_statements, more_statements, Arm, no_arm, arm, MoreArms, no_more_arms, more_arms}
use Rattle.spv_tree.specs.syntax.Reads.{ends_open, may_end}
use Rattle.spv_grammar.specs.reading.Readers.{first, is}
use Rattle.spv_grammar.specs.reading.FormulaReaders.{prefix_of}
use Rattle.spv_grammar.specs.reading.StatementReaders.{begins_constant, direction_of}
use Rattle.spv_grammar.specs.reading.Continuing.{continues_formula, continues_action, continues_statement, continues_statements, continues_arm, continues_arms, continues_otherwise}
use Rattle.spv_logic.proofs.list.Tests.{left_false, right_false, both_false, and_false}

pub direction_back : (d : Direction) → direction_of (Some (direction_kind d)) ≡ Some d
direction_back direction.Up = refl
direction_back direction.Down = refl

pub direction_ends : (d : Direction) → continues_formula (Some (direction_kind d)) ≡ false
direction_ends direction.Up = refl
direction_ends direction.Down = refl

pub no_sign : (x : Scalar) → prefix_of (Some (scalar_kind x)) ≡ None
no_sign (scalar.Number n) = refl
no_sign (scalar.Name x) = refl

pub constant_begins : (s : Option PlusOrMinus) (x : Scalar) (rest : List TokenKind) → begins_constant (first (prefix_spelling in_kinds s (scalar_kind x ∷ rest))) ≡ true
constant_begins None (scalar.Number n) rest = refl
constant_begins None (scalar.Name x) rest = refl
constant_begins (Some prefix.Plus) x rest = refl
constant_begins (Some prefix.Minus) x rest = refl

abbrev Else : TokenKind
Else = kind.Word word.Else

pub statement_ends : (s : Statement) (o : Option TokenKind) → continues_action o ≡ false → is Else o ≡ false → continues_statement s o ≡ false
statement_ends s o e f = both_false _ _ e (and_false (ends_open s) _ f)

pub in_list_ends : (s : Statement) (o : Option TokenKind) → continues_statements o ≡ false → continues_statement s o ≡ false
in_list_ends s o e =
    let f = right_false (is (kind.Sign sign.Semicolon) o) _ e in
    statement_ends s o (right_false (is Else o) _ f) (left_false (is Else o) _ f)

pub more_statements_ends : (s : Statement) (more : MoreStatements) (spelled : List TokenKind) → continues_statements (first spelled) ≡ false → continues_statement s (first (more_statements_spelling in_kinds more spelled)) ≡ false
more_statements_ends s no_more_statements spelled e = in_list_ends s (first spelled) e
more_statements_ends s (more_statements t more) spelled e = statement_ends s (Some (kind.Sign sign.Semicolon)) refl refl

arm_ends : (a : Arm) (o : Option TokenKind) → continues_arms o ≡ false → continues_arm a o ≡ false
arm_ends (no_arm line) o e = left_false (begins_constant o) _ e
arm_ends (arm line constants s) o e = in_list_ends s o (right_false (begins_constant o) _ e)

arm_ends_at : (a : Arm) → continues_arm a (Some (kind.Sign sign.Semicolon)) ≡ false
arm_ends_at (no_arm line) = refl
arm_ends_at (arm line constants s) = statement_ends s (Some (kind.Sign sign.Semicolon)) refl refl

pub more_arms_ends : (a : Arm) (more : MoreArms) (spelled : List TokenKind) → continues_arms (first spelled) ≡ false → continues_arm a (first (more_arms_spelling in_kinds more spelled)) ≡ false
more_arms_ends a no_more_arms spelled e = arm_ends a (first spelled) e
more_arms_ends a (more_arms b more) spelled e = arm_ends_at a

not_true : (b : Bool) → not b ≡ true → b ≡ false
not_true true e = absurd (false≢true e)
not_true false e = refl

-- the THEN part ends before ELSE, and before what stands behind the IF
pub then_ends : (s : Statement) (other : Otherwise) (spelled : List TokenKind) → may_end s other ≡ true → continues_otherwise other (first spelled) ≡ false → continues_statement s (first (otherwise_spelling in_kinds other spelled)) ≡ false
then_ends s nothing_otherwise spelled m e = statement_ends s (first spelled) (left_false _ _ e) (right_false (continues_action (first spelled)) _ e)
then_ends s (otherwise t) spelled m e = ap (λ b. b && true) (not_true (ends_open s) m)
