-- The way over the tokens of a statement goes up by as many levels as the statement has.
use Rattle.std.proofs.Common.{◌≡◌, ℕ, suc, ◌-◌, List, [], ◌∷◌, Option, Some, None, refl, arith}
use Rattle.spv_tree.specs.declared.tokens.token.TokenKind.{TokenKind}
use Rattle.spv_tree.specs.declared.tokens.token.TokenKind.TheVariants as kind
use Rattle.spv_tree.specs.declared.tokens.token.Word.TheVariants as word
use Rattle.spv_tree.specs.declared.tokens.token.Sign.TheVariants as sign
use Rattle.spv_tree.specs.declared.syntax.lists.Several.{Several}
use Rattle.spv_tree.specs.declared.syntax.names.Constant.{Constant}
use Rattle.spv_tree.specs.declared.syntax.names.Scalar.{Scalar}
use Rattle.spv_tree.specs.declared.syntax.names.Scalar.TheVariants as scalar
use Rattle.spv_tree.specs.declared.syntax.operators.Direction.{Direction}
use Rattle.spv_tree.specs.declared.syntax.operators.Direction.TheVariants as direction
use Rattle.spv_tree.specs.syntax.Formulas.{Formula}
use Rattle.spv_tree.specs.syntax.Statements.{Statement, empty, assignment, call, creation, compound, conditional, selection, repetition, assertion, Otherwise, nothing_otherwise, otherwise, Block, block, MoreStatements, no_more_statements, more_statements, Arm, no_arm, arm, MoreArms, no_more_arms, more_arms, Loop, while_loop, repeat_loop, for_loop}
use Rattle.spv_tree.specs.syntax.Lists.{further}
use Rattle.spv_tree.specs.syntax.Members.{in_kinds}
use Rattle.spv_tree.specs.syntax.FormulaSpelling.{formula_spelling, name_kind}
use Rattle.spv_tree.specs.syntax.StatementSpelling.{arguments_spelling, arm_spelling, block_spelling, direction_kind, invariant_spelling, loop_spelling, more_arms_spelling, more_statements_spelling, otherwise_spelling, statement_spelling}
use Rattle.spv_tree.specs.syntax.TypeSpelling.{constant_spelling, scalar_kind}
use Rattle.spv_grammar.specs.reading.Depths.{formulas_depth, arguments_depth, invariant_depth, statement_depth, otherwise_depth, block_depth, more_statements_depth, arm_depth, more_arms_depth, loop_depth}
use Rattle.spv_grammar.specs.declared.nesting.effects.Effect.TheVariants.{Passes}
use Rattle.spv_grammar.specs.nesting.Effects.{effect_of}
use Rattle.spv_grammar.proofs.nesting.Climbing.{Climbs, ClimbsInside, climbs_none, shallower, climbs_both, climbs_past, climbs_counted, inside_none, inside_of, inside_both, inside_first, inside_shallower, inside_past, inside_more, inside_several, climbs_brackets}
use Rattle.spv_grammar.proofs.nesting.FormulaClimbs.{prefix_climbs, formula_climbs, designator_climbs}

scalar_passes : (s : Scalar) → effect_of (scalar_kind s) ≡ Passes
scalar_passes (scalar.Number n) = refl
scalar_passes (scalar.Name x) = refl

direction_passes : (d : Direction) → effect_of (direction_kind d) ≡ Passes
direction_passes direction.Up = refl
direction_passes direction.Down = refl

pub constant_climbs : (c : Constant) (n : ℕ) (others : List ℕ) (rest : List TokenKind) → Climbs n others (constant_spelling in_kinds c rest) rest 0
constant_climbs c n others rest =
    shallower 0 (climbs_both (prefix_climbs c.sign n others (scalar_kind c.value ∷ rest)) (λ m. climbs_past (scalar_kind c.value) (scalar_passes c.value) (climbs_none m others rest))) (omega arith)

formulas_climb : (fs : List Formula) (n outside : ℕ) (others : List ℕ) (rest : List TokenKind) → ClimbsInside n outside others (further (kind.Sign sign.Comma) (formula_spelling in_kinds) fs rest) rest (formulas_depth fs)
formulas_climb [] n outside others rest = inside_none n outside others rest
formulas_climb (f ∷ fs) n outside others rest =
    inside_more (kind.Sign sign.Comma) refl (inside_first (formula_climbs f 0 (outside ∷ others) (further (kind.Sign sign.Comma) (formula_spelling in_kinds) fs rest)) (λ m. formulas_climb fs m outside others rest))

arguments_climb : (arguments : Option (Several Formula)) (n : ℕ) (others : List ℕ) (rest : List TokenKind) → Climbs n others (arguments_spelling in_kinds arguments rest) rest (arguments_depth arguments)
arguments_climb None n others rest = climbs_none n others rest
arguments_climb (Some fs) n others rest =
    climbs_brackets (kind.Sign sign.OpenParenthesis) (kind.Sign sign.CloseParenthesis) refl refl (inside_first (formula_climbs fs.first 0 (n ∷ others) _) (λ m. formulas_climb fs.more m n others _))

invariant_climbs : (f : Option Formula) (n : ℕ) (others : List ℕ) (rest : List TokenKind) → Climbs n others (invariant_spelling in_kinds f rest) rest (invariant_depth f)
invariant_climbs None n others rest = climbs_none n others rest
invariant_climbs (Some f) n others rest = climbs_past (kind.Word word.Invariant) refl (formula_climbs f n others rest)

mutual
  pub statement_climbs : (s : Statement) (n : ℕ) (others : List ℕ) (rest : List TokenKind) → Climbs n others (statement_spelling in_kinds s rest) rest (statement_depth s)
  statement_climbs (empty line) n others rest = climbs_none n others rest
  statement_climbs (assignment line d f) n others rest =
      climbs_both (designator_climbs d n others _) (λ m. climbs_past (kind.Sign sign.Becomes) refl (formula_climbs f m others rest))
  statement_climbs (call line x arguments) n others rest = climbs_past (name_kind x) refl (arguments_climb arguments n others rest)
  statement_climbs (creation line d) n others rest =
      shallower _ (climbs_past (kind.Word word.New) refl (climbs_brackets (kind.Sign sign.OpenParenthesis) (kind.Sign sign.CloseParenthesis) refl refl (inside_of (designator_climbs d 0 (n ∷ others) _)))) (omega arith)
  statement_climbs (compound line b) n others rest = block_climbs b n others rest
  statement_climbs (conditional line f s other) n others rest =
      shallower _ (climbs_counted (kind.Word word.If) refl (climbs_both (formula_climbs f (suc n) others _) (λ m. climbs_past (kind.Word word.Then) refl (climbs_both (statement_climbs s m others (otherwise_spelling in_kinds other rest)) (λ l. otherwise_climbs other l others rest))))) (omega arith)
  statement_climbs (selection line f first more) n others rest =
      shallower _ (climbs_brackets (kind.Word word.Case) (kind.Word word.End) refl refl (inside_first (formula_climbs f 0 (n ∷ others) _) (λ m. inside_past (kind.Word word.Of) refl (inside_both (arm_climbs first m n others (more_arms_spelling in_kinds more _)) (λ l. more_arms_climb more l n others _))))) (omega arith)
  statement_climbs (repetition line invariant l) n others rest = climbs_both (invariant_climbs invariant n others (loop_spelling in_kinds l rest)) (λ m. loop_climbs l m others rest)
  statement_climbs (assertion line f) n others rest = climbs_past (kind.Word word.Assert) refl (formula_climbs f n others rest)

  -- behind an IF, which is counted
  otherwise_climbs : (o : Otherwise) (n : ℕ) (others : List ℕ) (rest : List TokenKind) → Climbs n others (otherwise_spelling in_kinds o rest) rest (otherwise_depth o - 1)
  otherwise_climbs nothing_otherwise n others rest = shallower _ (climbs_none n others rest) (omega arith)
  otherwise_climbs (otherwise s) n others rest = shallower _ (climbs_past (kind.Word word.Else) refl (statement_climbs s n others rest)) (omega arith)

  pub block_climbs : (b : Block) (n : ℕ) (others : List ℕ) (rest : List TokenKind) → Climbs n others (block_spelling in_kinds b rest) rest (block_depth b)
  block_climbs (block line first more) n others rest =
      climbs_brackets (kind.Word word.Begin) (kind.Word word.End) refl refl (inside_first (statement_climbs first 0 (n ∷ others) _) (λ m. more_statements_climb more m n others _))

  more_statements_climb : (ss : MoreStatements) (n outside : ℕ) (others : List ℕ) (rest : List TokenKind) → ClimbsInside n outside others (more_statements_spelling in_kinds ss rest) rest (more_statements_depth ss)
  more_statements_climb no_more_statements n outside others rest = inside_none n outside others rest
  more_statements_climb (more_statements s more) n outside others rest =
      inside_more (kind.Sign sign.Semicolon) refl (inside_first (statement_climbs s 0 (outside ∷ others) (more_statements_spelling in_kinds more rest)) (λ m. more_statements_climb more m outside others rest))

  arm_climbs : (a : Arm) (n outside : ℕ) (others : List ℕ) (rest : List TokenKind) → ClimbsInside n outside others (arm_spelling in_kinds a rest) rest (arm_depth a)
  arm_climbs (no_arm line) n outside others rest = inside_none n outside others rest
  arm_climbs (arm line constants s) n outside others rest =
      inside_shallower _ (inside_both (inside_several (constant_spelling in_kinds) (kind.Sign sign.Comma) refl constant_climbs constants n outside others _) (λ m. inside_past (kind.Sign sign.Colon) refl (inside_of (statement_climbs s m (outside ∷ others) rest)))) (omega arith)

  more_arms_climb : (arms : MoreArms) (n outside : ℕ) (others : List ℕ) (rest : List TokenKind) → ClimbsInside n outside others (more_arms_spelling in_kinds arms rest) rest (more_arms_depth arms)
  more_arms_climb no_more_arms n outside others rest = inside_none n outside others rest
  more_arms_climb (more_arms a more) n outside others rest =
      inside_more (kind.Sign sign.Semicolon) refl (inside_both (arm_climbs a 0 outside others (more_arms_spelling in_kinds more rest)) (λ m. more_arms_climb more m outside others rest))

  loop_climbs : (l : Loop) (n : ℕ) (others : List ℕ) (rest : List TokenKind) → Climbs n others (loop_spelling in_kinds l rest) rest (loop_depth l)
  loop_climbs (while_loop line f s) n others rest =
      shallower _ (climbs_counted (kind.Word word.While) refl (climbs_both (formula_climbs f (suc n) others _) (λ m. climbs_past (kind.Word word.Do) refl (statement_climbs s m others rest)))) (omega arith)
  loop_climbs (repeat_loop line first more f) n others rest =
      shallower _ (climbs_both (climbs_brackets (kind.Word word.Repeat) (kind.Word word.Until) refl refl (inside_first (statement_climbs first 0 (n ∷ others) _) (λ m. more_statements_climb more m n others _))) (λ m. formula_climbs f m others rest)) (omega arith)
  loop_climbs (for_loop line x from towards to s) n others rest =
      shallower _ (climbs_counted (kind.Word word.For) refl (climbs_past (name_kind x) refl (climbs_past (kind.Sign sign.Becomes) refl (climbs_both (formula_climbs from (suc n) others _) (λ m. climbs_past (direction_kind towards) (direction_passes towards) (climbs_both (formula_climbs to m others _) (λ l. climbs_past (kind.Word word.Do) refl (statement_climbs s l others rest)))))))) (omega arith)
