-- A statement has at least as many tokens as levels.
use Rattle.std.proofs.Common.{suc, ◌+◌, ◌≤◌, List, [], ◌∷◌, Option, Some, None, length, arith}
use Rattle.spv_tree.specs.declared.tokens.token.TokenKind.{TokenKind}
use Rattle.spv_tree.specs.declared.tokens.token.TokenKind.TheVariants as kind
use Rattle.spv_tree.specs.declared.tokens.token.Word.TheVariants as word
use Rattle.spv_tree.specs.declared.tokens.token.Sign.TheVariants as sign
use Rattle.spv_tree.specs.declared.syntax.lists.Several.{Several}
use Rattle.spv_tree.specs.declared.syntax.names.Constant.{Constant}
use Rattle.spv_tree.specs.syntax.Formulas.{Formula, Designator, designator}
use Rattle.spv_tree.specs.syntax.Statements.{Statement, empty, assignment, call, creation, compound, conditional, selection, repetition, assertion, Otherwise, nothing_otherwise, otherwise, Block, block, MoreStatements, no_more_statements, more_statements, Arm, no_arm, arm, MoreArms, no_more_arms, more_arms, Loop, while_loop, repeat_loop, for_loop}
use Rattle.spv_tree.specs.syntax.Lists.{further}
use Rattle.spv_tree.specs.syntax.Members.{in_kinds}
use Rattle.spv_tree.specs.syntax.FormulaSpelling.{designator_spelling, formula_spelling}
use Rattle.spv_tree.specs.syntax.StatementSpelling.{arguments_spelling, arm_spelling, block_spelling, constants_spelling, direction_kind, invariant_spelling, loop_spelling, more_arms_spelling, more_statements_spelling, otherwise_spelling, statement_spelling}
use Rattle.spv_tree.specs.syntax.TypeSpelling.{constant_spelling, scalar_kind}
use Rattle.spv_grammar.specs.reading.Depths.{designator_depth, formulas_depth, arguments_depth, invariant_depth, statement_depth, otherwise_depth, block_depth, more_statements_depth, arm_depth, more_arms_depth, loop_depth}
use Rattle.spv_grammar.proofs.reading.Lengths.{prefix_length, formula_length, selectors_length}

pub constant_length : (c : Constant) (rest : List TokenKind) → suc (length rest) ≤ length (constant_spelling in_kinds c rest)
constant_length c rest = prefix_length c.sign (scalar_kind c.value ∷ rest)

further_constants : (cs : List Constant) (rest : List TokenKind) → length rest ≤ length (further (kind.Sign sign.Comma) (constant_spelling in_kinds) cs rest)
further_constants [] rest = omega arith
further_constants (c ∷ cs) rest = omega (arith, constant_length c (further (kind.Sign sign.Comma) (constant_spelling in_kinds) cs rest), further_constants cs rest)

constants_length : (cs : Several Constant) (rest : List TokenKind) → suc (length rest) ≤ length (constants_spelling in_kinds cs rest)
constants_length cs rest = omega (arith, constant_length cs.first (further (kind.Sign sign.Comma) (constant_spelling in_kinds) cs.more rest), further_constants cs.more rest)

further_formulas : (fs : List Formula) (rest : List TokenKind) → formulas_depth fs + length rest ≤ length (further (kind.Sign sign.Comma) (formula_spelling in_kinds) fs rest)
further_formulas [] rest = omega arith
further_formulas (f ∷ fs) rest = omega (arith, formula_length f (further (kind.Sign sign.Comma) (formula_spelling in_kinds) fs rest), further_formulas fs rest)

arguments_length : (fs : Option (Several Formula)) (rest : List TokenKind) → arguments_depth fs + length rest ≤ length (arguments_spelling in_kinds fs rest)
arguments_length None rest = omega arith
arguments_length (Some fs) rest =
    omega (arith, formula_length fs.first (further (kind.Sign sign.Comma) (formula_spelling in_kinds) fs.more (kind.Sign sign.CloseParenthesis ∷ rest)), further_formulas fs.more (kind.Sign sign.CloseParenthesis ∷ rest))

invariant_length : (f : Option Formula) (rest : List TokenKind) → invariant_depth f + length rest ≤ length (invariant_spelling in_kinds f rest)
invariant_length None rest = omega arith
invariant_length (Some f) rest = omega (arith, formula_length f rest)

pub designator_length : (d : Designator) (rest : List TokenKind) → suc (designator_depth d + length rest) ≤ length (designator_spelling in_kinds d rest)
designator_length (designator line x behind) rest = omega (arith, selectors_length behind rest)

mutual
  pub statement_length : (t : Statement) (rest : List TokenKind) → statement_depth t + length rest ≤ length (statement_spelling in_kinds t rest)
  statement_length (empty line) rest = omega arith
  statement_length (assignment line d f) rest = omega (arith, designator_length d (kind.Sign sign.Becomes ∷ formula_spelling in_kinds f rest), formula_length f rest)
  statement_length (call line x arguments) rest = omega (arith, arguments_length arguments rest)
  statement_length (creation line d) rest = omega (arith, designator_length d (kind.Sign sign.CloseParenthesis ∷ rest))
  statement_length (compound line b) rest = block_length b rest
  statement_length (conditional line f t other) rest =
      omega (arith, formula_length f (kind.Word word.Then ∷ statement_spelling in_kinds t (otherwise_spelling in_kinds other rest)), statement_length t (otherwise_spelling in_kinds other rest), otherwise_length other rest)
  statement_length (selection line f a more) rest =
      omega (arith, formula_length f (kind.Word word.Of ∷ arm_spelling in_kinds a (more_arms_spelling in_kinds more (kind.Word word.End ∷ rest))), arm_length a (more_arms_spelling in_kinds more (kind.Word word.End ∷ rest)), more_arms_length more (kind.Word word.End ∷ rest))
  statement_length (repetition line invariant l) rest = omega (arith, invariant_length invariant (loop_spelling in_kinds l rest), loop_length l rest)
  statement_length (assertion line f) rest = omega (arith, formula_length f rest)

  otherwise_length : (other : Otherwise) (rest : List TokenKind) → otherwise_depth other + length rest ≤ length (otherwise_spelling in_kinds other rest)
  otherwise_length nothing_otherwise rest = omega arith
  otherwise_length (otherwise t) rest = omega (arith, statement_length t rest)

  pub block_length : (b : Block) (rest : List TokenKind) → block_depth b + length rest ≤ length (block_spelling in_kinds b rest)
  block_length (block line t more) rest =
      omega (arith, statement_length t (more_statements_spelling in_kinds more (kind.Word word.End ∷ rest)), more_statements_length more (kind.Word word.End ∷ rest))

  more_statements_length : (ts : MoreStatements) (rest : List TokenKind) → more_statements_depth ts + length rest ≤ length (more_statements_spelling in_kinds ts rest)
  more_statements_length no_more_statements rest = omega arith
  more_statements_length (more_statements t more) rest = omega (arith, statement_length t (more_statements_spelling in_kinds more rest), more_statements_length more rest)

  arm_length : (a : Arm) (rest : List TokenKind) → arm_depth a + length rest ≤ length (arm_spelling in_kinds a rest)
  arm_length (no_arm line) rest = omega arith
  arm_length (arm line cs t) rest = omega (arith, constants_length cs (kind.Sign sign.Colon ∷ statement_spelling in_kinds t rest), statement_length t rest)

  more_arms_length : (ts : MoreArms) (rest : List TokenKind) → more_arms_depth ts + length rest ≤ length (more_arms_spelling in_kinds ts rest)
  more_arms_length no_more_arms rest = omega arith
  more_arms_length (more_arms a more) rest = omega (arith, arm_length a (more_arms_spelling in_kinds more rest), more_arms_length more rest)

  loop_length : (l : Loop) (rest : List TokenKind) → loop_depth l + length rest ≤ length (loop_spelling in_kinds l rest)
  loop_length (while_loop line f t) rest = omega (arith, formula_length f (kind.Word word.Do ∷ statement_spelling in_kinds t rest), statement_length t rest)
  loop_length (repeat_loop line t more f) rest =
      omega (arith, statement_length t (more_statements_spelling in_kinds more (kind.Word word.Until ∷ formula_spelling in_kinds f rest)), more_statements_length more (kind.Word word.Until ∷ formula_spelling in_kinds f rest), formula_length f rest)
  loop_length (for_loop line x from towards to t) rest =
      omega (arith, formula_length from (direction_kind towards ∷ formula_spelling in_kinds to (kind.Word word.Do ∷ statement_spelling in_kinds t rest)), formula_length to (kind.Word word.Do ∷ statement_spelling in_kinds t rest), statement_length t rest)
