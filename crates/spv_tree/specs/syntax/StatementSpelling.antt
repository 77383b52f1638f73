-- How statements are spelled, in front of what follows.
use Rattle.std.specs.Prelude.{List, ◌∷◌, Option, Some, None}
use Rattle.spv_tree.specs.declared.tokens.token.TokenKind.{TokenKind}
use Rattle.spv_tree.specs.declared.tokens.token.TokenKind.TheVariants as kind
use Rattle.spv_tree.specs.declared.tokens.token.Word.TheVariants as word
use Rattle.spv_tree.specs.declared.tokens.token.Sign.TheVariants as sign
use Rattle.spv_tree.specs.declared.syntax.lists.Several.{Several}
use Rattle.spv_tree.specs.declared.syntax.names.Constant.{Constant}
use Rattle.spv_tree.specs.declared.syntax.operators.Direction.{Direction}
use Rattle.spv_tree.specs.declared.syntax.operators.Direction.TheVariants as direction
use Rattle.spv_tree.specs.syntax.Formulas.{Formula}
use Rattle.spv_tree.specs.syntax.Statements.{Statement, empty, assignment, call, creation, compound, conditional, selection, repetition, assertion, Otherwise, nothing_otherwise, otherwise, Block, block, MoreStatements, no_more_statements, more_statements, Arm, no_arm, arm, MoreArms, no_more_arms, more_arms, Loop, while_loop, repeat_loop, for_loop}
use Rattle.spv_tree.specs.syntax.Lists.{several}
use Rattle.spv_tree.specs.syntax.Members.{Members}
use Rattle.spv_tree.specs.syntax.TypeSpelling.{constant_spelling}
use Rattle.spv_tree.specs.syntax.FormulaSpelling.{designator_spelling, formula_spelling, name_spelling}

abbrev pub direction_kind : Direction → TokenKind
direction_kind direction.Up = kind.Word word.To
direction_kind direction.Down = kind.Word word.Downto

-- ---- in members of one kind

module _ {R : Type 0} (m : Members R) where
  -- "(" formula {"," formula} ")", where there are arguments
  abbrev pub arguments_spelling : Option (Several Formula) → List R → List R
  arguments_spelling None rest = rest
  arguments_spelling (Some fs) rest =
      m.token (kind.Sign sign.OpenParenthesis) ∷ several (m.token (kind.Sign sign.Comma)) (formula_spelling m) fs
      (m.token (kind.Sign sign.CloseParenthesis) ∷ rest)

  -- INVARIANT formula, where there is one
  abbrev pub invariant_spelling : Option Formula → List R → List R
  invariant_spelling None rest = rest
  invariant_spelling (Some f) rest = m.token (kind.Word word.Invariant) ∷ formula_spelling m f rest

  -- constant {"," constant}
  abbrev pub constants_spelling : Several Constant → List R → List R
  constants_spelling cs rest = several (m.token (kind.Sign sign.Comma)) (constant_spelling m) cs rest

  abbrev mutual
    pub statement_spelling : Statement → List R → List R
    statement_spelling (empty line) rest = m.at line rest
    statement_spelling (assignment line d f) rest =
        m.at line (designator_spelling m d (m.token (kind.Sign sign.Becomes) ∷ formula_spelling m f rest))
    statement_spelling (call line x arguments) rest = m.at line (name_spelling m x (arguments_spelling arguments rest))
    statement_spelling (creation line d) rest =
        m.at line (m.token (kind.Word word.New) ∷ m.token (kind.Sign sign.OpenParenthesis) ∷ designator_spelling m d
        (m.token (kind.Sign sign.CloseParenthesis) ∷ rest))
    statement_spelling (compound line b) rest = m.at line (block_spelling b rest)
    statement_spelling (conditional line f s other) rest =
        m.at line (m.token (kind.Word word.If) ∷ formula_spelling m f (m.token (kind.Word word.Then)
        ∷ statement_spelling s (otherwise_spelling other rest)))
    statement_spelling (selection line f first more) rest =
        m.at line (m.token (kind.Word word.Case) ∷ formula_spelling m f (m.token (kind.Word word.Of) ∷ arm_spelling first
        (more_arms_spelling more (m.token (kind.Word word.End) ∷ rest))))
    statement_spelling (repetition line invariant l) rest = m.at line (invariant_spelling invariant (loop_spelling l rest))
    statement_spelling (assertion line f) rest = m.at line (m.token (kind.Word word.Assert) ∷ formula_spelling m f rest)

    pub otherwise_spelling : Otherwise → List R → List R
    otherwise_spelling nothing_otherwise rest = rest
    otherwise_spelling (otherwise s) rest = m.token (kind.Word word.Else) ∷ statement_spelling s rest

    pub block_spelling : Block → List R → List R
    block_spelling (block line first more) rest =
        m.at line (m.token (kind.Word word.Begin) ∷ statement_spelling first (more_statements_spelling more (m.token (kind.Word word.End)
        ∷ rest)))

    pub more_statements_spelling : MoreStatements → List R → List R
    more_statements_spelling no_more_statements rest = rest
    more_statements_spelling (more_statements s more) rest =
        m.token (kind.Sign sign.Semicolon) ∷ statement_spelling s (more_statements_spelling more rest)

    pub arm_spelling : Arm → List R → List R
    arm_spelling (no_arm line) rest = m.at line rest
    arm_spelling (arm line constants s) rest =
        m.at line (constants_spelling constants (m.token (kind.Sign sign.Colon) ∷ statement_spelling s rest))

    pub more_arms_spelling : MoreArms → List R → List R
    more_arms_spelling no_more_arms rest = rest
    more_arms_spelling (more_arms a more) rest = m.token (kind.Sign sign.Semicolon) ∷ arm_spelling a (more_arms_spelling more rest)

    pub loop_spelling : Loop → List R → List R
    loop_spelling (while_loop line f s) rest =
        m.at line (m.token (kind.Word word.While) ∷ formula_spelling m f (m.token (kind.Word word.Do) ∷ statement_spelling s rest))
    loop_spelling (repeat_loop line first more f) rest =
        m.at line (m.token (kind.Word word.Repeat) ∷ statement_spelling first (more_statements_spelling more (m.token (kind.Word word.Until)
        ∷ formula_spelling m f rest)))
    loop_spelling (for_loop line x from towards to s) rest =
        m.at line (m.token (kind.Word word.For) ∷ name_spelling m x (m.token (kind.Sign sign.Becomes) ∷ formula_spelling m from
        (m.token (direction_kind towards) ∷ formula_spelling m to (m.token (kind.Word word.Do) ∷ statement_spelling s rest))))
