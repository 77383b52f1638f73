-- When a tree is what tokens are read as.
use Rattle.std.specs.Prelude.{◌≡◌, ℕ, zero, suc, Bool, true, false, ◌&&◌, not, List, [], ◌∷◌, map, IsTrue}
use Rattle.spv_tree.specs.declared.tokens.token.Token.{Token}
use Rattle.spv_tree.specs.declared.tokens.token.TokenKind.{TokenKind}
use Rattle.spv_tree.specs.declared.syntax.routines.RoutineMark.{RoutineMark}
use Rattle.spv_tree.specs.declared.syntax.routines.RoutineMark.TheVariants.{Announced, Begins, Ends}
use Rattle.spv_tree.specs.declared.syntax.programs.Program.{Program}
use Rattle.spv_tree.specs.declared.syntax.rules.RuleTree.{RuleTree}
use Rattle.spv_tree.specs.declared.syntax.formula_texts.FormulaText.{FormulaText}
use Rattle.spv_tree.specs.syntax.Statements.{Statement, empty, assignment, call, creation, compound, conditional, selection, repetition, assertion, Otherwise, nothing_otherwise, otherwise, Block, block, MoreStatements, no_more_statements, more_statements, Arm, no_arm, arm, MoreArms, no_more_arms, more_arms, Loop, while_loop, repeat_loop, for_loop}
use Rattle.spv_tree.specs.syntax.Steps.{lines_agree}
use Rattle.spv_tree.specs.syntax.Members.{in_kinds, in_lines}
use Rattle.spv_tree.specs.syntax.ProgramSpelling.{program_spelling}
use Rattle.spv_tree.specs.syntax.RuleSpelling.{formula_text_spelling, rule_tree_spelling}

-- ---- each ELSE goes with the innermost IF that still lacks one

-- whether a statement ends with an IF that has no ELSE
abbrev mutual
  pub ends_open : Statement → Bool
  ends_open (empty line) = false
  ends_open (assignment line d f) = false
  ends_open (call line x arguments) = false
  ends_open (creation line d) = false
  ends_open (compound line b) = false
  ends_open (conditional line f s other) = otherwise_ends_open other
  ends_open (selection line f first more) = false
  ends_open (repetition line invariant l) = loop_ends_open l
  ends_open (assertion line f) = false

  pub otherwise_ends_open : Otherwise → Bool
  otherwise_ends_open nothing_otherwise = true
  otherwise_ends_open (otherwise s) = ends_open s

  pub loop_ends_open : Loop → Bool
  loop_ends_open (while_loop line f s) = ends_open s
  loop_ends_open (repeat_loop line first more f) = false
  loop_ends_open (for_loop line x from towards to s) = ends_open s

-- whether an ELSE may stand behind a THEN part
abbrev pub may_end : Statement → Otherwise → Bool
may_end s nothing_otherwise = true
may_end s (otherwise other) = not (ends_open s)

-- whether each IF with an ELSE has a THEN part that does not end with an IF that lacks one
abbrev mutual
  pub statement_ok : Statement → Bool
  statement_ok (empty line) = true
  statement_ok (assignment line d f) = true
  statement_ok (call line x arguments) = true
  statement_ok (creation line d) = true
  statement_ok (compound line b) = block_ok b
  statement_ok (conditional line f s other) = statement_ok s && (otherwise_ok other && may_end s other)
  statement_ok (selection line f first more) = arm_ok first && more_arms_ok more
  statement_ok (repetition line invariant l) = loop_ok l
  statement_ok (assertion line f) = true

  pub otherwise_ok : Otherwise → Bool
  otherwise_ok nothing_otherwise = true
  otherwise_ok (otherwise s) = statement_ok s

  pub block_ok : Block → Bool
  block_ok (block line first more) = statement_ok first && more_statements_ok more

  pub more_statements_ok : MoreStatements → Bool
  more_statements_ok no_more_statements = true
  more_statements_ok (more_statements s more) = statement_ok s && more_statements_ok more

  pub arm_ok : Arm → Bool
  arm_ok (no_arm line) = true
  arm_ok (arm line constants s) = statement_ok s

  pub more_arms_ok : MoreArms → Bool
  more_arms_ok no_more_arms = true
  more_arms_ok (more_arms a more) = arm_ok a && more_arms_ok more

  pub loop_ok : Loop → Bool
  loop_ok (while_loop line f s) = statement_ok s
  loop_ok (repeat_loop line first more f) = statement_ok first && more_statements_ok more
  loop_ok (for_loop line x from towards to s) = statement_ok s

-- ---- each routine that begins ends, inside the one in which it began

-- the same, where this many routines have begun and not ended; and their blocks are well formed
abbrev pub routines_ok : ℕ → List RoutineMark → Bool
routines_ok zero [] = true
routines_ok (suc n) [] = false
routines_ok n (Announced h c ∷ marks) = routines_ok n marks
routines_ok n (Begins h c l ∷ marks) = routines_ok (suc n) marks
routines_ok zero (Ends b ∷ marks) = false
routines_ok (suc n) (Ends b ∷ marks) = block_ok b && routines_ok n marks

-- what the form of a tree does not say by itself
abbrev pub well_formed : Program → Bool
well_formed p = routines_ok 0 p.routines && block_ok p.block

-- ---- reading

-- the kinds of tokens
abbrev pub kinds : List Token → List TokenKind
kinds tokens = map (λ t. t.kind) tokens

-- the tree is what the tokens are read as
pub record Reads (tokens : List Token) (p : Program) : Type 0 where
  pub spelled : kinds tokens ≡ program_spelling in_kinds p []
  pub formed : IsTrue (well_formed p)
  pub lined : IsTrue (lines_agree (program_spelling in_lines p []) tokens)

-- the same of a rule file, whose form says all
pub record ReadsRules (tokens : List Token) (t : RuleTree) : Type 0 where
  pub spelled : kinds tokens ≡ rule_tree_spelling in_kinds t []
  pub lined : IsTrue (lines_agree (rule_tree_spelling in_lines t []) tokens)

-- and of a formula text
pub record ReadsFormulaText (tokens : List Token) (t : FormulaText) : Type 0 where
  pub spelled : kinds tokens ≡ formula_text_spelling in_kinds t []
  pub lined : IsTrue (lines_agree (formula_text_spelling in_lines t []) tokens)
