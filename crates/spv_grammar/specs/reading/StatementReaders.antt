-- How constants and statements are read.
use Rattle.std.specs.Prelude.{ℕ, zero, suc, Bool, true, false, if◌then◌else◌, Option, Some, None}
use Rattle.spv_tree.specs.declared.tokens.token.TokenKind.{TokenKind}
use Rattle.spv_tree.specs.declared.tokens.token.TokenKind.TheVariants as kind
use Rattle.spv_tree.specs.declared.tokens.token.Word.TheVariants as word
use Rattle.spv_tree.specs.declared.tokens.token.Sign.TheVariants as sign
use Rattle.spv_tree.specs.declared.syntax.lists.Several.{Several}
use Rattle.spv_tree.specs.declared.syntax.names.Name.{Name}
use Rattle.spv_tree.specs.declared.syntax.names.Scalar.{Scalar}
use Rattle.spv_tree.specs.declared.syntax.names.Scalar.TheVariants as scalar
use Rattle.spv_tree.specs.declared.syntax.names.Constant.{Constant}
use Rattle.spv_tree.specs.declared.syntax.operators.PlusOrMinus.{PlusOrMinus}
use Rattle.spv_tree.specs.declared.syntax.operators.Direction.{Direction}
use Rattle.spv_tree.specs.declared.syntax.operators.Direction.TheVariants as direction
use Rattle.spv_tree.specs.syntax.Formulas.{Formula, designator, Selectors, no_selectors, selectors}
use Rattle.spv_tree.specs.syntax.Statements.{Statement, empty, assignment, call, creation, compound, conditional, selection, repetition, assertion, Otherwise, nothing_otherwise, otherwise, Block, block, MoreStatements, no_more_statements, more_statements, Arm, no_arm, arm, MoreArms, no_more_arms, more_arms, Loop, while_loop, repeat_loop, for_loop}
use Rattle.spv_tree.specs.syntax.Steps.{first_line}
use Rattle.spv_grammar.specs.reading.Readers.{front, after, is, Read, Reader, misfit, nothing, and_then, past, name, behind, all_items, several_of}
use Rattle.spv_grammar.specs.reading.FormulaReaders.{prefix_of, read_selectors, read_designator, read_inner, read_formula}

-- ---- constants

abbrev pub scalar_by : Option TokenKind → Reader Scalar
scalar_by (Some (kind.Number n)) tokens = Read (scalar.Number n, after tokens)
scalar_by (Some (kind.Name x)) tokens = Read (scalar.Name (record { line = first_line tokens; symbol = x }), after tokens)
scalar_by _ tokens = misfit tokens

-- number | name
abbrev pub read_scalar : Reader Scalar
read_scalar tokens = scalar_by (front tokens) tokens

abbrev pub constant_by : ℕ → Option PlusOrMinus → Reader Constant
constant_by line prefix tokens = and_then (read_scalar tokens) (λ x rest. Read (record { line = line; sign = prefix; value = x }, rest))

abbrev pub signed_by : Option PlusOrMinus → Reader Constant
signed_by None tokens = constant_by (first_line tokens) None tokens
signed_by (Some s) tokens = constant_by (first_line tokens) (Some s) (after tokens)

-- ["+" | "-"] (number | name)
abbrev pub read_constant : Reader Constant
read_constant tokens = signed_by (prefix_of (front tokens)) tokens

-- constant {"," constant}
abbrev pub read_constants : Reader (Several Constant)
read_constants tokens = several_of (kind.Sign sign.Comma) read_constant tokens

-- whether a constant begins with the token
abbrev pub begins_constant : Option TokenKind → Bool
begins_constant (Some (kind.Number n)) = true
begins_constant (Some (kind.Name x)) = true
begins_constant (Some (kind.Sign sign.Plus)) = true
begins_constant (Some (kind.Sign sign.Minus)) = true
begins_constant _ = false

abbrev pub direction_of : Option TokenKind → Option Direction
direction_of (Some (kind.Word word.To)) = Some direction.Up
direction_of (Some (kind.Word word.Downto)) = Some direction.Down
direction_of _ = None

-- ---- calls, assignments and NEW: formulas in them are read by `read`, those in brackets by `inner`

-- behind a name and these selectors without ":="
abbrev pub read_plain_call : Name → Selectors → Reader Statement
read_plain_call x no_selectors tokens = Read (call x.line x None, tokens)
read_plain_call x (selectors s more) tokens = misfit tokens

module _ (inner : Reader Formula) where
  -- "(" formula {"," formula} ")", without the first bracket, behind a name
  abbrev pub read_call : Name → Reader Statement
  read_call x tokens =
      and_then (several_of (kind.Sign sign.Comma) inner tokens) (λ fs last. past (kind.Sign sign.CloseParenthesis) last (λ rest. Read (call x.line x (Some fs), rest)))

  -- "(" designator ")", behind NEW
  abbrev pub read_creation : ℕ → Reader Statement
  read_creation line tokens =
      past (kind.Sign sign.OpenParenthesis) tokens (λ mid. and_then (read_designator inner mid) (λ d last. past (kind.Sign sign.CloseParenthesis) last (λ rest. Read (creation line d, rest))))

module _ (read inner : Reader Formula) where
  -- [":=" formula], behind a name and its selectors
  abbrev pub read_becomes : Name → Selectors → Reader Statement
  read_becomes x selected tokens =
      if is (kind.Sign sign.Becomes) (front tokens) then and_then (read (after tokens)) (λ f rest. Read (assignment x.line (designator x.line x selected) f, rest)) else read_plain_call x selected tokens

  -- what begins with a name
  abbrev pub read_action : Name → Reader Statement
  read_action x tokens =
      if is (kind.Sign sign.OpenParenthesis) (front tokens) then read_call inner x (after tokens) else and_then (read_selectors inner tokens) (λ selected rest. read_becomes x selected rest)

-- ---- statements inside others are read by `lower`

module _ (lower : Reader Statement) where
  -- {";" statement}
  abbrev pub read_more_statements : Reader MoreStatements
  read_more_statements tokens = all_items no_more_statements more_statements (behind (kind.Sign sign.Semicolon) lower) tokens

  -- BEGIN statement {";" statement} END, without BEGIN
  abbrev pub read_block_behind : ℕ → Reader Block
  read_block_behind line tokens = and_then (lower tokens) (λ s mid. and_then (read_more_statements mid) (λ more last. past (kind.Word word.End) last (λ rest. Read (block line s more, rest))))

  -- BEGIN statement {";" statement} END
  abbrev pub block_by : Reader Block
  block_by tokens = past (kind.Word word.Begin) tokens (λ rest. read_block_behind (first_line tokens) rest)

  -- [constant {"," constant} ":" statement]
  abbrev pub read_arm : Reader Arm
  read_arm tokens =
      if begins_constant (front tokens) then and_then (read_constants tokens) (λ cs mid. past (kind.Sign sign.Colon) mid (λ last. and_then (lower last) (λ s rest. Read (arm (first_line tokens) cs s, rest)))) else Read (no_arm (first_line tokens), tokens)

  -- {";" arm}
  abbrev pub read_more_arms : Reader MoreArms
  read_more_arms tokens = all_items no_more_arms more_arms (behind (kind.Sign sign.Semicolon) read_arm) tokens

  -- [ELSE statement]
  abbrev pub read_otherwise : Reader Otherwise
  read_otherwise tokens =
      if is (kind.Word word.Else) (front tokens) then and_then (lower (after tokens)) (λ s rest. Read (otherwise s, rest)) else Read (nothing_otherwise, tokens)

  -- ---- and formulas by `read`

  module _ (read : Reader Formula) where
    -- formula DO statement, behind WHILE
    abbrev pub read_while : ℕ → Reader Loop
    read_while line tokens = and_then (read tokens) (λ f mid. past (kind.Word word.Do) mid (λ last. and_then (lower last) (λ s rest. Read (while_loop line f s, rest))))

    -- statement {";" statement} UNTIL formula, behind REPEAT
    abbrev pub read_repeat : ℕ → Reader Loop
    read_repeat line tokens =
        and_then (lower tokens) (λ s mid. and_then (read_more_statements mid) (λ more last. past (kind.Word word.Until) last (λ next. and_then (read next) (λ f rest. Read (repeat_loop line s more f, rest)))))

    -- (TO | DOWNTO) formula DO statement
    abbrev pub read_to : ℕ → Name → Formula → Option Direction → Reader Loop
    read_to line x from None tokens = misfit tokens
    read_to line x from (Some towards) tokens =
        and_then (read (after tokens)) (λ to mid. past (kind.Word word.Do) mid (λ last. and_then (lower last) (λ s rest. Read (for_loop line x from towards to s, rest))))

    -- name ":=" formula (TO | DOWNTO) formula DO statement, behind FOR
    abbrev pub read_for : ℕ → Reader Loop
    read_for line tokens =
        and_then (name tokens) (λ x mid. past (kind.Sign sign.Becomes) mid (λ last. and_then (read last) (λ from next. read_to line x from (direction_of (front next)) next)))

    abbrev pub loop_by : Option TokenKind → Reader Loop
    loop_by (Some (kind.Word word.While)) tokens = read_while (first_line tokens) (after tokens)
    loop_by (Some (kind.Word word.Repeat)) tokens = read_repeat (first_line tokens) (after tokens)
    loop_by (Some (kind.Word word.For)) tokens = read_for (first_line tokens) (after tokens)
    loop_by _ tokens = misfit tokens

    -- a loop behind its invariant, if it has one
    abbrev pub read_repetition : ℕ → Option Formula → Reader Statement
    read_repetition line invariant tokens = and_then (loop_by (front tokens) tokens) (λ l rest. Read (repetition line invariant l, rest))

    -- formula THEN statement [ELSE statement], behind IF
    abbrev pub read_conditional : ℕ → Reader Statement
    read_conditional line tokens =
        and_then (read tokens) (λ f mid. past (kind.Word word.Then) mid (λ last. and_then (lower last) (λ s next. and_then (read_otherwise next) (λ other rest. Read (conditional line f s other, rest)))))

    -- formula OF arm {";" arm} END, behind CASE
    abbrev pub read_selection : ℕ → Reader Statement
    read_selection line tokens =
        and_then (read tokens) (λ f mid. past (kind.Word word.Of) mid (λ last. and_then (read_arm last) (λ a next. and_then (read_more_arms next) (λ more end. past (kind.Word word.End) end (λ rest. Read (selection line f a more, rest))))))

    -- ---- those in brackets by `inner`

    module _ (inner : Reader Formula) where
      abbrev pub statement_on : Option TokenKind → Reader Statement
      statement_on (Some (kind.Name x)) tokens = read_action read inner (record { line = first_line tokens; symbol = x }) (after tokens)
      statement_on (Some (kind.Word word.New)) tokens = read_creation inner (first_line tokens) (after tokens)
      statement_on (Some (kind.Word word.Begin)) tokens = and_then (read_block_behind (first_line tokens) (after tokens)) (λ b rest. Read (compound (first_line tokens) b, rest))
      statement_on (Some (kind.Word word.If)) tokens = read_conditional (first_line tokens) (after tokens)
      statement_on (Some (kind.Word word.Case)) tokens = read_selection (first_line tokens) (after tokens)
      statement_on (Some (kind.Word word.Invariant)) tokens = and_then (read (after tokens)) (λ f rest. read_repetition (first_line tokens) (Some f) rest)
      statement_on (Some (kind.Word word.While)) tokens = read_repetition (first_line tokens) None tokens
      statement_on (Some (kind.Word word.Repeat)) tokens = read_repetition (first_line tokens) None tokens
      statement_on (Some (kind.Word word.For)) tokens = read_repetition (first_line tokens) None tokens
      statement_on (Some (kind.Word word.Assert)) tokens = and_then (read (after tokens)) (λ f rest. Read (assertion (first_line tokens) f, rest))
      statement_on _ tokens = Read (empty (first_line tokens), tokens)

      abbrev pub statement_by : Reader Statement
      statement_by tokens = statement_on (front tokens) tokens

-- ---- statements inside one another, and formulas in them, n levels at most

-- a statement one level down
abbrev pub read_lower : ℕ → Reader Statement
read_lower zero tokens = nothing tokens
read_lower (suc n) tokens = statement_by (read_lower n) (read_formula n) (read_inner n) tokens

abbrev pub read_statement : ℕ → Reader Statement
read_statement n tokens = statement_by (read_lower n) (read_formula n) (read_inner n) tokens

abbrev pub read_block : ℕ → Reader Block
read_block n tokens = block_by (read_lower n) tokens
