-- How headings, clauses, routines and programs are read.
use Rattle.std.specs.Prelude.{ℕ, zero, suc, Bool, true, false, if◌then◌else◌, List, [], ◌∷◌, Option, Some, None, length}
use Rattle.spv_tree.specs.declared.tokens.token.TokenKind.{TokenKind}
use Rattle.spv_tree.specs.declared.tokens.token.TokenKind.TheVariants as kind
use Rattle.spv_tree.specs.declared.tokens.token.Word.TheVariants as word
use Rattle.spv_tree.specs.declared.tokens.token.Sign.TheVariants as sign
use Rattle.spv_tree.specs.declared.syntax.lists.Several.{Several}
use Rattle.spv_tree.specs.declared.syntax.names.Name.{Name}
use Rattle.spv_tree.specs.declared.syntax.routines.GroupForm.{GroupForm}
use Rattle.spv_tree.specs.declared.syntax.routines.GroupForm.TheVariants as group
use Rattle.spv_tree.specs.declared.syntax.routines.Group.{Group}
use Rattle.spv_tree.specs.declared.syntax.routines.Params.{Params}
use Rattle.spv_tree.specs.declared.syntax.routines.HeadingForm.{HeadingForm}
use Rattle.spv_tree.specs.declared.syntax.routines.HeadingForm.TheVariants as heading
use Rattle.spv_tree.specs.declared.syntax.routines.Heading.{Heading}
use Rattle.spv_tree.specs.declared.syntax.routines.Item.{Item}
use Rattle.spv_tree.specs.declared.syntax.routines.GlobalGroup.{GlobalGroup}
use Rattle.spv_tree.specs.declared.syntax.routines.Start.{Start}
use Rattle.spv_tree.specs.declared.syntax.routines.Clauses.{Clauses}
use Rattle.spv_tree.specs.declared.syntax.routines.Locals.{Locals}
use Rattle.spv_tree.specs.declared.syntax.routines.RoutineMark.{RoutineMark}
use Rattle.spv_tree.specs.declared.syntax.routines.RoutineMark.TheVariants.{Announced, Begins, Ends}
use Rattle.spv_tree.specs.declared.syntax.programs.Program.{Program}
use Rattle.spv_tree.specs.syntax.Formulas.{Formula}
use Rattle.spv_tree.specs.syntax.Steps.{first_line}
use Rattle.spv_grammar.specs.reading.Readers.{front, after, is, Outcome, Read, Reader, misfit, and_then, past, name, several_of, headed_by, optional, ended}
use Rattle.spv_grammar.specs.reading.FormulaReaders.{read_formula}
use Rattle.spv_grammar.specs.reading.StatementReaders.{read_block}
use Rattle.spv_grammar.specs.reading.TypeReaders.{read_names, begins_name}
use Rattle.spv_grammar.specs.reading.DeclarationReaders.{read_const, read_name_or_class, read_vars, read_declarations}

-- ---- headings

-- ":" name
abbrev pub typed_name : Reader Name
typed_name tokens = past (kind.Sign sign.Colon) tokens (λ rest. name rest)

-- names ":" name
abbrev pub read_variables : Bool → Reader GroupForm
read_variables by_place tokens = and_then (read_names tokens) (λ xs mid. and_then (typed_name mid) (λ t rest. Read (group.Variables by_place xs t, rest)))

-- [VAR] names ":" name | PROCEDURE names | FUNCTION names ":" name
abbrev pub group_on : Option TokenKind → Reader GroupForm
group_on (Some (kind.Word word.Var)) tokens = read_variables true (after tokens)
group_on (Some (kind.Word word.Procedure)) tokens = and_then (read_names (after tokens)) (λ xs rest. Read (group.Procedures xs, rest))
group_on (Some (kind.Word word.Function)) tokens = and_then (read_names (after tokens)) (λ xs mid. and_then (typed_name mid) (λ t rest. Read (group.Functions xs t, rest)))
group_on _ tokens = read_variables false tokens

abbrev pub read_group : Reader Group
read_group tokens = and_then (group_on (front tokens) tokens) (λ x rest. Read (record { line = first_line tokens; form = x }, rest))

-- group {";" group} ")", behind a bracket on this line
abbrev pub read_groups : ℕ → Reader Params
read_groups line tokens = and_then (ended (kind.Sign sign.CloseParenthesis) (several_of (kind.Sign sign.Semicolon) read_group) tokens) (λ gs rest. Read (record { line = line; groups = gs }, rest))

-- ["(" group {";" group} ")"]
abbrev pub read_params : Reader (Option Params)
read_params tokens = optional (kind.Sign sign.OpenParenthesis) (read_groups (first_line tokens)) tokens

-- [":" name]
abbrev pub read_result : Reader (Option Name)
read_result tokens = optional (kind.Sign sign.Colon) name tokens

-- PROCEDURE name [params] | FUNCTION name [params] [":" name]
abbrev pub heading_on : Option TokenKind → Reader HeadingForm
heading_on (Some (kind.Word word.Procedure)) tokens = and_then (name (after tokens)) (λ x mid. and_then (read_params mid) (λ p rest. Read (heading.Procedure x p, rest)))
heading_on (Some (kind.Word word.Function)) tokens =
    and_then (name (after tokens)) (λ x mid. and_then (read_params mid) (λ p last. and_then (read_result last) (λ t rest. Read (heading.Function x p t, rest))))
heading_on _ tokens = misfit tokens

abbrev pub read_heading : Reader Heading
read_heading tokens = and_then (heading_on (front tokens) tokens) (λ x rest. Read (record { line = first_line tokens; form = x }, rest))

-- whether a heading begins with the token
abbrev pub begins_heading : Option TokenKind → Bool
begins_heading (Some (kind.Word word.Procedure)) = true
begins_heading (Some (kind.Word word.Function)) = true
begins_heading _ = false

-- ---- clauses

abbrev pub read_item : Reader Item
read_item tokens = and_then (read_name_or_class tokens) (λ x rest. Read (record { line = first_line tokens; form = x }, rest))

-- item {"," item}
abbrev pub read_items : Reader (Several Item)
read_items tokens = several_of (kind.Sign sign.Comma) read_item tokens

-- [VAR] item {"," item}
abbrev pub read_global_group : Reader GlobalGroup
read_global_group tokens =
    if is (kind.Word word.Var) (front tokens) then and_then (read_items (after tokens)) (λ xs rest. Read (record { line = first_line tokens; by_place = true; items = xs }, rest)) else and_then (read_items tokens) (λ xs rest. Read (record { line = first_line tokens; by_place = false; items = xs }, rest))

-- "(" ggroup {";" ggroup} ")" ";", behind GLOBAL
abbrev pub read_global_groups : Reader (Several GlobalGroup)
read_global_groups tokens =
    past (kind.Sign sign.OpenParenthesis) tokens (λ rest. ended (kind.Sign sign.Semicolon) (ended (kind.Sign sign.CloseParenthesis) (several_of (kind.Sign sign.Semicolon) read_global_group)) rest)

-- item "=" name
abbrev pub read_start : Reader Start
read_start tokens =
    and_then (read_item tokens) (λ i mid. past (kind.Sign sign.Equal) mid (λ last. and_then (name last) (λ x rest. Read (record { line = first_line tokens; item = i; name = x }, rest))))

-- how many routines have begun and not ended, behind the beginning of one
abbrev pub begun_behind : ℕ → RoutineMark → ℕ
begun_behind begun (Announced h c) = begun
begun_behind begun (Begins h c l) = suc begun
begun_behind begun (Ends b) = begun

-- "(" names ")"
abbrev pub read_files : Reader (Option (Several Name))
read_files tokens = optional (kind.Sign sign.OpenParenthesis) (ended (kind.Sign sign.CloseParenthesis) read_names) tokens

-- ---- formulas in them have n levels at most

module _ (n : ℕ) where
  -- ENTRY formula ";" or EXIT formula ";", where it is there
  abbrev pub read_condition : TokenKind → Reader (Option Formula)
  read_condition k tokens = optional k (ended (kind.Sign sign.Semicolon) (read_formula n)) tokens

  abbrev pub read_clauses : Reader Clauses
  read_clauses tokens =
      and_then (optional (kind.Word word.Global) read_global_groups tokens) (λ gs mid. and_then (optional (kind.Word word.Initial) (ended (kind.Sign sign.Semicolon) (several_of (kind.Sign sign.Comma) read_start)) mid) (λ ss last. and_then (read_condition (kind.Word word.Entry) last) (λ f next. and_then (read_condition (kind.Word word.Exit) next) (λ g rest. Read (record { line = first_line tokens; globals = gs; initial = ss; entry = f; exit = g }, rest)))))

  -- ---- routines

  -- [CONST const {const}] [VAR vars {vars}]
  abbrev pub read_locals : Reader Locals
  read_locals tokens =
      and_then (headed_by (kind.Word word.Const) begins_name read_const tokens) (λ constants mid. and_then (headed_by (kind.Word word.Var) begins_name (read_vars n) mid) (λ variables rest. Read (record { line = first_line tokens; constants = constants; variables = variables }, rest)))

  -- FORWARD ";" or the body up to its routines, behind the clauses
  abbrev pub read_mark_behind : Heading → Clauses → Reader RoutineMark
  read_mark_behind h c tokens =
      if is (kind.Word word.Forward) (front tokens) then past (kind.Sign sign.Semicolon) (after tokens) (λ rest. Read (Announced h c, rest)) else and_then (read_locals tokens) (λ l rest. Read (Begins h c l, rest))

  -- heading ";" clauses, and what stands behind them
  abbrev pub read_mark : Reader RoutineMark
  read_mark tokens = and_then (ended (kind.Sign sign.Semicolon) read_heading tokens) (λ h mid. and_then (read_clauses mid) (λ c rest. read_mark_behind h c rest))

  -- the next mark and the others, where this many routines have begun and not ended
  abbrev pub marks_by : (ℕ → Reader (List RoutineMark)) → ℕ → Bool → Reader (List RoutineMark)
  marks_by others begun true tokens = and_then (read_mark tokens) (λ m mid. and_then (others (begun_behind begun m) mid) (λ ms rest. Read (m ∷ ms, rest)))
  marks_by others zero false tokens = Read ([], tokens)
  marks_by others (suc begun) false tokens = and_then (ended (kind.Sign sign.Semicolon) (read_block n) tokens) (λ b mid. and_then (others begun mid) (λ ms rest. Read (Ends b ∷ ms, rest)))

  -- as many marks as follow, m at most
  abbrev pub marks : ℕ → ℕ → Reader (List RoutineMark)
  marks zero zero tokens = Read ([], tokens)
  marks zero (suc begun) tokens = misfit tokens
  marks (suc m) begun tokens = marks_by (marks m) begun (begins_heading (front tokens)) tokens

  -- {routine}
  abbrev pub read_routines : Reader (List RoutineMark)
  read_routines tokens = marks (length tokens) zero tokens

  -- ---- programs

  -- PROGRAM name ["(" names ")"] ";" decls {routine} [ENTRY formula ";"] [EXIT formula ";"] block "."
  abbrev pub read_program : Reader Program
  read_program tokens =
      past (kind.Word word.Program) tokens (λ one. and_then (name one) (λ x two. and_then (ended (kind.Sign sign.Semicolon) read_files two) (λ files three. and_then (read_declarations n three) (λ declarations four. and_then (read_routines four) (λ routines five. and_then (read_condition (kind.Word word.Entry) five) (λ entry six. and_then (read_condition (kind.Word word.Exit) six) (λ exit seven. and_then (ended (kind.Sign sign.Period) (read_block n) seven) (λ block rest. Read (record { line = first_line tokens; name = x; files = files; declarations = declarations; routines = routines; entry = entry; exit = exit; block = block }, rest)))))))))

-- what is read and nothing behind it
abbrev pub read_whole : {A : Type 0} → Outcome A → Option A
read_whole (Read (x, [])) = Some x
read_whole _ = None
