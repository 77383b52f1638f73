-- How declarations, routines and programs are spelled, in front of what follows.
use Rattle.std.specs.Prelude.{Bool, true, false, List, ◌∷◌, Option, Some, None}
use Rattle.spv_tree.specs.declared.tokens.token.TokenKind.TheVariants as kind
use Rattle.spv_tree.specs.declared.tokens.token.Word.TheVariants as word
use Rattle.spv_tree.specs.declared.tokens.token.Sign.TheVariants as sign
use Rattle.spv_tree.specs.declared.syntax.lists.Several.{Several}
use Rattle.spv_tree.specs.declared.syntax.names.Name.{Name}
use Rattle.spv_tree.specs.declared.syntax.declarations.Const.{Const}
use Rattle.spv_tree.specs.declared.syntax.declarations.Typedef.{Typedef}
use Rattle.spv_tree.specs.declared.syntax.declarations.Vars.{Vars}
use Rattle.spv_tree.specs.declared.syntax.declarations.NameOrClass.{NameOrClass}
use Rattle.spv_tree.specs.declared.syntax.declarations.NameOrClass.TheVariants as either
use Rattle.spv_tree.specs.declared.syntax.declarations.SortName.{SortName}
use Rattle.spv_tree.specs.declared.syntax.declarations.SymbolText.{SymbolText}
use Rattle.spv_tree.specs.declared.syntax.declarations.Declarations.{Declarations}
use Rattle.spv_tree.specs.declared.syntax.routines.GroupForm.{GroupForm}
use Rattle.spv_tree.specs.declared.syntax.routines.GroupForm.TheVariants as group
use Rattle.spv_tree.specs.declared.syntax.routines.Group.{Group}
use Rattle.spv_tree.specs.declared.syntax.routines.Params.{Params}
use Rattle.spv_tree.specs.declared.syntax.routines.HeadingForm.{HeadingForm}
use Rattle.spv_tree.specs.declared.syntax.routines.HeadingForm.TheVariants as heading
use Rattle.spv_tree.specs.declared.syntax.routines.Heading.{Heading}
use Rattle.spv_tree.specs.declared.syntax.routines.Item.{Item}
use Rattle.spv_tree.specs.declared.syntax.routines.GlobalGroup.{GlobalGroup}
use Rattle.spv_tree.specs.declared.syntax.routines.Start.{Start}
use Rattle.spv_tree.specs.declared.syntax.routines.Clauses.{Clauses}
use Rattle.spv_tree.specs.declared.syntax.routines.Locals.{Locals}
use Rattle.spv_tree.specs.declared.syntax.routines.RoutineMark.{RoutineMark}
use Rattle.spv_tree.specs.declared.syntax.routines.RoutineMark.TheVariants.{Announced, Begins, Ends}
use Rattle.spv_tree.specs.declared.syntax.programs.Program.{Program}
use Rattle.spv_tree.specs.syntax.Formulas.{Formula}
use Rattle.spv_tree.specs.syntax.Lists.{each, several, headed}
use Rattle.spv_tree.specs.syntax.Members.{Members}
use Rattle.spv_tree.specs.syntax.StatementSpelling.{block_spelling}
use Rattle.spv_tree.specs.syntax.TypeSpelling.{constant_spelling, names_spelling, type_spelling}
use Rattle.spv_tree.specs.syntax.FormulaSpelling.{formula_spelling, name_spelling}

-- ---- in members of one kind

module _ {R : Type 0} (m : Members R) where
  -- ---- declarations

  abbrev pub const_spelling : Const → List R → List R
  const_spelling c rest =
      m.at c.line (name_spelling m c.name (m.token (kind.Sign sign.Equal) ∷ constant_spelling m c.value (m.token (kind.Sign sign.Semicolon)
      ∷ rest)))

  abbrev pub typedef_spelling : Typedef → List R → List R
  typedef_spelling t rest =
      m.at t.line (name_spelling m t.name (m.token (kind.Sign sign.Equal) ∷ type_spelling m t.of (m.token (kind.Sign sign.Semicolon) ∷ rest)))

  abbrev pub vars_spelling : Vars → List R → List R
  vars_spelling v rest =
      m.at v.line (names_spelling m v.names (m.token (kind.Sign sign.Colon) ∷ type_spelling m v.of (m.token (kind.Sign sign.Semicolon) ∷ rest)))

  abbrev pub name_or_class_spelling : NameOrClass → List R → List R
  name_or_class_spelling (either.Name x) rest = name_spelling m x rest
  name_or_class_spelling (either.Class x) rest = m.token (kind.Sign sign.Hash) ∷ name_spelling m x rest

  abbrev pub sort_spelling : SortName → List R → List R
  sort_spelling s rest = m.at s.line (name_or_class_spelling s.form rest)

  -- "(" sort {"," sort} ")", where there are arguments
  abbrev pub sorts_spelling : Option (Several SortName) → List R → List R
  sorts_spelling None rest = rest
  sorts_spelling (Some ss) rest =
      m.token (kind.Sign sign.OpenParenthesis) ∷ several (m.token (kind.Sign sign.Comma)) sort_spelling ss
      (m.token (kind.Sign sign.CloseParenthesis) ∷ rest)

  abbrev pub symbol_spelling : SymbolText → List R → List R
  symbol_spelling s rest =
      m.at s.line (name_spelling m s.name (sorts_spelling s.arguments (m.token (kind.Sign sign.Colon)
      ∷ sort_spelling s.result (m.token (kind.Sign sign.Semicolon) ∷ rest))))

  abbrev pub declarations_spelling : Declarations → List R → List R
  declarations_spelling d rest =
      m.at d.line (headed (m.token (kind.Word word.Const)) const_spelling d.constants
      (headed (m.token (kind.Word word.Type)) typedef_spelling d.types (headed (m.token (kind.Word word.Var)) vars_spelling d.variables
      (headed (m.token (kind.Word word.Declare)) symbol_spelling d.symbols rest))))

  -- ---- headings

  -- VAR, where it is there
  abbrev pub var_spelling : Bool → List R → List R
  var_spelling true rest = m.token (kind.Word word.Var) ∷ rest
  var_spelling false rest = rest

  abbrev pub group_form_spelling : GroupForm → List R → List R
  group_form_spelling (group.Variables by_place names x) rest =
      var_spelling by_place (names_spelling m names (m.token (kind.Sign sign.Colon) ∷ name_spelling m x rest))
  group_form_spelling (group.Procedures names) rest = m.token (kind.Word word.Procedure) ∷ names_spelling m names rest
  group_form_spelling (group.Functions names x) rest =
      m.token (kind.Word word.Function) ∷ names_spelling m names (m.token (kind.Sign sign.Colon) ∷ name_spelling m x rest)

  abbrev pub group_spelling : Group → List R → List R
  group_spelling g rest = m.at g.line (group_form_spelling g.form rest)

  abbrev pub params_spelling : Option Params → List R → List R
  params_spelling None rest = rest
  params_spelling (Some p) rest =
      m.at p.line (m.token (kind.Sign sign.OpenParenthesis) ∷ several (m.token (kind.Sign sign.Semicolon)) group_spelling p.groups
      (m.token (kind.Sign sign.CloseParenthesis) ∷ rest))

  -- ":" name, where there is a result
  abbrev pub result_spelling : Option Name → List R → List R
  result_spelling None rest = rest
  result_spelling (Some x) rest = m.token (kind.Sign sign.Colon) ∷ name_spelling m x rest

  abbrev pub heading_form_spelling : HeadingForm → List R → List R
  heading_form_spelling (heading.Procedure x params) rest =
      m.token (kind.Word word.Procedure) ∷ name_spelling m x (params_spelling params rest)
  heading_form_spelling (heading.Function x params result) rest =
      m.token (kind.Word word.Function) ∷ name_spelling m x (params_spelling params (result_spelling result rest))

  abbrev pub heading_spelling : Heading → List R → List R
  heading_spelling h rest = m.at h.line (heading_form_spelling h.form rest)

  -- ---- clauses

  abbrev pub item_spelling : Item → List R → List R
  item_spelling i rest = m.at i.line (name_or_class_spelling i.form rest)

  abbrev pub global_group_spelling : GlobalGroup → List R → List R
  global_group_spelling g rest = m.at g.line (var_spelling g.by_place (several (m.token (kind.Sign sign.Comma)) item_spelling g.items rest))

  -- GLOBAL "(" ggroup {";" ggroup} ")" ";", where it is there
  abbrev pub globals_spelling : Option (Several GlobalGroup) → List R → List R
  globals_spelling None rest = rest
  globals_spelling (Some gs) rest =
      m.token (kind.Word word.Global) ∷ m.token (kind.Sign sign.OpenParenthesis)
      ∷ several (m.token (kind.Sign sign.Semicolon)) global_group_spelling gs (m.token (kind.Sign sign.CloseParenthesis)
      ∷ m.token (kind.Sign sign.Semicolon) ∷ rest)

  abbrev pub start_spelling : Start → List R → List R
  start_spelling s rest = m.at s.line (item_spelling s.item (m.token (kind.Sign sign.Equal) ∷ name_spelling m s.name rest))

  -- INITIAL start {"," start} ";", where it is there
  abbrev pub initial_spelling : Option (Several Start) → List R → List R
  initial_spelling None rest = rest
  initial_spelling (Some ss) rest =
      m.token (kind.Word word.Initial) ∷ several (m.token (kind.Sign sign.Comma)) start_spelling ss (m.token (kind.Sign sign.Semicolon)
      ∷ rest)

  -- ENTRY formula ";", where it is there
  abbrev pub entry_spelling : Option Formula → List R → List R
  entry_spelling None rest = rest
  entry_spelling (Some f) rest = m.token (kind.Word word.Entry) ∷ formula_spelling m f (m.token (kind.Sign sign.Semicolon) ∷ rest)

  -- EXIT formula ";", where it is there
  abbrev pub exit_spelling : Option Formula → List R → List R
  exit_spelling None rest = rest
  exit_spelling (Some f) rest = m.token (kind.Word word.Exit) ∷ formula_spelling m f (m.token (kind.Sign sign.Semicolon) ∷ rest)

  abbrev pub clauses_spelling : Clauses → List R → List R
  clauses_spelling c rest =
      m.at c.line (globals_spelling c.globals (initial_spelling c.initial (entry_spelling c.entry (exit_spelling c.exit rest))))

  -- ---- routines

  abbrev pub locals_spelling : Locals → List R → List R
  locals_spelling l rest =
      m.at l.line (headed (m.token (kind.Word word.Const)) const_spelling l.constants
      (headed (m.token (kind.Word word.Var)) vars_spelling l.variables rest))

  abbrev pub routine_mark_spelling : RoutineMark → List R → List R
  routine_mark_spelling (Announced h c) rest =
      heading_spelling h (m.token (kind.Sign sign.Semicolon) ∷ clauses_spelling c (m.token (kind.Word word.Forward)
      ∷ m.token (kind.Sign sign.Semicolon) ∷ rest))
  routine_mark_spelling (Begins h c l) rest =
      heading_spelling h (m.token (kind.Sign sign.Semicolon) ∷ clauses_spelling c (locals_spelling l rest))
  routine_mark_spelling (Ends b) rest = block_spelling m b (m.token (kind.Sign sign.Semicolon) ∷ rest)

  abbrev pub routines_spelling : List RoutineMark → List R → List R
  routines_spelling marks rest = each routine_mark_spelling marks rest

  -- ---- programs

  -- "(" names ")", where they are there
  abbrev pub files_spelling : Option (Several Name) → List R → List R
  files_spelling None rest = rest
  files_spelling (Some names) rest =
      m.token (kind.Sign sign.OpenParenthesis) ∷ names_spelling m names (m.token (kind.Sign sign.CloseParenthesis) ∷ rest)

  abbrev pub program_spelling : Program → List R → List R
  program_spelling p rest =
      m.at p.line (m.token (kind.Word word.Program) ∷ name_spelling m p.name (files_spelling p.files (m.token (kind.Sign sign.Semicolon)
      ∷ declarations_spelling p.declarations (routines_spelling p.routines (entry_spelling p.entry (exit_spelling p.exit
      (block_spelling m p.block (m.token (kind.Sign sign.Period) ∷ rest))))))))
