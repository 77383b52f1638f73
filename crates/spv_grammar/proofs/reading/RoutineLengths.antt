-- Routines and programs have at least as many tokens as levels.
use Rattle.std.proofs.Common.{suc, ◌+◌, ◌≤◌, Bool, true, false, List, [], ◌∷◌, Option, Some, None, length, arith}
use Rattle.spv_tree.specs.declared.tokens.token.TokenKind.{TokenKind}
use Rattle.spv_tree.specs.declared.tokens.token.TokenKind.TheVariants as kind
use Rattle.spv_tree.specs.declared.tokens.token.Word.TheVariants as word
use Rattle.spv_tree.specs.declared.tokens.token.Sign.TheVariants as sign
use Rattle.spv_tree.specs.declared.syntax.lists.Several.{Several}
use Rattle.spv_tree.specs.declared.syntax.names.Name.{Name}
use Rattle.spv_tree.specs.declared.syntax.declarations.Const.{Const}
use Rattle.spv_tree.specs.declared.syntax.declarations.Typedef.{Typedef}
use Rattle.spv_tree.specs.declared.syntax.declarations.Vars.{Vars}
use Rattle.spv_tree.specs.declared.syntax.declarations.SymbolText.{SymbolText}
use Rattle.spv_tree.specs.declared.syntax.declarations.Declarations.{Declarations}
use Rattle.spv_tree.specs.declared.syntax.routines.GroupForm.{GroupForm}
use Rattle.spv_tree.specs.declared.syntax.routines.GroupForm.TheVariants as group
use Rattle.spv_tree.specs.declared.syntax.routines.Group.{Group}
use Rattle.spv_tree.specs.declared.syntax.routines.Params.{Params}
use Rattle.spv_tree.specs.declared.syntax.routines.HeadingForm.{HeadingForm}
use Rattle.spv_tree.specs.declared.syntax.routines.HeadingForm.TheVariants as heading
use Rattle.spv_tree.specs.declared.syntax.routines.Item.{Item}
use Rattle.spv_tree.specs.declared.syntax.routines.GlobalGroup.{GlobalGroup}
use Rattle.spv_tree.specs.declared.syntax.routines.Start.{Start}
use Rattle.spv_tree.specs.declared.syntax.routines.Clauses.{Clauses}
use Rattle.spv_tree.specs.declared.syntax.routines.Locals.{Locals}
use Rattle.spv_tree.specs.declared.syntax.routines.RoutineMark.{RoutineMark}
use Rattle.spv_tree.specs.declared.syntax.routines.RoutineMark.TheVariants.{Announced, Begins, Ends}
use Rattle.spv_tree.specs.declared.syntax.programs.Program.{Program}
use Rattle.spv_tree.specs.syntax.Formulas.{Formula}
use Rattle.spv_tree.specs.syntax.Lists.{each, further, headed}
use Rattle.spv_tree.specs.syntax.Members.{in_kinds}
use Rattle.spv_tree.specs.syntax.FormulaSpelling.{name_kind}
use Rattle.spv_tree.specs.syntax.ProgramSpelling.{clauses_spelling, const_spelling, declarations_spelling, entry_spelling, exit_spelling, files_spelling, global_group_spelling, globals_spelling, group_form_spelling, group_spelling, heading_form_spelling, initial_spelling, item_spelling, locals_spelling, params_spelling, program_spelling, result_spelling, routine_mark_spelling, routines_spelling, start_spelling, symbol_spelling, typedef_spelling, var_spelling, vars_spelling}
use Rattle.spv_tree.specs.syntax.StatementSpelling.{block_spelling}
use Rattle.spv_grammar.specs.reading.Depths.{typedefs_depth, variables_depth, declarations_depth, condition_depth, clauses_depth, routine_mark_depth, routines_depth, program_depth}
use Rattle.spv_grammar.proofs.reading.Lengths.{formula_length}
use Rattle.spv_grammar.proofs.reading.StatementLengths.{block_length}
use Rattle.spv_grammar.proofs.reading.TypeWhole.{names_length}
use Rattle.spv_grammar.proofs.reading.DeclarationWhole.{either_length, const_length, typedef_length, vars_length, symbol_length}

-- ---- declarations

each_consts : (xs : List Const) (rest : List TokenKind) → length rest ≤ length (each (const_spelling in_kinds) xs rest)
each_consts [] rest = omega arith
each_consts (x ∷ xs) rest = omega (arith, const_length x (each (const_spelling in_kinds) xs rest), each_consts xs rest)

consts_length : (k : TokenKind) (xs : List Const) (rest : List TokenKind) → length rest ≤ length (headed k (const_spelling in_kinds) xs rest)
consts_length k [] rest = omega arith
consts_length k (x ∷ xs) rest = omega (arith, const_length x (each (const_spelling in_kinds) xs rest), each_consts xs rest)

each_typedefs : (xs : List Typedef) (rest : List TokenKind) → typedefs_depth xs + length rest ≤ length (each (typedef_spelling in_kinds) xs rest)
each_typedefs [] rest = omega arith
each_typedefs (x ∷ xs) rest = omega (arith, typedef_length x (each (typedef_spelling in_kinds) xs rest), each_typedefs xs rest)

typedefs_length : (k : TokenKind) (xs : List Typedef) (rest : List TokenKind) → typedefs_depth xs + length rest ≤ length (headed k (typedef_spelling in_kinds) xs rest)
typedefs_length k [] rest = omega arith
typedefs_length k (x ∷ xs) rest = omega (arith, typedef_length x (each (typedef_spelling in_kinds) xs rest), each_typedefs xs rest)

each_vars : (xs : List Vars) (rest : List TokenKind) → variables_depth xs + length rest ≤ length (each (vars_spelling in_kinds) xs rest)
each_vars [] rest = omega arith
each_vars (x ∷ xs) rest = omega (arith, vars_length x (each (vars_spelling in_kinds) xs rest), each_vars xs rest)

variables_length : (k : TokenKind) (xs : List Vars) (rest : List TokenKind) → variables_depth xs + length rest ≤ length (headed k (vars_spelling in_kinds) xs rest)
variables_length k [] rest = omega arith
variables_length k (x ∷ xs) rest = omega (arith, vars_length x (each (vars_spelling in_kinds) xs rest), each_vars xs rest)

each_symbols : (xs : List SymbolText) (rest : List TokenKind) → length rest ≤ length (each (symbol_spelling in_kinds) xs rest)
each_symbols [] rest = omega arith
each_symbols (x ∷ xs) rest = omega (arith, symbol_length x (each (symbol_spelling in_kinds) xs rest), each_symbols xs rest)

symbols_length : (k : TokenKind) (xs : List SymbolText) (rest : List TokenKind) → length rest ≤ length (headed k (symbol_spelling in_kinds) xs rest)
symbols_length k [] rest = omega arith
symbols_length k (x ∷ xs) rest = omega (arith, symbol_length x (each (symbol_spelling in_kinds) xs rest), each_symbols xs rest)

pub declarations_length : (x : Declarations) (rest : List TokenKind) → declarations_depth x + length rest ≤ length (declarations_spelling in_kinds x rest)
declarations_length x rest =
    let symbols = headed (kind.Word word.Declare) (symbol_spelling in_kinds) x.symbols rest in
    let variables = headed (kind.Word word.Var) (vars_spelling in_kinds) x.variables symbols in
    let types = headed (kind.Word word.Type) (typedef_spelling in_kinds) x.types variables in
    omega (arith, consts_length (kind.Word word.Const) x.constants types, typedefs_length (kind.Word word.Type) x.types variables, variables_length (kind.Word word.Var) x.variables symbols, symbols_length (kind.Word word.Declare) x.symbols rest)

-- ---- headings

group_form_length : (x : GroupForm) (rest : List TokenKind) → length rest ≤ length (group_form_spelling in_kinds x rest)
group_form_length (group.Variables false xs t) rest = omega (arith, names_length xs (kind.Sign sign.Colon ∷ name_kind t ∷ rest))
group_form_length (group.Variables true xs t) rest = omega (arith, names_length xs (kind.Sign sign.Colon ∷ name_kind t ∷ rest))
group_form_length (group.Procedures xs) rest = omega (arith, names_length xs rest)
group_form_length (group.Functions xs t) rest = omega (arith, names_length xs (kind.Sign sign.Colon ∷ name_kind t ∷ rest))

further_groups : (xs : List Group) (rest : List TokenKind) → length rest ≤ length (further (kind.Sign sign.Semicolon) (group_spelling in_kinds) xs rest)
further_groups [] rest = omega arith
further_groups (x ∷ xs) rest = omega (arith, group_form_length x.form (further (kind.Sign sign.Semicolon) (group_spelling in_kinds) xs rest), further_groups xs rest)

params_length : (x : Option Params) (rest : List TokenKind) → length rest ≤ length (params_spelling in_kinds x rest)
params_length None rest = omega arith
params_length (Some p) rest =
    omega (arith, group_form_length p.groups.first.form (further (kind.Sign sign.Semicolon) (group_spelling in_kinds) p.groups.more (kind.Sign sign.CloseParenthesis ∷ rest)), further_groups p.groups.more (kind.Sign sign.CloseParenthesis ∷ rest))

result_length : (x : Option Name) (rest : List TokenKind) → length rest ≤ length (result_spelling in_kinds x rest)
result_length None rest = omega arith
result_length (Some x) rest = omega arith

heading_length : (x : HeadingForm) (rest : List TokenKind) → suc (length rest) ≤ length (heading_form_spelling in_kinds x rest)
heading_length (heading.Procedure x p) rest = omega (arith, params_length p rest)
heading_length (heading.Function x p t) rest = omega (arith, params_length p (result_spelling in_kinds t rest), result_length t rest)

-- ---- clauses

further_items : (xs : List Item) (rest : List TokenKind) → length rest ≤ length (further (kind.Sign sign.Comma) (item_spelling in_kinds) xs rest)
further_items [] rest = omega arith
further_items (x ∷ xs) rest = omega (arith, either_length x.form (further (kind.Sign sign.Comma) (item_spelling in_kinds) xs rest), further_items xs rest)

var_length : (b : Bool) (rest : List TokenKind) → length rest ≤ length (var_spelling in_kinds b rest)
var_length true rest = omega arith
var_length false rest = omega arith

global_group_length : (x : GlobalGroup) (rest : List TokenKind) → length rest ≤ length (global_group_spelling in_kinds x rest)
global_group_length x rest =
    let others = further (kind.Sign sign.Comma) (item_spelling in_kinds) x.items.more rest in
    omega (arith, var_length x.by_place (item_spelling in_kinds x.items.first others), either_length x.items.first.form others, further_items x.items.more rest)

further_globals : (xs : List GlobalGroup) (rest : List TokenKind) → length rest ≤ length (further (kind.Sign sign.Semicolon) (global_group_spelling in_kinds) xs rest)
further_globals [] rest = omega arith
further_globals (x ∷ xs) rest = omega (arith, global_group_length x (further (kind.Sign sign.Semicolon) (global_group_spelling in_kinds) xs rest), further_globals xs rest)

globals_length : (x : Option (Several GlobalGroup)) (rest : List TokenKind) → length rest ≤ length (globals_spelling in_kinds x rest)
globals_length None rest = omega arith
globals_length (Some xs) rest =
    let behind = kind.Sign sign.CloseParenthesis ∷ kind.Sign sign.Semicolon ∷ rest in
    omega (arith, global_group_length xs.first (further (kind.Sign sign.Semicolon) (global_group_spelling in_kinds) xs.more behind), further_globals xs.more behind)

start_length : (x : Start) (rest : List TokenKind) → length rest ≤ length (start_spelling in_kinds x rest)
start_length x rest = omega (arith, either_length x.item.form (kind.Sign sign.Equal ∷ name_kind x.name ∷ rest))

further_starts : (xs : List Start) (rest : List TokenKind) → length rest ≤ length (further (kind.Sign sign.Comma) (start_spelling in_kinds) xs rest)
further_starts [] rest = omega arith
further_starts (x ∷ xs) rest = omega (arith, start_length x (further (kind.Sign sign.Comma) (start_spelling in_kinds) xs rest), further_starts xs rest)

initial_length : (x : Option (Several Start)) (rest : List TokenKind) → length rest ≤ length (initial_spelling in_kinds x rest)
initial_length None rest = omega arith
initial_length (Some xs) rest =
    omega (arith, start_length xs.first (further (kind.Sign sign.Comma) (start_spelling in_kinds) xs.more (kind.Sign sign.Semicolon ∷ rest)), further_starts xs.more (kind.Sign sign.Semicolon ∷ rest))

entry_length : (x : Option Formula) (rest : List TokenKind) → condition_depth x + length rest ≤ length (entry_spelling in_kinds x rest)
entry_length None rest = omega arith
entry_length (Some f) rest = omega (arith, formula_length f (kind.Sign sign.Semicolon ∷ rest))

exit_length : (x : Option Formula) (rest : List TokenKind) → condition_depth x + length rest ≤ length (exit_spelling in_kinds x rest)
exit_length None rest = omega arith
exit_length (Some f) rest = omega (arith, formula_length f (kind.Sign sign.Semicolon ∷ rest))

clauses_length : (x : Clauses) (rest : List TokenKind) → clauses_depth x + length rest ≤ length (clauses_spelling in_kinds x rest)
clauses_length x rest =
    let exit = exit_spelling in_kinds x.exit rest in
    let entry = entry_spelling in_kinds x.entry exit in
    let initial = initial_spelling in_kinds x.initial entry in
    omega (arith, globals_length x.globals initial, initial_length x.initial entry, entry_length x.entry exit, exit_length x.exit rest)

-- ---- routines and programs

locals_length : (x : Locals) (rest : List TokenKind) → variables_depth x.variables + length rest ≤ length (locals_spelling in_kinds x rest)
locals_length x rest =
    omega (arith, consts_length (kind.Word word.Const) x.constants (headed (kind.Word word.Var) (vars_spelling in_kinds) x.variables rest), variables_length (kind.Word word.Var) x.variables rest)

pub routine_mark_length : (x : RoutineMark) (rest : List TokenKind) → suc (routine_mark_depth x + length rest) ≤ length (routine_mark_spelling in_kinds x rest)
routine_mark_length (Announced h c) rest =
    let behind = kind.Word word.Forward ∷ kind.Sign sign.Semicolon ∷ rest in
    omega (arith, heading_length h.form (kind.Sign sign.Semicolon ∷ clauses_spelling in_kinds c behind), clauses_length c behind)
routine_mark_length (Begins h c l) rest =
    omega (arith, heading_length h.form (kind.Sign sign.Semicolon ∷ clauses_spelling in_kinds c (locals_spelling in_kinds l rest)), clauses_length c (locals_spelling in_kinds l rest), locals_length l rest)
routine_mark_length (Ends b) rest = omega (arith, block_length b (kind.Sign sign.Semicolon ∷ rest))

routines_length : (xs : List RoutineMark) (rest : List TokenKind) → routines_depth xs + length rest ≤ length (routines_spelling in_kinds xs rest)
routines_length [] rest = omega arith
routines_length (x ∷ xs) rest = omega (arith, routine_mark_length x (routines_spelling in_kinds xs rest), routines_length xs rest)

files_length : (x : Option (Several Name)) (rest : List TokenKind) → length rest ≤ length (files_spelling in_kinds x rest)
files_length None rest = omega arith
files_length (Some xs) rest = omega (arith, names_length xs (kind.Sign sign.CloseParenthesis ∷ rest))

pub program_length : (p : Program) (rest : List TokenKind) → program_depth p + length rest ≤ length (program_spelling in_kinds p rest)
program_length p rest =
    let block = block_spelling in_kinds p.block (kind.Sign sign.Period ∷ rest) in
    let exit = exit_spelling in_kinds p.exit block in
    let entry = entry_spelling in_kinds p.entry exit in
    let routines = routines_spelling in_kinds p.routines entry in
    let declarations = declarations_spelling in_kinds p.declarations routines in
    omega (arith, files_length p.files (kind.Sign sign.Semicolon ∷ declarations), declarations_length p.declarations routines, routines_length p.routines entry, entry_length p.entry exit, exit_length p.exit block, block_length p.block (kind.Sign sign.Period ∷ rest))
