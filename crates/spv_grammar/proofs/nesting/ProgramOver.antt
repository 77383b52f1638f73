-- The way over the tokens of a program goes above as many levels as the program has.
use Rattle.std.proofs.Common.{true, false, List, [], ◌∷◌, Some, None, arith}
use Rattle.spv_tree.specs.declared.tokens.token.TokenKind.{TokenKind}
use Rattle.spv_tree.specs.declared.tokens.token.TokenKind.TheVariants as kind
use Rattle.spv_tree.specs.declared.tokens.token.Word.TheVariants as word
use Rattle.spv_tree.specs.declared.tokens.token.Sign.TheVariants as sign
use Rattle.spv_tree.specs.declared.syntax.names.Name.{Name}
use Rattle.spv_tree.specs.declared.syntax.declarations.NameOrClass.TheVariants as either
use Rattle.spv_tree.specs.declared.syntax.routines.GroupForm.TheVariants as group
use Rattle.spv_tree.specs.declared.syntax.routines.HeadingForm.TheVariants as heading
use Rattle.spv_tree.specs.declared.syntax.routines.RoutineMark.TheVariants.{Announced, Begins, Ends}
use Rattle.spv_tree.specs.syntax.Formulas.{Formula}
use Rattle.spv_tree.specs.syntax.Statements.{Block}
use Rattle.spv_tree.specs.syntax.Lists.{each}
use Rattle.spv_tree.specs.syntax.Members.{in_kinds}
use Rattle.spv_tree.specs.syntax.FormulaSpelling.{formula_spelling, name_kind, name_spelling}
use Rattle.spv_tree.specs.syntax.ProgramSpelling.{clauses_spelling, const_spelling, declarations_spelling, entry_spelling, exit_spelling, files_spelling, global_group_spelling, globals_spelling, group_form_spelling, group_spelling, heading_form_spelling, heading_spelling, initial_spelling, item_spelling, locals_spelling, name_or_class_spelling, params_spelling, program_spelling, result_spelling, routine_mark_spelling, routines_spelling, sort_spelling, sorts_spelling, start_spelling, symbol_spelling, typedef_spelling, var_spelling, vars_spelling}
use Rattle.spv_tree.specs.syntax.StatementSpelling.{block_spelling}
use Rattle.spv_tree.specs.syntax.TypeSpelling.{constant_spelling, names_spelling, type_spelling}
use Rattle.spv_grammar.specs.reading.Depths.{formula_depth, type_depth, block_depth, typedefs_depth, variables_depth, declarations_depth, condition_depth, clauses_depth, routine_mark_depth, routines_depth, program_depth}
use Rattle.spv_grammar.specs.nesting.Level.{Counters}
use Rattle.spv_grammar.proofs.nesting.FormulaClimbs.{formula_climbs}
use Rattle.spv_grammar.proofs.nesting.StatementClimbs.{constant_climbs, block_climbs}
use Rattle.spv_grammar.proofs.nesting.TypeClimbs.{type_climbs}
use Rattle.spv_grammar.proofs.nesting.Over.{Over, GoesOver, IsFlat, over_none, over_both, over_token, over_shallower, over_flat, over_climbs, each_flat, several_flat, over_headed}

-- ---- names and what has none but names

name_flat : IsFlat (name_spelling in_kinds)
name_flat x c rest = over_token (name_kind x) (λ at. over_none at rest)

pub names_flat : IsFlat (names_spelling in_kinds)
names_flat xs c rest = several_flat (name_spelling in_kinds) name_flat (kind.Sign sign.Comma) xs c rest

-- ":" name
typed_flat : (x : Name) (c : Counters) (rest : List TokenKind) → Over c (kind.Sign sign.Colon ∷ name_kind x ∷ rest) rest 0
typed_flat x c rest = over_token (kind.Sign sign.Colon) (λ at. name_flat x at rest)

-- a sign behind a part
pub signed : (k : TokenKind) (c : Counters) (rest : List TokenKind) → Over c (k ∷ rest) rest 0
signed k c rest = over_token k (λ at. over_none at rest)

name_or_class_flat : IsFlat (name_or_class_spelling in_kinds)
name_or_class_flat (either.Name x) c rest = name_flat x c rest
name_or_class_flat (either.Class x) c rest = over_token (kind.Sign sign.Hash) (λ at. name_flat x at rest)

-- ---- declarations

const_flat : IsFlat (const_spelling in_kinds)
const_flat x c rest =
    over_token (name_kind x.name) (λ at. over_token (kind.Sign sign.Equal) (λ mid. over_flat (over_climbs (constant_spelling in_kinds) (λ v. 0) constant_climbs x.value mid (kind.Sign sign.Semicolon ∷ rest)) (λ last. signed (kind.Sign sign.Semicolon) last rest)))

typedef_over : GoesOver (typedef_spelling in_kinds) (λ t. type_depth t.of)
typedef_over t c rest =
    over_token (name_kind t.name) (λ at. over_token (kind.Sign sign.Equal) (λ mid. over_shallower _ (over_both (over_climbs (type_spelling in_kinds) type_depth type_climbs t.of mid (kind.Sign sign.Semicolon ∷ rest)) (λ last. signed (kind.Sign sign.Semicolon) last rest)) (omega arith)))

vars_over : GoesOver (vars_spelling in_kinds) (λ v. type_depth v.of)
vars_over v c rest =
    over_flat (names_flat v.names c _) (λ at. over_token (kind.Sign sign.Colon) (λ mid. over_shallower _ (over_both (over_climbs (type_spelling in_kinds) type_depth type_climbs v.of mid (kind.Sign sign.Semicolon ∷ rest)) (λ last. signed (kind.Sign sign.Semicolon) last rest)) (omega arith)))

typedefs_over : GoesOver (each (typedef_spelling in_kinds)) typedefs_depth
typedefs_over [] c rest = over_none c rest
typedefs_over (t ∷ ts) c rest = over_both (typedef_over t c (each (typedef_spelling in_kinds) ts rest)) (λ at. typedefs_over ts at rest)

variables_over : GoesOver (each (vars_spelling in_kinds)) variables_depth
variables_over [] c rest = over_none c rest
variables_over (v ∷ vs) c rest = over_both (vars_over v c (each (vars_spelling in_kinds) vs rest)) (λ at. variables_over vs at rest)

pub sort_flat : IsFlat (sort_spelling in_kinds)
sort_flat s c rest = name_or_class_flat s.form c rest

sorts_flat : IsFlat (sorts_spelling in_kinds)
sorts_flat None c rest = over_none c rest
sorts_flat (Some ss) c rest =
    over_token (kind.Sign sign.OpenParenthesis) (λ at. over_flat (several_flat (sort_spelling in_kinds) sort_flat (kind.Sign sign.Comma) ss at _) (λ last. signed (kind.Sign sign.CloseParenthesis) last rest))

symbol_flat : IsFlat (symbol_spelling in_kinds)
symbol_flat s c rest =
    over_token (name_kind s.name) (λ at. over_flat (sorts_flat s.arguments at _) (λ mid. over_token (kind.Sign sign.Colon) (λ next. over_flat (sort_flat s.result next _) (λ last. signed (kind.Sign sign.Semicolon) last rest))))

pub declarations_over : GoesOver (declarations_spelling in_kinds) declarations_depth
declarations_over d c rest =
    over_shallower _ (over_flat (over_headed (const_spelling in_kinds) (λ xs. 0) (each_flat (const_spelling in_kinds) const_flat) (kind.Word word.Const) d.constants c _) (λ at. over_both (over_headed (typedef_spelling in_kinds) typedefs_depth typedefs_over (kind.Word word.Type) d.types at _) (λ mid. over_both (over_headed (vars_spelling in_kinds) variables_depth variables_over (kind.Word word.Var) d.variables mid _) (λ last. over_headed (symbol_spelling in_kinds) (λ xs. 0) (each_flat (symbol_spelling in_kinds) symbol_flat) (kind.Word word.Declare) d.symbols last rest)))) (omega arith)

-- ---- headings

var_flat : IsFlat (var_spelling in_kinds)
var_flat true c rest = signed (kind.Word word.Var) c rest
var_flat false c rest = over_none c rest

group_form_flat : IsFlat (group_form_spelling in_kinds)
group_form_flat (group.Variables by_place names x) c rest = over_flat (var_flat by_place c _) (λ at. over_flat (names_flat names at _) (λ last. typed_flat x last rest))
group_form_flat (group.Procedures names) c rest = over_token (kind.Word word.Procedure) (λ at. names_flat names at rest)
group_form_flat (group.Functions names x) c rest = over_token (kind.Word word.Function) (λ at. over_flat (names_flat names at _) (λ last. typed_flat x last rest))

group_flat : IsFlat (group_spelling in_kinds)
group_flat g c rest = group_form_flat g.form c rest

params_flat : IsFlat (params_spelling in_kinds)
params_flat None c rest = over_none c rest
params_flat (Some p) c rest =
    over_token (kind.Sign sign.OpenParenthesis) (λ at. over_flat (several_flat (group_spelling in_kinds) group_flat (kind.Sign sign.Semicolon) p.groups at _) (λ last. signed (kind.Sign sign.CloseParenthesis) last rest))

result_flat : IsFlat (result_spelling in_kinds)
result_flat None c rest = over_none c rest
result_flat (Some x) c rest = typed_flat x c rest

heading_form_flat : IsFlat (heading_form_spelling in_kinds)
heading_form_flat (heading.Procedure x params) c rest = over_token (kind.Word word.Procedure) (λ at. over_token (name_kind x) (λ mid. params_flat params mid rest))
heading_form_flat (heading.Function x params result) c rest =
    over_token (kind.Word word.Function) (λ at. over_token (name_kind x) (λ mid. over_flat (params_flat params mid _) (λ last. result_flat result last rest)))

heading_flat : IsFlat (heading_spelling in_kinds)
heading_flat h c rest = heading_form_flat h.form c rest

-- ---- clauses

item_flat : IsFlat (item_spelling in_kinds)
item_flat i c rest = name_or_class_flat i.form c rest

global_group_flat : IsFlat (global_group_spelling in_kinds)
global_group_flat g c rest = over_flat (var_flat g.by_place c _) (λ at. several_flat (item_spelling in_kinds) item_flat (kind.Sign sign.Comma) g.items at rest)

globals_flat : IsFlat (globals_spelling in_kinds)
globals_flat None c rest = over_none c rest
globals_flat (Some gs) c rest =
    over_token (kind.Word word.Global) (λ at. over_token (kind.Sign sign.OpenParenthesis) (λ mid. over_flat (several_flat (global_group_spelling in_kinds) global_group_flat (kind.Sign sign.Semicolon) gs mid _) (λ last. over_token (kind.Sign sign.CloseParenthesis) (λ next. signed (kind.Sign sign.Semicolon) next rest))))

start_flat : IsFlat (start_spelling in_kinds)
start_flat s c rest = over_flat (item_flat s.item c _) (λ at. over_token (kind.Sign sign.Equal) (λ last. name_flat s.name last rest))

initial_flat : IsFlat (initial_spelling in_kinds)
initial_flat None c rest = over_none c rest
initial_flat (Some ss) c rest =
    over_token (kind.Word word.Initial) (λ at. over_flat (several_flat (start_spelling in_kinds) start_flat (kind.Sign sign.Comma) ss at _) (λ last. signed (kind.Sign sign.Semicolon) last rest))

-- formula ";"
condition_over : (f : Formula) (c : Counters) (rest : List TokenKind) → Over c (formula_spelling in_kinds f (kind.Sign sign.Semicolon ∷ rest)) rest (formula_depth f)
condition_over f c rest =
    over_shallower _ (over_both (over_climbs (formula_spelling in_kinds) formula_depth formula_climbs f c (kind.Sign sign.Semicolon ∷ rest)) (λ at. signed (kind.Sign sign.Semicolon) at rest)) (omega arith)

entry_over : GoesOver (entry_spelling in_kinds) condition_depth
entry_over None c rest = over_none c rest
entry_over (Some f) c rest = over_token (kind.Word word.Entry) (λ at. condition_over f at rest)

exit_over : GoesOver (exit_spelling in_kinds) condition_depth
exit_over None c rest = over_none c rest
exit_over (Some f) c rest = over_token (kind.Word word.Exit) (λ at. condition_over f at rest)

clauses_over : GoesOver (clauses_spelling in_kinds) clauses_depth
clauses_over x c rest =
    over_flat (globals_flat x.globals c _) (λ at. over_flat (initial_flat x.initial at _) (λ mid. over_both (entry_over x.entry mid _) (λ last. exit_over x.exit last rest)))

-- ---- routines

locals_over : GoesOver (locals_spelling in_kinds) (λ l. variables_depth l.variables)
locals_over l c rest =
    over_flat (over_headed (const_spelling in_kinds) (λ xs. 0) (each_flat (const_spelling in_kinds) const_flat) (kind.Word word.Const) l.constants c _) (λ at. over_headed (vars_spelling in_kinds) variables_depth variables_over (kind.Word word.Var) l.variables at rest)

routine_mark_over : GoesOver (routine_mark_spelling in_kinds) routine_mark_depth
routine_mark_over (Announced h x) c rest =
    over_flat (heading_flat h c _) (λ at. over_token (kind.Sign sign.Semicolon) (λ mid. over_shallower _ (over_both (clauses_over x mid _) (λ last. over_token (kind.Word word.Forward) (λ next. signed (kind.Sign sign.Semicolon) next rest))) (omega arith)))
routine_mark_over (Begins h x l) c rest =
    over_flat (heading_flat h c _) (λ at. over_token (kind.Sign sign.Semicolon) (λ mid. over_both (clauses_over x mid _) (λ last. locals_over l last rest)))
routine_mark_over (Ends b) c rest =
    over_shallower _ (over_both (over_climbs (block_spelling in_kinds) block_depth block_climbs b c (kind.Sign sign.Semicolon ∷ rest)) (λ at. signed (kind.Sign sign.Semicolon) at rest)) (omega arith)

routines_over : GoesOver (routines_spelling in_kinds) routines_depth
routines_over [] c rest = over_none c rest
routines_over (m ∷ ms) c rest = over_both (routine_mark_over m c (routines_spelling in_kinds ms rest)) (λ at. routines_over ms at rest)

-- ---- programs

files_flat : IsFlat (files_spelling in_kinds)
files_flat None c rest = over_none c rest
files_flat (Some names) c rest =
    over_token (kind.Sign sign.OpenParenthesis) (λ at. over_flat (names_flat names at _) (λ last. signed (kind.Sign sign.CloseParenthesis) last rest))

-- block "."
main_over : (b : Block) (c : Counters) (rest : List TokenKind) → Over c (block_spelling in_kinds b (kind.Sign sign.Period ∷ rest)) rest (block_depth b)
main_over b c rest =
    over_shallower _ (over_both (over_climbs (block_spelling in_kinds) block_depth block_climbs b c (kind.Sign sign.Period ∷ rest)) (λ at. signed (kind.Sign sign.Period) at rest)) (omega arith)

pub program_over : GoesOver (program_spelling in_kinds) program_depth
program_over p c rest =
    over_token (kind.Word word.Program) (λ at. over_token (name_kind p.name) (λ mid. over_flat (files_flat p.files mid _) (λ next. over_token (kind.Sign sign.Semicolon) (λ here. over_both (declarations_over p.declarations here _) (λ there. over_both (routines_over p.routines there _) (λ then. over_both (entry_over p.entry then _) (λ last. over_both (exit_over p.exit last _) (λ end. main_over p.block end rest))))))))
