-- What is read as routines and programs is spelled at the front, on its lines, and each routine that begins ends.
use Rattle.std.proofs.Common.{◌≡◌, ℕ, zero, suc, Bool, true, false, List, [], ◌∷◌, Option, Some, refl, ◌∙◌}
use Rattle.std.specs.Cmp.Derive.{both_true}
use Rattle.spv_tree.specs.declared.tokens.token.Token.{Token}
use Rattle.spv_tree.specs.declared.tokens.token.TokenKind.{TokenKind}
use Rattle.spv_tree.specs.declared.tokens.token.TokenKind.TheVariants as kind
use Rattle.spv_tree.specs.declared.tokens.token.Word.TheVariants as word
use Rattle.spv_tree.specs.declared.tokens.token.Sign.TheVariants as sign
use Rattle.spv_tree.specs.declared.syntax.routines.GroupForm.{GroupForm}
use Rattle.spv_tree.specs.declared.syntax.routines.GroupForm.TheVariants as group
use Rattle.spv_tree.specs.declared.syntax.routines.HeadingForm.{HeadingForm}
use Rattle.spv_tree.specs.declared.syntax.routines.HeadingForm.TheVariants as heading
use Rattle.spv_tree.specs.declared.syntax.routines.Heading.{Heading}
use Rattle.spv_tree.specs.declared.syntax.routines.Clauses.{Clauses}
use Rattle.spv_tree.specs.declared.syntax.routines.RoutineMark.{RoutineMark}
use Rattle.spv_tree.specs.declared.syntax.routines.RoutineMark.TheVariants.{Announced, Begins, Ends}
use Rattle.spv_tree.specs.declared.syntax.programs.Program.{Program}
use Rattle.spv_tree.specs.syntax.Steps.{Step, begins, passes, first_line}
use Rattle.spv_tree.specs.syntax.Reads.{block_ok, routines_ok, well_formed}
use Rattle.spv_grammar.specs.reading.Readers.{Read, front, after, is, Reader, and_then, past, name, several_of, optional, ended}
use Rattle.spv_grammar.specs.reading.FormulaReaders.{read_formula}
use Rattle.spv_grammar.specs.reading.StatementReaders.{read_block}
use Rattle.spv_grammar.specs.reading.TypeReaders.{read_names, begins_name}
use Rattle.spv_grammar.specs.reading.DeclarationReaders.{read_const, read_vars}
use Rattle.spv_grammar.specs.reading.RoutineReaders.{typed_name, read_variables, group_on, read_group, read_groups, read_params, read_result, heading_on, read_heading, begins_heading, read_item, read_items, read_global_group, read_global_groups, read_start, read_condition, read_clauses, read_locals, read_mark_behind, read_mark, begun_behind, marks_by, marks, read_routines, read_files, read_program}
use Rattle.spv_grammar.specs.reading.Parts.{InFront, BeginsWith, names_part, formula_part, block_part, several_part, ended_part, const_part, vars_part, group_part, params_part, heading_part, item_part, global_group_part, globals_part, start_part, initial_part, entry_part, exit_part, clauses_part, locals_part, routine_mark_part, routines_part, files_part, program_part}
use Rattle.spv_grammar.proofs.reading.Fronts.{Passed, passed, is-true, begun, join, started}
use Rattle.spv_grammar.proofs.reading.Sound.{On, on_none, on_some, on_then, on_if, on_past, on_more, name_sound, several_sound, headed_sound, on_optional, on_ended, ended_sound}
use Rattle.spv_grammar.proofs.reading.FormulaSound.{formula_sound}
use Rattle.spv_grammar.proofs.reading.StatementSound.{block_is_sound}
use Rattle.spv_grammar.proofs.reading.TypeSound.{names_sound}
use Rattle.spv_grammar.proofs.reading.DeclarationSound.{const_sound, vars_sound, either_sound, declarations_sound}
use Rattle.spv_tree.specs.syntax.Members.{in_kinds, in_lines}
use Rattle.spv_tree.specs.syntax.FormulaSpelling.{name_kind}
use Rattle.spv_tree.specs.syntax.ProgramSpelling.{group_form_spelling, heading_form_spelling, result_spelling}

-- ---- headings

-- the spelling of a part and its lines, without the line of the part itself
abbrev pub Inside : {A : Type 0} → (A → List TokenKind → List TokenKind) → (A → List Step → List Step) → List Token → A → List Token → Type 0
Inside spelling lines tokens x rest = InFront (spelling x) (lines x) tokens rest

typed_sound : (tokens : List Token) → On (typed_name tokens) (Inside (λ x rest. kind.Sign sign.Colon ∷ name_kind x ∷ rest) (λ x steps. passes ∷ begins x.line ∷ passes ∷ steps) tokens)
typed_sound tokens =
    on_past (kind.Sign sign.Colon) tokens (λ mid p. on_more (name_sound mid) (λ x rest a. join p a))

abbrev GroupAt : List Token → GroupForm → List Token → Type 0
GroupAt tokens x rest = Inside (group_form_spelling in_kinds) (group_form_spelling in_lines) tokens x rest

plain_group : (tokens : List Token) → On (read_variables false tokens) (GroupAt tokens)
plain_group tokens =
    on_then (names_sound tokens) (λ xs mid a. on_then (typed_sound mid) (λ t rest b. on_some _ (group.Variables false xs t) rest (join a b)))

var_group : (tokens mid : List Token) → Passed (kind.Word word.Var) tokens mid → On (read_variables true mid) (GroupAt tokens)
var_group tokens mid p =
    on_then (names_sound mid) (λ xs last a. on_then (typed_sound last) (λ t rest b. on_some _ (group.Variables true xs t) rest (join p (join a b))))

procedure_group : (tokens mid : List Token) → Passed (kind.Word word.Procedure) tokens mid → On (and_then (read_names mid) (λ xs rest. Read (group.Procedures xs, rest))) (GroupAt tokens)
procedure_group tokens mid p =
    on_then (names_sound mid) (λ xs rest a. on_some _ (group.Procedures xs) rest (join p a))

function_group : (tokens mid : List Token) → Passed (kind.Word word.Function) tokens mid → On (and_then (read_names mid) (λ xs last. and_then (typed_name last) (λ t rest. Read (group.Functions xs t, rest)))) (GroupAt tokens)
function_group tokens mid p =
    on_then (names_sound mid) (λ xs last a. on_then (typed_sound last) (λ t rest b. on_some _ (group.Functions xs t) rest (join p (join a b))))

group_form_sound : (tokens : List Token) (o : Option TokenKind) → front tokens ≡ o → On (group_on o tokens) (GroupAt tokens)
group_form_sound tokens (Some (kind.Word word.Var)) e = var_group tokens _ (passed _ tokens e)
group_form_sound tokens (Some (kind.Word word.Procedure)) e = procedure_group tokens _ (passed _ tokens e)
group_form_sound tokens (Some (kind.Word word.Function)) e = function_group tokens _ (passed _ tokens e)
group_form_sound tokens _ e = plain_group tokens

group_sound : (tokens : List Token) → On (read_group tokens) (BeginsWith group_part tokens)
group_sound tokens =
    on_then (group_form_sound tokens (front tokens) refl) (λ x rest a. on_some _ (record { line = first_line tokens; form = x }) rest (started a))

params_sound : (tokens : List Token) → On (read_params tokens) (BeginsWith params_part tokens)
params_sound tokens =
    on_optional (kind.Sign sign.OpenParenthesis) (read_groups (first_line tokens)) tokens (BeginsWith params_part tokens) (record { spelled = refl; lined = λ steps. refl }) (λ mid p. on_then (ended_sound (kind.Sign sign.CloseParenthesis) (several_part (kind.Sign sign.Semicolon) group_part) (several_of (kind.Sign sign.Semicolon) read_group) mid (several_sound (kind.Sign sign.Semicolon) group_part read_group group_sound mid)) (λ gs rest a. on_some _ (record { line = first_line tokens; groups = gs }) rest (started (join p a))))

result_sound : (tokens : List Token) → On (read_result tokens) (Inside (result_spelling in_kinds) (result_spelling in_lines) tokens)
result_sound tokens =
    on_optional (kind.Sign sign.Colon) name tokens (Inside (result_spelling in_kinds) (result_spelling in_lines) tokens) (record { spelled = refl; lined = λ steps. refl }) (λ mid p. on_more (name_sound mid) (λ x rest a. join p a))

abbrev HeadingAt : List Token → HeadingForm → List Token → Type 0
HeadingAt tokens x rest = Inside (heading_form_spelling in_kinds) (heading_form_spelling in_lines) tokens x rest

procedure_sound : (tokens mid : List Token) → Passed (kind.Word word.Procedure) tokens mid → On (and_then (name mid) (λ x last. and_then (read_params last) (λ p rest. Read (heading.Procedure x p, rest)))) (HeadingAt tokens)
procedure_sound tokens mid p =
    on_then (name_sound mid) (λ x last n. on_then (params_sound last) (λ q rest a. on_some _ (heading.Procedure x q) rest (join p (join n a))))

function_sound : (tokens mid : List Token) → Passed (kind.Word word.Function) tokens mid → On (and_then (name mid) (λ x last. and_then (read_params last) (λ p next. and_then (read_result next) (λ t rest. Read (heading.Function x p t, rest))))) (HeadingAt tokens)
function_sound tokens mid p =
    on_then (name_sound mid) (λ x last n. on_then (params_sound last) (λ q next a. on_then (result_sound next) (λ t rest b. on_some _ (heading.Function x q t) rest (join p (join n (join a b))))))

heading_form_sound : (tokens : List Token) (o : Option TokenKind) → front tokens ≡ o → On (heading_on o tokens) (HeadingAt tokens)
heading_form_sound tokens (Some (kind.Word word.Procedure)) e = procedure_sound tokens _ (passed _ tokens e)
heading_form_sound tokens (Some (kind.Word word.Function)) e = function_sound tokens _ (passed _ tokens e)
heading_form_sound tokens _ e = on_none _

pub heading_sound : (tokens : List Token) → On (read_heading tokens) (BeginsWith heading_part tokens)
heading_sound tokens =
    on_then (heading_form_sound tokens (front tokens) refl) (λ x rest a. on_some _ (record { line = first_line tokens; form = x }) rest (started a))

-- ---- clauses

item_sound : (tokens : List Token) → On (read_item tokens) (BeginsWith item_part tokens)
item_sound tokens =
    on_then (either_sound tokens) (λ x rest a. on_some _ (record { line = first_line tokens; form = x }) rest (started a))

items_are_sound : (tokens : List Token) → On (read_items tokens) (BeginsWith (several_part (kind.Sign sign.Comma) item_part) tokens)
items_are_sound tokens = several_sound (kind.Sign sign.Comma) item_part read_item item_sound tokens

global_group_sound : (tokens : List Token) → On (read_global_group tokens) (BeginsWith global_group_part tokens)
global_group_sound tokens =
    on_if (is (kind.Word word.Var) (front tokens)) _ _ (λ h. by_place (after tokens) (passed _ tokens (is-true _ (front tokens) h))) (λ h. on_then (items_are_sound tokens) (λ xs rest a. on_some _ (record { line = first_line tokens; by_place = false; items = xs }) rest (started a)))
  where
    by_place : (mid : List Token) → Passed (kind.Word word.Var) tokens mid → On (and_then (read_items mid) (λ xs rest. Read (record { line = first_line tokens; by_place = true; items = xs }, rest))) (BeginsWith global_group_part tokens)
    by_place mid p =
        on_then (items_are_sound mid) (λ xs rest a. on_some _ (record { line = first_line tokens; by_place = true; items = xs }) rest (started (join p a)))

globals_sound : (tokens : List Token) → On (optional (kind.Word word.Global) read_global_groups tokens) (BeginsWith globals_part tokens)
globals_sound tokens =
    on_optional (kind.Word word.Global) read_global_groups tokens (BeginsWith globals_part tokens) (record { spelled = refl; lined = λ steps. refl }) (λ mid p. on_past (kind.Sign sign.OpenParenthesis) mid (λ last q. on_more (ended_sound (kind.Sign sign.Semicolon) (ended_part (kind.Sign sign.CloseParenthesis) (several_part (kind.Sign sign.Semicolon) global_group_part)) (ended (kind.Sign sign.CloseParenthesis) (several_of (kind.Sign sign.Semicolon) read_global_group)) last (ended_sound (kind.Sign sign.CloseParenthesis) (several_part (kind.Sign sign.Semicolon) global_group_part) (several_of (kind.Sign sign.Semicolon) read_global_group) last (several_sound (kind.Sign sign.Semicolon) global_group_part read_global_group global_group_sound last))) (λ gs rest a. join p (join q a))))

start_sound : (tokens : List Token) → On (read_start tokens) (BeginsWith start_part tokens)
start_sound tokens =
    on_then (item_sound tokens) (λ i mid a. on_past (kind.Sign sign.Equal) mid (λ last p. on_then (name_sound last) (λ x rest n. on_some _ (record { line = first_line tokens; item = i; name = x }) rest (started (join a (join p n))))))

initial_sound : (tokens : List Token) → On (optional (kind.Word word.Initial) (ended (kind.Sign sign.Semicolon) (several_of (kind.Sign sign.Comma) read_start)) tokens) (BeginsWith initial_part tokens)
initial_sound tokens =
    on_optional (kind.Word word.Initial) _ tokens (BeginsWith initial_part tokens) (record { spelled = refl; lined = λ steps. refl }) (λ mid p. on_more (ended_sound (kind.Sign sign.Semicolon) (several_part (kind.Sign sign.Comma) start_part) (several_of (kind.Sign sign.Comma) read_start) mid (several_sound (kind.Sign sign.Comma) start_part read_start start_sound mid)) (λ ss rest a. join p a))

entry_sound : (n : ℕ) (tokens : List Token) → On (read_condition n (kind.Word word.Entry) tokens) (BeginsWith entry_part tokens)
entry_sound n tokens =
    on_optional (kind.Word word.Entry) _ tokens (BeginsWith entry_part tokens) (record { spelled = refl; lined = λ steps. refl }) (λ mid p. on_more (ended_sound (kind.Sign sign.Semicolon) formula_part (read_formula n) mid (formula_sound n mid)) (λ f rest a. join p a))

exit_sound : (n : ℕ) (tokens : List Token) → On (read_condition n (kind.Word word.Exit) tokens) (BeginsWith exit_part tokens)
exit_sound n tokens =
    on_optional (kind.Word word.Exit) _ tokens (BeginsWith exit_part tokens) (record { spelled = refl; lined = λ steps. refl }) (λ mid p. on_more (ended_sound (kind.Sign sign.Semicolon) formula_part (read_formula n) mid (formula_sound n mid)) (λ f rest a. join p a))

pub clauses_sound : (n : ℕ) (tokens : List Token) → On (read_clauses n tokens) (BeginsWith clauses_part tokens)
clauses_sound n tokens =
    on_then (globals_sound tokens) (λ gs mid a. on_then (initial_sound mid) (λ ss last b. on_then (entry_sound n last) (λ f next c. on_then (exit_sound n next) (λ g rest d. on_some _ (record { line = first_line tokens; globals = gs; initial = ss; entry = f; exit = g }) rest (started (join a (join b (join c d))))))))

-- ---- routines

pub locals_sound : (n : ℕ) (tokens : List Token) → On (read_locals n tokens) (BeginsWith locals_part tokens)
locals_sound n tokens =
    on_then (headed_sound (kind.Word word.Const) begins_name const_part read_const const_sound tokens) (λ constants mid a. on_then (headed_sound (kind.Word word.Var) begins_name vars_part (read_vars n) (vars_sound n) mid) (λ variables rest b. on_some _ (record { line = first_line tokens; constants = constants; variables = variables }) rest (started (join a b))))

-- a mark is at the front, and begins a routine or announces one
record MarkAt (tokens : List Token) (m : RoutineMark) (rest : List Token) : Type 0 where
  here : BeginsWith routine_mark_part tokens m rest
  opens : (begun : ℕ) (ms : List RoutineMark) → routines_ok begun (m ∷ ms) ≡ routines_ok (begun_behind begun m) ms

mark_sound : (n : ℕ) (tokens : List Token) → On (read_mark n tokens) (MarkAt tokens)
mark_sound n tokens =
    on_then (ended_sound (kind.Sign sign.Semicolon) heading_part read_heading tokens (heading_sound tokens)) (λ h mid a. on_then (clauses_sound n mid) (λ c last b. behind h mid a c last b))
  where
    announced : (h : Heading) (mid : List Token) → BeginsWith (ended_part (kind.Sign sign.Semicolon) heading_part) tokens h mid → (c : Clauses) (last : List Token) → BeginsWith clauses_part mid c last → (next : List Token) → Passed (kind.Word word.Forward) last next → On (past (kind.Sign sign.Semicolon) next (λ rest. Read (Announced h c, rest))) (MarkAt tokens)
    announced h mid a c last b next p =
        on_past (kind.Sign sign.Semicolon) next (λ rest q. on_some _ (Announced h c) rest (record {
          here = join a (join b (join p q));
          opens = λ begun ms. refl;
        }))

    begins_there : (h : Heading) (mid : List Token) → BeginsWith (ended_part (kind.Sign sign.Semicolon) heading_part) tokens h mid → (c : Clauses) (last : List Token) → BeginsWith clauses_part mid c last → On (and_then (read_locals n last) (λ l rest. Read (Begins h c l, rest))) (MarkAt tokens)
    begins_there h mid a c last b =
        on_then (locals_sound n last) (λ l rest d. on_some _ (Begins h c l) rest (record {
          here = join a (join b d);
          opens = λ begun ms. refl;
        }))

    behind : (h : Heading) (mid : List Token) → BeginsWith (ended_part (kind.Sign sign.Semicolon) heading_part) tokens h mid → (c : Clauses) (last : List Token) → BeginsWith clauses_part mid c last → On (read_mark_behind n h c last) (MarkAt tokens)
    behind h mid a c last b =
        on_if (is (kind.Word word.Forward) (front last)) _ _ (λ e. announced h mid a c last b (after last) (passed _ last (is-true _ (front last) e))) (λ e. begins_there h mid a c last b)

-- marks are at the front, and end what has begun
pub record MarksAt (begun : ℕ) (tokens : List Token) (ms : List RoutineMark) (rest : List Token) : Type 0 where
  pub here : BeginsWith routines_part tokens ms rest
  pub ok : routines_ok begun ms ≡ true

-- a block and the sign that ends it
ended_block_sound : (n : ℕ) (k : TokenKind) (tokens : List Token) → On (ended k (read_block n) tokens) (λ b rest. BeginsWith (ended_part k block_part) tokens b rest × (block_ok b ≡ true))
ended_block_sound n k tokens =
    on_ended k (read_block n) tokens (block_is_sound n tokens) (λ b mid a rest q. (
      (join a.here q),
      a.ok,
    ))

no_marks : (tokens : List Token) → On (Read ([], tokens)) (MarksAt zero tokens)
no_marks tokens = on_some _ [] tokens (record { here = record { spelled = refl; lined = λ steps. refl }; ok = refl })

module _ (n : ℕ) (others : ℕ → Reader (List RoutineMark)) (others_sound : (begun : ℕ) (tokens : List Token) → On (others begun tokens) (MarksAt begun tokens)) where
  opening_sound : (begun : ℕ) (tokens : List Token) → On (and_then (read_mark n tokens) (λ m mid. and_then (others (begun_behind begun m) mid) (λ ms rest. Read (m ∷ ms, rest)))) (MarksAt begun tokens)
  opening_sound begun tokens =
      on_then (mark_sound n tokens) (λ m mid a. on_then (others_sound (begun_behind begun m) mid) (λ ms rest b. on_some _ (m ∷ ms) rest (record {
        here = join a.here b.here;
        ok = a.opens begun ms ∙ b.ok;
      })))

  closing_sound : (begun : ℕ) (tokens : List Token) → On (and_then (ended (kind.Sign sign.Semicolon) (read_block n) tokens) (λ b mid. and_then (others begun mid) (λ ms rest. Read (Ends b ∷ ms, rest)))) (MarksAt (suc begun) tokens)
  closing_sound begun tokens =
      on_then (ended_block_sound n (kind.Sign sign.Semicolon) tokens) (λ b mid a. on_then (others_sound begun mid) (λ ms rest c. on_some _ (Ends b ∷ ms) rest (record {
        here = join a.0 c.here;
        ok = both_true a.1 c.ok;
      })))

  marks_by_sound : (begun : ℕ) (b : Bool) (tokens : List Token) → On (marks_by n others begun b tokens) (MarksAt begun tokens)
  marks_by_sound begun true tokens = opening_sound begun tokens
  marks_by_sound zero false tokens = no_marks tokens
  marks_by_sound (suc begun) false tokens = closing_sound begun tokens

marks_sound : (n m begun : ℕ) (tokens : List Token) → On (marks n m begun tokens) (MarksAt begun tokens)
marks_sound n zero zero tokens = no_marks tokens
marks_sound n zero (suc begun) tokens = on_none _
marks_sound n (suc m) begun tokens = marks_by_sound n (marks n m) (marks_sound n m) begun (begins_heading (front tokens)) tokens

pub routines_sound : (n : ℕ) (tokens : List Token) → On (read_routines n tokens) (MarksAt zero tokens)
routines_sound n tokens = marks_sound n _ zero tokens

-- ---- programs

files_sound : (tokens : List Token) → On (read_files tokens) (BeginsWith files_part tokens)
files_sound tokens =
    on_optional (kind.Sign sign.OpenParenthesis) _ tokens (BeginsWith files_part tokens) (record { spelled = refl; lined = λ steps. refl }) (λ mid p. on_more (ended_sound (kind.Sign sign.CloseParenthesis) names_part read_names mid (names_sound mid)) (λ xs rest a. join p a))

pub record ProgramAt (tokens : List Token) (p : Program) (rest : List Token) : Type 0 where
  pub here : BeginsWith program_part tokens p rest
  pub ok : well_formed p ≡ true

pub program_sound : (n : ℕ) (tokens : List Token) → On (read_program n tokens) (ProgramAt tokens)
program_sound n tokens =
    on_past (kind.Word word.Program) tokens (λ one p. on_then (name_sound one) (λ x two a. on_then (ended_sound (kind.Sign sign.Semicolon) files_part read_files two (files_sound two)) (λ files three b. on_then (declarations_sound n three) (λ declarations four c. on_then (routines_sound n four) (λ routines five d. on_then (entry_sound n five) (λ entry six e. on_then (exit_sound n six) (λ exit seven f. on_then (ended_block_sound n (kind.Sign sign.Period) seven) (λ block rest g. on_some _ (record { line = first_line tokens; name = x; files = files; declarations = declarations; routines = routines; entry = entry; exit = exit; block = block }) rest (record {
      here = started (join p (join a (join b (join c (join d.here (join e (join f g.0)))))));
      ok = both_true d.ok g.1;
    })))))))))
