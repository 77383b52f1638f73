-- Headings and clauses that are spelled are read.
use Rattle.std.proofs.Common.{◌≡◌, ℕ, ◌≤◌, Bool, true, false, ◌||◌, List, [], ◌∷◌, Option, Some, None, refl, ap, ◌∙◌, arith}
use Rattle.spv_logic.proofs.list.Tests.{left_false, right_false}
use Rattle.spv_tree.specs.declared.tokens.token.Token.{Token}
use Rattle.spv_tree.specs.declared.tokens.token.TokenKind.{TokenKind}
use Rattle.spv_tree.specs.declared.tokens.token.TokenKind.TheVariants as kind
use Rattle.spv_tree.specs.declared.tokens.token.Word.TheVariants as word
use Rattle.spv_tree.specs.declared.tokens.token.Sign.TheVariants as sign
use Rattle.spv_tree.specs.declared.syntax.lists.Several.{Several}
use Rattle.spv_tree.specs.declared.syntax.names.Name.{Name}
use Rattle.spv_tree.specs.declared.syntax.declarations.NameOrClass.{NameOrClass}
use Rattle.spv_tree.specs.declared.syntax.declarations.NameOrClass.TheVariants as either
use Rattle.spv_tree.specs.declared.syntax.routines.GroupForm.{GroupForm}
use Rattle.spv_tree.specs.declared.syntax.routines.GroupForm.TheVariants as group
use Rattle.spv_tree.specs.declared.syntax.routines.Group.{Group}
use Rattle.spv_tree.specs.declared.syntax.routines.Params.{Params}
use Rattle.spv_tree.specs.declared.syntax.routines.HeadingForm.{HeadingForm}
use Rattle.spv_tree.specs.declared.syntax.routines.HeadingForm.TheVariants as heading
use Rattle.spv_tree.specs.declared.syntax.routines.Heading.{Heading}
use Rattle.spv_tree.specs.declared.syntax.routines.Item.{Item}
use Rattle.spv_tree.specs.declared.syntax.routines.GlobalGroup.{GlobalGroup}
use Rattle.spv_tree.specs.declared.syntax.routines.Start.{Start}
use Rattle.spv_tree.specs.declared.syntax.routines.Clauses.{Clauses}
use Rattle.spv_tree.specs.syntax.Formulas.{Formula}
use Rattle.spv_tree.specs.syntax.Lists.{several}
use Rattle.spv_tree.specs.syntax.FormulaSpelling.{name_kind}
use Rattle.spv_tree.specs.syntax.Steps.{Step, begins, passes, first_line}
use Rattle.spv_grammar.specs.reading.Readers.{first, front, after, is, name, several_of, optional, ended}
use Rattle.spv_grammar.specs.reading.FormulaReaders.{read_formula}
use Rattle.spv_grammar.specs.reading.RoutineReaders.{typed_name, read_variables, group_on, read_group, read_groups, read_params, read_result, heading_on, read_heading, read_item, read_items, read_global_group, read_global_groups, read_start, read_condition, read_clauses}
use Rattle.spv_grammar.specs.reading.Continuing.{continues_formula, continues_heading, continues_clauses}
use Rattle.spv_grammar.specs.reading.Depths.{condition_depth, clauses_depth}
use Rattle.spv_grammar.specs.reading.Parts.{Stands, formula_part, several_part, ended_part, group_part, heading_part, item_part, global_group_part, start_part, clauses_part}
use Rattle.spv_grammar.proofs.reading.Whole.{Answers, Complete, Each, front_of, begun_of, taken_of, if_true, if_false, name_complete, done, then_answers, past_answers, answers_after, several_complete}
use Rattle.spv_grammar.proofs.reading.WholeHeads.{never, ended_complete, absent, present}
use Rattle.spv_grammar.proofs.reading.FormulaWhole.{formula_complete}
use Rattle.spv_grammar.proofs.reading.TypeWhole.{names_complete}
use Rattle.spv_grammar.proofs.reading.DeclarationWhole.{either_answers}
use Rattle.spv_tree.specs.syntax.Members.{in_kinds, in_lines}
use Rattle.spv_tree.specs.syntax.ProgramSpelling.{entry_spelling, exit_spelling, globals_spelling, group_form_spelling, group_spelling, heading_form_spelling, initial_spelling, params_spelling, result_spelling, name_or_class_spelling}
use Rattle.spv_tree.specs.syntax.TypeSpelling.{names_spelling}

-- ---- groups

typed_answers : (x : Name) {tokens : List Token} {spelled : List TokenKind} {steps : List Step} → Stands tokens (kind.Sign sign.Colon ∷ name_kind x ∷ spelled) (passes ∷ begins x.line ∷ passes ∷ steps) → Answers (typed_name tokens) x tokens spelled steps
typed_answers x s = past_answers (kind.Sign sign.Colon) refl s (λ mid m. name_complete x m)

-- names and their type
named_answers : (b : Bool) (xs : Several Name) (t : Name) {tokens : List Token} {spelled : List TokenKind} {steps : List Step} → Stands tokens (names_spelling in_kinds xs (kind.Sign sign.Colon ∷ name_kind t ∷ spelled)) (names_spelling in_lines xs (passes ∷ begins t.line ∷ passes ∷ steps)) → Answers (read_variables b tokens) (group.Variables b xs t) tokens spelled steps
named_answers b xs t {tokens} {spelled} {steps} s =
    then_answers (names_complete xs tokens (kind.Sign sign.Colon ∷ name_kind t ∷ spelled) (passes ∷ begins t.line ∷ passes ∷ steps) s refl) (λ ys is_ys mid m. then_answers (typed_answers t m) (λ u is_u rest r. done {y = group.Variables b ys u} r (cc (is_ys, is_u))))

group_answers : (x : GroupForm) {tokens : List Token} {spelled : List TokenKind} {steps : List Step} → Stands tokens (group_form_spelling in_kinds x spelled) (group_form_spelling in_lines x steps) → is (kind.Sign sign.Comma) (first spelled) ≡ false → Answers (group_on (front tokens) tokens) x tokens spelled steps
group_answers (group.Variables false xs t) {tokens} s e = answers_after (omega arith) (ap (λ o. group_on o tokens) (front_of s)) (named_answers false xs t s)
group_answers (group.Variables true xs t) {tokens} s e =
    let p = taken_of s in
    answers_after (omega (arith, p.shorter)) (ap (λ o. group_on o tokens) p.front) (named_answers true xs t p.stands)
group_answers (group.Procedures xs) {tokens} {spelled} {steps} s e =
    let p = taken_of s in
    answers_after (omega (arith, p.shorter)) (ap (λ o. group_on o tokens) p.front) (then_answers (names_complete xs (after tokens) spelled steps p.stands e) (λ ys is_ys rest r. done {y = group.Procedures ys} r (ap group.Procedures is_ys)))
group_answers (group.Functions xs t) {tokens} {spelled} {steps} s e =
    let p = taken_of s in
    answers_after (omega (arith, p.shorter)) (ap (λ o. group_on o tokens) p.front) (then_answers (names_complete xs (after tokens) (kind.Sign sign.Colon ∷ name_kind t ∷ spelled) (passes ∷ begins t.line ∷ passes ∷ steps) p.stands refl) (λ ys is_ys mid m. then_answers (typed_answers t m) (λ u is_u rest r. done {y = group.Functions ys u} r (cc (is_ys, is_u)))))

group_complete : (x : Group) → Complete group_part (is (kind.Sign sign.Comma)) read_group x
group_complete x tokens spelled steps s e =
    let b = begun_of s in
    then_answers (group_answers x.form b.stands e) (λ y is_y rest r. done {y = record { line = first_line tokens; form = y }} r (λ i. record { line = b.line i; form = is_y i }))

all_groups : (xs : List Group) → Each (Complete group_part (is (kind.Sign sign.Comma)) read_group) xs
all_groups [] = tt
all_groups (x ∷ xs) = (group_complete x, all_groups xs)

-- ---- headings

abbrev continues_groups : Option TokenKind → Bool
continues_groups o = is (kind.Sign sign.Semicolon) o || is (kind.Sign sign.Comma) o

groups_answers : (x : Params) {tokens : List Token} {spelled : List TokenKind} {steps : List Step} → Stands tokens (several (kind.Sign sign.Semicolon) (group_spelling in_kinds) x.groups (kind.Sign sign.CloseParenthesis ∷ spelled)) (several passes (group_spelling in_lines) x.groups (passes ∷ steps)) → (line : ℕ) → line ≡ x.line → Answers (read_groups line tokens) x tokens spelled steps
groups_answers x {tokens} {spelled} {steps} s line e =
    then_answers (ended_complete (kind.Sign sign.CloseParenthesis) (several_part (kind.Sign sign.Semicolon) group_part) continues_groups (several_of (kind.Sign sign.Semicolon) read_group) x.groups refl refl (several_complete (kind.Sign sign.Semicolon) group_part (is (kind.Sign sign.Comma)) read_group refl refl x.groups (group_complete x.groups.first) (all_groups x.groups.more)) tokens spelled steps s refl) (λ gs is_gs rest r. done {y = record { line = line; groups = gs }} r (λ i. record { line = e i; groups = is_gs i }))

params_answers : (x : Option Params) {tokens : List Token} {spelled : List TokenKind} {steps : List Step} → Stands tokens (params_spelling in_kinds x spelled) (params_spelling in_lines x steps) → is (kind.Sign sign.OpenParenthesis) (first spelled) ≡ false → Answers (read_params tokens) x tokens spelled steps
params_answers None {tokens} s e = absent (kind.Sign sign.OpenParenthesis) (read_groups (first_line tokens)) s e
params_answers (Some x) {tokens} s e =
    let b = begun_of s in
    present (kind.Sign sign.OpenParenthesis) (read_groups (first_line tokens)) refl b.stands (λ mid m. groups_answers x m (first_line tokens) b.line)

result_answers : (x : Option Name) {tokens : List Token} {spelled : List TokenKind} {steps : List Step} → Stands tokens (result_spelling in_kinds x spelled) (result_spelling in_lines x steps) → is (kind.Sign sign.Colon) (first spelled) ≡ false → Answers (read_result tokens) x tokens spelled steps
result_answers None s e = absent (kind.Sign sign.Colon) name s e
result_answers (Some x) s e = present (kind.Sign sign.Colon) name refl s (λ mid m. name_complete x m)

result_ends : (x : Option Name) (spelled : List TokenKind) → is (kind.Sign sign.OpenParenthesis) (first spelled) ≡ false → is (kind.Sign sign.OpenParenthesis) (first (result_spelling in_kinds x spelled)) ≡ false
result_ends None spelled e = e
result_ends (Some x) spelled e = refl

heading_answers : (x : HeadingForm) {tokens : List Token} {spelled : List TokenKind} {steps : List Step} → Stands tokens (heading_form_spelling in_kinds x spelled) (heading_form_spelling in_lines x steps) → continues_heading (first spelled) ≡ false → Answers (heading_on (front tokens) tokens) x tokens spelled steps
heading_answers (heading.Procedure x p) {tokens} {spelled} s e =
    let t = taken_of s in
    answers_after (omega (arith, t.shorter)) (ap (λ o. heading_on o tokens) t.front) (then_answers (name_complete x t.stands) (λ y is_y mid m. then_answers (params_answers p m (left_false (is (kind.Sign sign.OpenParenthesis) (first spelled)) _ e)) (λ q is_q rest r. done {y = heading.Procedure y q} r (cc (is_y, is_q)))))
heading_answers (heading.Function x p t) {tokens} {spelled} s e =
    let k = taken_of s in
    answers_after (omega (arith, k.shorter)) (ap (λ o. heading_on o tokens) k.front) (then_answers (name_complete x k.stands) (λ y is_y mid m. then_answers (params_answers p m (result_ends t spelled (left_false (is (kind.Sign sign.OpenParenthesis) (first spelled)) _ e))) (λ q is_q last n. then_answers (result_answers t n (right_false (is (kind.Sign sign.OpenParenthesis) (first spelled)) _ e)) (λ u is_u rest r. done {y = heading.Function y q u} r (cc (is_y, is_q, is_u))))))

pub heading_complete : (x : Heading) → Complete heading_part continues_heading read_heading x
heading_complete x tokens spelled steps s e =
    let b = begun_of s in
    then_answers (heading_answers x.form b.stands e) (λ y is_y rest r. done {y = record { line = first_line tokens; form = y }} r (λ i. record { line = b.line i; form = is_y i }))

-- ---- clauses

item_complete : (x : Item) → Complete item_part never read_item x
item_complete x tokens spelled steps s e =
    let b = begun_of s in
    then_answers (either_answers x.form b.stands) (λ y is_y rest r. done {y = record { line = first_line tokens; form = y }} r (λ i. record { line = b.line i; form = is_y i }))

all_items_complete : (xs : List Item) → Each (Complete item_part never read_item) xs
all_items_complete [] = tt
all_items_complete (x ∷ xs) = (item_complete x, all_items_complete xs)

abbrev continues_items : Option TokenKind → Bool
continues_items o = is (kind.Sign sign.Comma) o || false

items_complete : (xs : Several Item) → Complete (several_part (kind.Sign sign.Comma) item_part) continues_items read_items xs
items_complete xs = several_complete (kind.Sign sign.Comma) item_part never read_item refl refl xs (item_complete xs.first) (all_items_complete xs.more)

item_no_var : (x : NameOrClass) (spelled : List TokenKind) → is (kind.Word word.Var) (first (name_or_class_spelling in_kinds x spelled)) ≡ false
item_no_var (either.Name x) spelled = refl
item_no_var (either.Class x) spelled = refl

global_group_by : (line : ℕ) (b : Bool) (xs : Several Item) → Complete global_group_part continues_items read_global_group (record { line = line; by_place = b; items = xs })
global_group_by line true xs tokens spelled steps s e =
    let b = begun_of s in
    let p = taken_of b.stands in
    answers_after (omega (arith, p.shorter)) (if_true _ (ap (is (kind.Word word.Var)) p.front) refl) (then_answers (items_complete xs (after tokens) spelled steps p.stands e) (λ ys is_ys rest r. done {y = record { line = first_line tokens; by_place = true; items = ys }} r (λ i. record { line = b.line i; by_place = true; items = is_ys i })))
global_group_by line false xs tokens spelled steps s e =
    let b = begun_of s in
    answers_after (omega arith) (if_false _ (ap (is (kind.Word word.Var)) (front_of s) ∙ item_no_var xs.first.form _) refl) (then_answers (items_complete xs tokens spelled steps b.stands e) (λ ys is_ys rest r. done {y = record { line = first_line tokens; by_place = false; items = ys }} r (λ i. record { line = b.line i; by_place = false; items = is_ys i })))

global_group_complete : (x : GlobalGroup) → Complete global_group_part continues_items read_global_group x
global_group_complete x = global_group_by x.line x.by_place x.items

all_global_groups : (xs : List GlobalGroup) → Each (Complete global_group_part continues_items read_global_group) xs
all_global_groups [] = tt
all_global_groups (x ∷ xs) = (global_group_complete x, all_global_groups xs)

globals_answers : (x : Option (Several GlobalGroup)) {tokens : List Token} {spelled : List TokenKind} {steps : List Step} → Stands tokens (globals_spelling in_kinds x spelled) (globals_spelling in_lines x steps) → is (kind.Word word.Global) (first spelled) ≡ false → Answers (optional (kind.Word word.Global) read_global_groups tokens) x tokens spelled steps
globals_answers None s e = absent (kind.Word word.Global) read_global_groups s e
globals_answers (Some gs) {tokens} {spelled} {steps} s e =
    present (kind.Word word.Global) read_global_groups refl s (λ mid m. past_answers (kind.Sign sign.OpenParenthesis) refl m (λ last q. ended_complete (kind.Sign sign.Semicolon) (ended_part (kind.Sign sign.CloseParenthesis) (several_part (kind.Sign sign.Semicolon) global_group_part)) never (ended (kind.Sign sign.CloseParenthesis) (several_of (kind.Sign sign.Semicolon) read_global_group)) gs refl refl (ended_complete (kind.Sign sign.CloseParenthesis) (several_part (kind.Sign sign.Semicolon) global_group_part) (λ o. is (kind.Sign sign.Semicolon) o || continues_items o) (several_of (kind.Sign sign.Semicolon) read_global_group) gs refl refl (several_complete (kind.Sign sign.Semicolon) global_group_part continues_items read_global_group refl refl gs (global_group_complete gs.first) (all_global_groups gs.more))) last spelled steps q refl))

start_complete : (x : Start) → Complete start_part never read_start x
start_complete x tokens spelled steps s e =
    let b = begun_of s in
    then_answers (item_complete x.item tokens (kind.Sign sign.Equal ∷ name_kind x.name ∷ spelled) (passes ∷ begins x.name.line ∷ passes ∷ steps) b.stands refl) (λ y is_y mid m. past_answers (kind.Sign sign.Equal) refl m (λ last q. then_answers (name_complete x.name q) (λ z is_z rest r. done {y = record { line = first_line tokens; item = y; name = z }} r (λ i. record { line = b.line i; item = is_y i; name = is_z i }))))

all_starts : (xs : List Start) → Each (Complete start_part never read_start) xs
all_starts [] = tt
all_starts (x ∷ xs) = (start_complete x, all_starts xs)

initial_answers : (x : Option (Several Start)) {tokens : List Token} {spelled : List TokenKind} {steps : List Step} → Stands tokens (initial_spelling in_kinds x spelled) (initial_spelling in_lines x steps) → is (kind.Word word.Initial) (first spelled) ≡ false → Answers (optional (kind.Word word.Initial) (ended (kind.Sign sign.Semicolon) (several_of (kind.Sign sign.Comma) read_start)) tokens) x tokens spelled steps
initial_answers None s e = absent (kind.Word word.Initial) (ended (kind.Sign sign.Semicolon) (several_of (kind.Sign sign.Comma) read_start)) s e
initial_answers (Some ss) {tokens} {spelled} {steps} s e =
    present (kind.Word word.Initial) _ refl s (λ mid m. ended_complete (kind.Sign sign.Semicolon) (several_part (kind.Sign sign.Comma) start_part) (λ o. is (kind.Sign sign.Comma) o || false) (several_of (kind.Sign sign.Comma) read_start) ss refl refl (several_complete (kind.Sign sign.Comma) start_part never read_start refl refl ss (start_complete ss.first) (all_starts ss.more)) mid spelled steps m refl)

pub entry_answers : (n : ℕ) (x : Option Formula) → condition_depth x ≤ n → {tokens : List Token} {spelled : List TokenKind} {steps : List Step} → Stands tokens (entry_spelling in_kinds x spelled) (entry_spelling in_lines x steps) → is (kind.Word word.Entry) (first spelled) ≡ false → Answers (read_condition n (kind.Word word.Entry) tokens) x tokens spelled steps
entry_answers n None d s e = absent (kind.Word word.Entry) (ended (kind.Sign sign.Semicolon) (read_formula n)) s e
entry_answers n (Some f) d {tokens} {spelled} {steps} s e =
    present (kind.Word word.Entry) _ refl s (λ mid m. ended_complete (kind.Sign sign.Semicolon) formula_part continues_formula (read_formula n) f refl refl (formula_complete f n d) mid spelled steps m refl)

pub exit_answers : (n : ℕ) (x : Option Formula) → condition_depth x ≤ n → {tokens : List Token} {spelled : List TokenKind} {steps : List Step} → Stands tokens (exit_spelling in_kinds x spelled) (exit_spelling in_lines x steps) → is (kind.Word word.Exit) (first spelled) ≡ false → Answers (read_condition n (kind.Word word.Exit) tokens) x tokens spelled steps
exit_answers n None d s e = absent (kind.Word word.Exit) (ended (kind.Sign sign.Semicolon) (read_formula n)) s e
exit_answers n (Some f) d {tokens} {spelled} {steps} s e =
    present (kind.Word word.Exit) _ refl s (λ mid m. ended_complete (kind.Sign sign.Semicolon) formula_part continues_formula (read_formula n) f refl refl (formula_complete f n d) mid spelled steps m refl)

pub exit_ends : (p : Option TokenKind → Bool) (x : Option Formula) (spelled : List TokenKind) → p (Some (kind.Word word.Exit)) ≡ false → p (first spelled) ≡ false → p (first (exit_spelling in_kinds x spelled)) ≡ false
exit_ends p None spelled e f = f
exit_ends p (Some x) spelled e f = e

pub entry_ends : (p : Option TokenKind → Bool) (x : Option Formula) (spelled : List TokenKind) → p (Some (kind.Word word.Entry)) ≡ false → p (first spelled) ≡ false → p (first (entry_spelling in_kinds x spelled)) ≡ false
entry_ends p None spelled e f = f
entry_ends p (Some x) spelled e f = e

initial_ends : (p : Option TokenKind → Bool) (x : Option (Several Start)) (spelled : List TokenKind) → p (Some (kind.Word word.Initial)) ≡ false → p (first spelled) ≡ false → p (first (initial_spelling in_kinds x spelled)) ≡ false
initial_ends p None spelled e f = f
initial_ends p (Some x) spelled e f = e

pub clauses_complete : (x : Clauses) (n : ℕ) → clauses_depth x ≤ n → Complete clauses_part continues_clauses (read_clauses n) x
clauses_complete x n d tokens spelled steps s e =
    let o = first spelled in
    let b = begun_of s in
    let no_global = left_false (is (kind.Word word.Global) o) _ e in
    let one = right_false (is (kind.Word word.Global) o) _ e in
    let no_initial = left_false (is (kind.Word word.Initial) o) _ one in
    let two = right_false (is (kind.Word word.Initial) o) _ one in
    let no_entry = left_false (is (kind.Word word.Entry) o) _ two in
    let no_exit = right_false (is (kind.Word word.Entry) o) _ two in
    then_answers (globals_answers x.globals b.stands (initial_ends (is (kind.Word word.Global)) x.initial _ refl (entry_ends (is (kind.Word word.Global)) x.entry _ refl (exit_ends (is (kind.Word word.Global)) x.exit spelled refl no_global)))) (λ gs is_gs mid m. then_answers (initial_answers x.initial m (entry_ends (is (kind.Word word.Initial)) x.entry _ refl (exit_ends (is (kind.Word word.Initial)) x.exit spelled refl no_initial))) (λ ss is_ss last q. then_answers (entry_answers n x.entry (omega arith) q (exit_ends (is (kind.Word word.Entry)) x.exit spelled refl no_entry)) (λ f is_f next v. then_answers (exit_answers n x.exit (omega arith) v no_exit) (λ g is_g rest r. done {y = record { line = first_line tokens; globals = gs; initial = ss; entry = f; exit = g }} r (λ i. record { line = b.line i; globals = is_gs i; initial = is_ss i; entry = is_f i; exit = is_g i })))))
