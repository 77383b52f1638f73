-- Routines and programs that are spelled are read.
use Rattle.std.proofs.Common.{◌≡◌, ℕ, zero, suc, ◌≤◌, Bool, true, false, ◌||◌, List, [], ◌∷◌, Option, Some, None, length, refl, ap, ◌∙◌, arith}
use Rattle.std.proofs.lemmas.Bool.{false≢true}
use Rattle.spv_logic.proofs.list.Tests.{left_true, right_true, left_false, right_false, both_false}
use Rattle.spv_tree.specs.declared.tokens.token.Token.{Token}
use Rattle.spv_tree.specs.declared.tokens.token.TokenKind.{TokenKind}
use Rattle.spv_tree.specs.declared.tokens.token.TokenKind.TheVariants as kind
use Rattle.spv_tree.specs.declared.tokens.token.Word.TheVariants as word
use Rattle.spv_tree.specs.declared.tokens.token.Sign.TheVariants as sign
use Rattle.spv_tree.specs.declared.syntax.lists.Several.{Several}
use Rattle.spv_tree.specs.declared.syntax.names.Name.{Name}
use Rattle.spv_tree.specs.declared.syntax.routines.HeadingForm.{HeadingForm}
use Rattle.spv_tree.specs.declared.syntax.routines.HeadingForm.TheVariants as heading
use Rattle.spv_tree.specs.declared.syntax.routines.Heading.{Heading}
use Rattle.spv_tree.specs.declared.syntax.routines.Clauses.{Clauses}
use Rattle.spv_tree.specs.declared.syntax.routines.Locals.{Locals}
use Rattle.spv_tree.specs.declared.syntax.routines.RoutineMark.{RoutineMark}
use Rattle.spv_tree.specs.declared.syntax.routines.RoutineMark.TheVariants.{Announced, Begins, Ends}
use Rattle.spv_tree.specs.declared.syntax.programs.Program.{Program}
use Rattle.spv_tree.specs.syntax.Statements.{Block, block}
use Rattle.spv_tree.specs.syntax.Lists.{headed}
use Rattle.spv_tree.specs.syntax.StatementSpelling.{block_spelling}
use Rattle.spv_tree.specs.syntax.Steps.{Step, passes, first_line}
use Rattle.spv_tree.specs.syntax.Reads.{block_ok, routines_ok, well_formed}
use Rattle.spv_grammar.specs.reading.Readers.{first, is, ended}
use Rattle.spv_grammar.specs.reading.StatementReaders.{read_block}
use Rattle.spv_grammar.specs.reading.TypeReaders.{read_names, begins_name}
use Rattle.spv_grammar.specs.reading.RoutineReaders.{read_heading, begins_heading, read_locals, read_mark_behind, read_mark, begun_behind, marks_by, marks, read_routines, read_files, read_program}
use Rattle.spv_grammar.specs.reading.Continuing.{continues_declarations, continues_heading, continues_clauses}
use Rattle.spv_grammar.specs.reading.Depths.{variables_depth, clauses_depth, routines_depth, program_depth}
use Rattle.spv_grammar.specs.reading.Parts.{Stands, names_part, block_part, heading_part, locals_part, routines_part, program_part}
use Rattle.spv_grammar.proofs.reading.Whole.{Answers, Complete, front_of, begun_of, taken_of, and_then_is, if_true, if_false, name_complete, done, then_answers, past_answers, answers_after}
use Rattle.spv_grammar.proofs.reading.WholeHeads.{never, ended_complete, absent, present, headed_ends, kinds_length}
use Rattle.spv_grammar.proofs.reading.StatementWhole.{block_complete}
use Rattle.spv_grammar.proofs.reading.TypeWhole.{names_complete}
use Rattle.spv_grammar.proofs.reading.DeclarationWhole.{consts_complete, variables_complete, declarations_complete}
use Rattle.spv_grammar.proofs.reading.RoutineLengths.{routine_mark_length}
use Rattle.spv_grammar.proofs.reading.HeadingWhole.{heading_complete, clauses_complete, entry_answers, exit_answers, entry_ends, exit_ends}
use Rattle.spv_tree.specs.syntax.Members.{in_kinds, in_lines}
use Rattle.spv_tree.specs.syntax.ProgramSpelling.{clauses_spelling, files_spelling, locals_spelling, routine_mark_spelling, routines_spelling, vars_spelling, const_spelling, entry_spelling, exit_spelling, heading_form_spelling}

-- ---- what may stand at the front of routines

-- none of these tokens is one of P
record EndsRoutine (p : Option TokenKind → Bool) : Type 0 where
  procedure : p (Some (kind.Word word.Procedure)) ≡ false
  function : p (Some (kind.Word word.Function)) ≡ false
  begin : p (Some (kind.Word word.Begin)) ≡ false

heading_first : (p : Option TokenKind → Bool) → EndsRoutine p → (x : HeadingForm) (spelled : List TokenKind) → p (first (heading_form_spelling in_kinds x spelled)) ≡ false
heading_first p e (heading.Procedure x q) spelled = e.procedure
heading_first p e (heading.Function x q t) spelled = e.function

block_first : (p : Option TokenKind → Bool) → EndsRoutine p → (b : Block) (spelled : List TokenKind) → p (first (block_spelling in_kinds b spelled)) ≡ false
block_first p e (block line t more) spelled = e.begin

-- behind a routine that has begun stands another mark
marks_first : (p : Option TokenKind → Bool) → EndsRoutine p → (begun : ℕ) (ms : List RoutineMark) (spelled : List TokenKind) → routines_ok (suc begun) ms ≡ true → p (first (routines_spelling in_kinds ms spelled)) ≡ false
marks_first p e begun [] spelled ok = absurd (false≢true ok)
marks_first p e begun (Announced h c ∷ ms) spelled ok = heading_first p e h.form _
marks_first p e begun (Begins h c l ∷ ms) spelled ok = heading_first p e h.form _
marks_first p e begun (Ends b ∷ ms) spelled ok = block_first p e b _

-- or what stands behind all of them
routines_first : (p : Option TokenKind → Bool) → EndsRoutine p → (ms : List RoutineMark) (spelled : List TokenKind) → p (first spelled) ≡ false → p (first (routines_spelling in_kinds ms spelled)) ≡ false
routines_first p e [] spelled f = f
routines_first p e (Announced h c ∷ ms) spelled f = heading_first p e h.form _
routines_first p e (Begins h c l ∷ ms) spelled f = heading_first p e h.form _
routines_first p e (Ends b ∷ ms) spelled f = block_first p e b _

-- ---- the beginning of a routine

abbrev continues_locals : Option TokenKind → Bool
continues_locals o = begins_name o || (is (kind.Word word.Const) o || is (kind.Word word.Var) o)

locals_complete : (x : Locals) (n : ℕ) → variables_depth x.variables ≤ n → Complete locals_part continues_locals (read_locals n) x
locals_complete x n d tokens spelled steps s e =
    let o = first spelled in
    let b = begun_of s in
    let no_name = left_false (begins_name o) _ e in
    let one = right_false (begins_name o) _ e in
    let no_const = both_false (is (kind.Word word.Const) o) (begins_name o) (left_false (is (kind.Word word.Const) o) _ one) no_name in
    let no_var = both_false (is (kind.Word word.Var) o) (begins_name o) (right_false (is (kind.Word word.Const) o) _ one) no_name in
    then_answers (consts_complete x.constants tokens (headed (kind.Word word.Var) (vars_spelling in_kinds) x.variables spelled) (headed passes (vars_spelling in_lines) x.variables steps) b.stands (headed_ends (λ k. is (kind.Word word.Const) k || begins_name k) (kind.Word word.Var) (vars_spelling in_kinds) x.variables spelled refl no_const)) (λ cs is_cs mid m. then_answers (variables_complete n x.variables d mid spelled steps m no_var) (λ vs is_vs rest r. done {y = record { line = first_line tokens; constants = cs; variables = vs }} r (λ i. record { line = b.line i; constants = is_cs i; variables = is_vs i })))

-- a routine that is announced
announced_answers : (n : ℕ) (h : Heading) (c : Clauses) → clauses_depth c ≤ n → (tokens : List Token) (spelled : List TokenKind) (steps : List Step) → Stands tokens (routine_mark_spelling in_kinds (Announced h c) spelled) (routine_mark_spelling in_lines (Announced h c) steps) → Answers (read_mark n tokens) (Announced h c) tokens spelled steps
announced_answers n h c d tokens spelled steps s =
    then_answers (ended_complete (kind.Sign sign.Semicolon) heading_part continues_heading read_heading h refl refl (heading_complete h) tokens (clauses_spelling in_kinds c (kind.Word word.Forward ∷ kind.Sign sign.Semicolon ∷ spelled)) (clauses_spelling in_lines c (passes ∷ passes ∷ steps)) s refl) (λ x is_x mid m. then_answers (clauses_complete c n d mid (kind.Word word.Forward ∷ kind.Sign sign.Semicolon ∷ spelled) (passes ∷ passes ∷ steps) m refl) (λ y is_y last q. forward x is_x y is_y last q))
  where
    forward : (x : Heading) → x ≡ h → (y : Clauses) → y ≡ c → (last : List Token) → Stands last (kind.Word word.Forward ∷ kind.Sign sign.Semicolon ∷ spelled) (passes ∷ passes ∷ steps) → Answers (read_mark_behind n x y last) (Announced h c) last spelled steps
    forward x is_x y is_y last q =
        let p = taken_of q in
        answers_after (omega (arith, p.shorter)) (if_true _ (ap (is (kind.Word word.Forward)) p.front) refl) (past_answers (kind.Sign sign.Semicolon) refl p.stands (λ rest r. done {y = Announced x y} r (cc (is_x, is_y))))

no_locals : (p : Option TokenKind → Bool) → p (Some (kind.Word word.Const)) ≡ false → p (Some (kind.Word word.Var)) ≡ false → (l : Locals) (spelled : List TokenKind) → p (first spelled) ≡ false → p (first (locals_spelling in_kinds l spelled)) ≡ false
no_locals p e f l spelled g = headed_ends p (kind.Word word.Const) (const_spelling in_kinds) l.constants _ e (headed_ends p (kind.Word word.Var) (vars_spelling in_kinds) l.variables spelled f g)

-- one that begins
begins_answers : (n : ℕ) (h : Heading) (c : Clauses) (l : Locals) → clauses_depth c ≤ n → variables_depth l.variables ≤ n → (tokens : List Token) (spelled : List TokenKind) (steps : List Step) → Stands tokens (routine_mark_spelling in_kinds (Begins h c l) spelled) (routine_mark_spelling in_lines (Begins h c l) steps) → ((p : Option TokenKind → Bool) → EndsRoutine p → p (first spelled) ≡ false) → Answers (read_mark n tokens) (Begins h c l) tokens spelled steps
begins_answers n h c l d k tokens spelled steps s e =
    then_answers (ended_complete (kind.Sign sign.Semicolon) heading_part continues_heading read_heading h refl refl (heading_complete h) tokens (clauses_spelling in_kinds c (locals_spelling in_kinds l spelled)) (clauses_spelling in_lines c (locals_spelling in_lines l steps)) s refl) (λ x is_x mid m. then_answers (clauses_complete c n d mid (locals_spelling in_kinds l spelled) (locals_spelling in_lines l steps) m no_clauses) (λ y is_y last q. body x is_x y is_y last q))
  where
    no_clauses : continues_clauses (first (locals_spelling in_kinds l spelled)) ≡ false
    no_clauses = no_locals continues_clauses refl refl l spelled (e continues_clauses (record { procedure = refl; function = refl; begin = refl }))

    no_forward : is (kind.Word word.Forward) (first (locals_spelling in_kinds l spelled)) ≡ false
    no_forward = no_locals (is (kind.Word word.Forward)) refl refl l spelled (e (is (kind.Word word.Forward)) (record { procedure = refl; function = refl; begin = refl }))

    body : (x : Heading) → x ≡ h → (y : Clauses) → y ≡ c → (last : List Token) → Stands last (locals_spelling in_kinds l spelled) (locals_spelling in_lines l steps) → Answers (read_mark_behind n x y last) (Begins h c l) last spelled steps
    body x is_x y is_y last q =
        answers_after (omega arith) (if_false _ (ap (is (kind.Word word.Forward)) (front_of q) ∙ no_forward) refl) (then_answers (locals_complete l n k last spelled steps q (e continues_locals (record { procedure = refl; function = refl; begin = refl }))) (λ z is_z rest r. done {y = Begins x y z} r (cc (is_x, is_y, is_z))))

-- ---- marks

heading_begins : (x : HeadingForm) (spelled : List TokenKind) → begins_heading (first (heading_form_spelling in_kinds x spelled)) ≡ true
heading_begins (heading.Procedure x p) spelled = refl
heading_begins (heading.Function x p t) spelled = refl

block_no_heading : (b : Block) (spelled : List TokenKind) → begins_heading (first (block_spelling in_kinds b spelled)) ≡ false
block_no_heading (block line t more) spelled = refl

-- a mark that begins a routine or announces one, and the others
opening_step : (n m begun : ℕ) (x : RoutineMark) (ms : List RoutineMark) (tokens : List Token) (middle spelled : List TokenKind) (between steps : List Step) → length tokens ≤ m → Stands tokens (routine_mark_spelling in_kinds x middle) (routine_mark_spelling in_lines x between) → begins_heading (first (routine_mark_spelling in_kinds x middle)) ≡ true → Answers (read_mark n tokens) x tokens middle between → ((k : ℕ) (mid : List Token) → length mid ≤ k → Stands mid middle between → Answers (marks n k (begun_behind begun x) mid) ms mid spelled steps) → Answers (marks n m begun tokens) (x ∷ ms) tokens spelled steps
opening_step n zero begun x ms tokens middle spelled between steps l s h a others =
    absurd (omega (arith, routine_mark_length x middle, kinds_length tokens, ap length s.spelled))
opening_step n (suc m) begun x ms tokens middle spelled between steps l s h a others =
    let b = others m a.rest (omega (arith, routine_mark_length x middle, kinds_length tokens, kinds_length a.rest, ap length s.spelled, ap length a.stands.spelled)) a.stands in
    record {
      rest = b.rest;
      is = ap (λ t. marks_by n (marks n m) begun t tokens) (ap begins_heading (front_of s) ∙ h) ∙ and_then_is _ a.is (and_then_is _ b.is refl);
      stands = b.stands;
      shorter = omega (arith, a.shorter, b.shorter);
    }

-- the end of a routine, and the others
closing_step : (n m begun : ℕ) (b : Block) (ms : List RoutineMark) (tokens : List Token) (middle spelled : List TokenKind) (between steps : List Step) → length tokens ≤ m → Stands tokens (routine_mark_spelling in_kinds (Ends b) middle) (routine_mark_spelling in_lines (Ends b) between) → Answers (ended (kind.Sign sign.Semicolon) (read_block n) tokens) b tokens middle between → ((k : ℕ) (mid : List Token) → length mid ≤ k → Stands mid middle between → Answers (marks n k begun mid) ms mid spelled steps) → Answers (marks n m (suc begun) tokens) (Ends b ∷ ms) tokens spelled steps
closing_step n zero begun x ms tokens middle spelled between steps l s a others =
    absurd (omega (arith, routine_mark_length (Ends x) middle, kinds_length tokens, ap length s.spelled))
closing_step n (suc m) begun x ms tokens middle spelled between steps l s a others =
    let b = others m a.rest (omega (arith, routine_mark_length (Ends x) middle, kinds_length tokens, kinds_length a.rest, ap length s.spelled, ap length a.stands.spelled)) a.stands in
    record {
      rest = b.rest;
      is = ap (λ t. marks_by n (marks n m) (suc begun) t tokens) (ap begins_heading (front_of s) ∙ block_no_heading x _) ∙ and_then_is _ a.is (and_then_is _ b.is refl);
      stands = b.stands;
      shorter = omega (arith, a.shorter, b.shorter);
    }

marks_complete : (n : ℕ) (ms : List RoutineMark) → routines_depth ms ≤ n → (begun m : ℕ) → routines_ok begun ms ≡ true → (tokens : List Token) (spelled : List TokenKind) (steps : List Step) → length tokens ≤ m → Stands tokens (routines_spelling in_kinds ms spelled) (routines_spelling in_lines ms steps) → begins_heading (first spelled) ≡ false → Answers (marks n m begun tokens) ms tokens spelled steps
marks_complete n [] d zero zero ok tokens spelled steps l s e = done s refl
marks_complete n [] d zero (suc m) ok tokens spelled steps l s e =
    answers_after (omega arith) (ap (λ b. marks_by n (marks n m) zero b tokens) (ap begins_heading (front_of s) ∙ e)) (done s refl)
marks_complete n [] d (suc begun) m ok tokens spelled steps l s e = absurd (false≢true ok)
marks_complete n (Announced h c ∷ ms) d begun m ok tokens spelled steps l s e =
    let a = announced_answers n h c (omega arith) tokens (routines_spelling in_kinds ms spelled) (routines_spelling in_lines ms steps) s in
    opening_step n m begun (Announced h c) ms tokens (routines_spelling in_kinds ms spelled) spelled (routines_spelling in_lines ms steps) steps l s (heading_begins h.form _) a (λ k mid h' t. marks_complete n ms (omega arith) begun k ok mid spelled steps h' t e)
marks_complete n (Begins h c x ∷ ms) d begun m ok tokens spelled steps l s e =
    let a = begins_answers n h c x (omega arith) (omega arith) tokens (routines_spelling in_kinds ms spelled) (routines_spelling in_lines ms steps) s (λ p q. marks_first p q begun ms spelled ok) in
    opening_step n m begun (Begins h c x) ms tokens (routines_spelling in_kinds ms spelled) spelled (routines_spelling in_lines ms steps) steps l s (heading_begins h.form _) a (λ k mid h' t. marks_complete n ms (omega arith) (suc begun) k ok mid spelled steps h' t e)
marks_complete n (Ends b ∷ ms) d zero m ok tokens spelled steps l s e = absurd (false≢true ok)
marks_complete n (Ends b ∷ ms) d (suc begun) m ok tokens spelled steps l s e =
    let a = ended_complete (kind.Sign sign.Semicolon) block_part never (read_block n) b refl refl (block_complete b n (left_true _ _ ok) (omega arith)) tokens (routines_spelling in_kinds ms spelled) (routines_spelling in_lines ms steps) s refl in
    closing_step n m begun b ms tokens (routines_spelling in_kinds ms spelled) spelled (routines_spelling in_lines ms steps) steps l s a (λ k mid h' t. marks_complete n ms (omega arith) begun k (right_true (block_ok b) _ ok) mid spelled steps h' t e)

pub routines_complete : (n : ℕ) (ms : List RoutineMark) → routines_depth ms ≤ n → routines_ok 0 ms ≡ true → Complete routines_part begins_heading (read_routines n) ms
routines_complete n ms d ok tokens spelled steps s e = marks_complete n ms d 0 (length tokens) ok tokens spelled steps (omega arith) s e

-- ---- programs

files_answers : (x : Option (Several Name)) {tokens : List Token} {spelled : List TokenKind} {steps : List Step} → Stands tokens (files_spelling in_kinds x (kind.Sign sign.Semicolon ∷ spelled)) (files_spelling in_lines x (passes ∷ steps)) → Answers (read_files tokens) x tokens (kind.Sign sign.Semicolon ∷ spelled) (passes ∷ steps)
files_answers None s = absent (kind.Sign sign.OpenParenthesis) (ended (kind.Sign sign.CloseParenthesis) read_names) s refl
files_answers (Some xs) {tokens} {spelled} {steps} s =
    present (kind.Sign sign.OpenParenthesis) (ended (kind.Sign sign.CloseParenthesis) read_names) refl s (λ mid m. ended_complete (kind.Sign sign.CloseParenthesis) names_part (is (kind.Sign sign.Comma)) read_names xs refl refl (names_complete xs) mid (kind.Sign sign.Semicolon ∷ spelled) (passes ∷ steps) m refl)

ended_files : (x : Option (Several Name)) {tokens : List Token} {spelled : List TokenKind} {steps : List Step} → Stands tokens (files_spelling in_kinds x (kind.Sign sign.Semicolon ∷ spelled)) (files_spelling in_lines x (passes ∷ steps)) → Answers (ended (kind.Sign sign.Semicolon) read_files tokens) x tokens spelled steps
ended_files x s = then_answers (files_answers x s) (λ y is_y mid m. past_answers (kind.Sign sign.Semicolon) refl m (λ rest r. done r is_y))

pub program_complete : (p : Program) (n : ℕ) → well_formed p ≡ true → program_depth p ≤ n → Complete program_part never (read_program n) p
program_complete p n ok d tokens spelled steps s e =
    let b = begun_of s in
    let line_is : first_line tokens ≡ p.line = b.line in
    past_answers (kind.Word word.Program) refl b.stands (λ one a. then_answers (name_complete p.name a) (λ x is_x two c. then_answers (ended_files p.files c) (λ files is_files three f. then_answers (declarations_complete p.declarations n (omega arith) three _ _ f declarations_end) (λ declarations is_declarations four g. then_answers (routines_complete n p.routines (omega arith) (left_true _ _ ok) four _ _ g routines_end) (λ routines is_routines five h. then_answers (entry_answers n p.entry (omega arith) h entry_end) (λ entry is_entry six k. then_answers (exit_answers n p.exit (omega arith) k exit_end) (λ exit is_exit seven l. then_answers (ended_complete (kind.Sign sign.Period) block_part never (read_block n) p.block refl refl (block_complete p.block n (right_true (routines_ok 0 p.routines) _ ok) (omega arith)) seven spelled steps l refl) (λ body is_body rest r. done {y = record { line = first_line tokens; name = x; files = files; declarations = declarations; routines = routines; entry = entry; exit = exit; block = body }} r (λ i. record { line = line_is i; name = is_x i; files = is_files i; declarations = is_declarations i; routines = is_routines i; entry = is_entry i; exit = is_exit i; block = is_body i })))))))))
  where
    body_spelled : List TokenKind
    body_spelled = block_spelling in_kinds p.block (kind.Sign sign.Period ∷ spelled)

    behind_routines : (q : Option TokenKind → Bool) → q (Some (kind.Word word.Entry)) ≡ false → q (Some (kind.Word word.Exit)) ≡ false → q (first body_spelled) ≡ false → q (first (entry_spelling in_kinds p.entry (exit_spelling in_kinds p.exit body_spelled))) ≡ false
    behind_routines q f g h = entry_ends q p.entry (exit_spelling in_kinds p.exit body_spelled) f (exit_ends q p.exit body_spelled g h)

    declarations_end : continues_declarations (first (routines_spelling in_kinds p.routines (entry_spelling in_kinds p.entry (exit_spelling in_kinds p.exit body_spelled)))) ≡ false
    declarations_end =
        let all : EndsRoutine continues_declarations = record { procedure = refl; function = refl; begin = refl } in
        routines_first continues_declarations all p.routines (entry_spelling in_kinds p.entry (exit_spelling in_kinds p.exit body_spelled)) (behind_routines continues_declarations refl refl (block_first continues_declarations all p.block (kind.Sign sign.Period ∷ spelled)))

    routines_end : begins_heading (first (entry_spelling in_kinds p.entry (exit_spelling in_kinds p.exit body_spelled))) ≡ false
    routines_end = behind_routines begins_heading refl refl (block_no_heading p.block (kind.Sign sign.Period ∷ spelled))

    exit_end : is (kind.Word word.Exit) (first body_spelled) ≡ false
    exit_end = block_first (is (kind.Word word.Exit)) (record { procedure = refl; function = refl; begin = refl }) p.block (kind.Sign sign.Period ∷ spelled)

    entry_end : is (kind.Word word.Entry) (first (exit_spelling in_kinds p.exit body_spelled)) ≡ false
    entry_end =
        exit_ends (is (kind.Word word.Entry)) p.exit body_spelled refl (block_first (is (kind.Word word.Entry)) (record { procedure = refl; function = refl; begin = refl }) p.block (kind.Sign sign.Period ∷ spelled))
