-- Headings, clauses, routines and programs are read as they are expected.
use Rattle.std.proofs.Common.{◌≡◌, ℕ, zero, suc, ◌≤◌, Bool, true, false, if◌then◌else◌, List, [], ◌∷◌, Option, Some, None, length, refl, ap, subst, arith}
use Rattle.spv_tree.specs.declared.tokens.token.Token.{Token}
use Rattle.spv_tree.specs.declared.tokens.token.TokenKind.{TokenKind}
use Rattle.spv_tree.specs.declared.tokens.token.TokenKind.TheVariants as kind
use Rattle.spv_tree.specs.declared.tokens.token.Word.TheVariants as word
use Rattle.spv_tree.specs.declared.tokens.token.Sign.TheVariants as sign
use Rattle.spv_tree.specs.declared.syntax.routines.GroupForm.TheVariants as group
use Rattle.spv_tree.specs.declared.syntax.routines.HeadingForm.TheVariants as heading
use Rattle.spv_tree.specs.declared.syntax.routines.Heading.{Heading}
use Rattle.spv_tree.specs.declared.syntax.routines.Clauses.{Clauses}
use Rattle.spv_tree.specs.declared.syntax.routines.RoutineMark.{RoutineMark}
use Rattle.spv_tree.specs.declared.syntax.routines.RoutineMark.TheVariants.{Announced, Begins, Ends}
use Rattle.spv_tree.specs.syntax.Steps.{first_line}
use Rattle.spv_grammar.specs.reading.Readers.{Outcome, Read, Halted, front, after, is, misfit, name, and_then, past, several_of, ended}
use Rattle.spv_grammar.specs.reading.FormulaReaders.{read_formula}
use Rattle.spv_grammar.specs.reading.StatementReaders.{read_block}
use Rattle.spv_grammar.specs.reading.TypeReaders.{read_names}
use Rattle.spv_grammar.specs.reading.RoutineReaders.{typed_name, read_variables, group_on, read_group, read_groups, read_params, read_result, heading_on, read_heading, begins_heading, read_item, read_items, read_global_group, read_global_groups, read_start, begun_behind, read_files, read_condition, read_clauses, read_locals, read_mark_behind, read_mark, marks_by, marks, read_routines, read_program}
use Rattle.spv_grammar.specs.expected_tokens.Expected.{Expected, taken, opened, typed_names, block_parts, clause_parts, mark_end_by, program, predict}
use Rattle.spv_grammar.specs.expected_tokens.Expected as expected
use Rattle.spv_grammar.specs.expected_tokens.Machine.{Leads, takes, opens}
use Rattle.spv_grammar.proofs.expected_tokens.Follows.{Follows, gives, one_less, misfit_at, open_at, take_first, take_at, then_by, then_within, past_within, shorter, follows_then, follows_past, follows_name, follows_several, follows_optional, follows_ended}
use Rattle.spv_grammar.proofs.expected_tokens.FormulaFollows.{formula_follows}
use Rattle.spv_grammar.proofs.expected_tokens.StatementFollows.{block_follows}
use Rattle.spv_grammar.proofs.expected_tokens.TypeFollows.{names_follow}
use Rattle.spv_grammar.proofs.expected_tokens.DeclarationFollows.{consts_follow, follows_maybe, name_or_class_follows, variables_follow, declarations_follow}

-- ---- headings

typed_follows : {m : ℕ} (tokens : List Token) → Follows m (expected.token (kind.Sign sign.Colon) ∷ expected.name ∷ []) tokens (typed_name tokens)
typed_follows tokens = follows_past _ tokens (λ rest. follows_name rest)

variables_group : {m : ℕ} (by_place : Bool) (tokens : List Token) → Follows m typed_names tokens (read_variables by_place tokens)
variables_group {m} by_place tokens = follows_then (names_follow tokens) (λ xs mid. follows_then (typed_follows mid) (λ t rest. gives m rest (group.Variables by_place xs t)))

group_on_follows : (m : ℕ) (tokens : List Token) (o : Option TokenKind) → front tokens ≡ o → Follows m (expected.group ∷ []) tokens (group_on o tokens)
group_on_follows m tokens (Some (kind.Word word.Var)) e = one_less (take_at m expected.group [] typed_names _ tokens _ e refl (variables_group true (after tokens)))
group_on_follows m tokens (Some (kind.Word word.Procedure)) e =
    one_less (take_at m expected.group [] (expected.name ∷ expected.more_names ∷ []) _ tokens _ e refl (follows_then (names_follow (after tokens)) (λ xs rest. gives m rest (group.Procedures xs))))
group_on_follows m tokens (Some (kind.Word word.Function)) e =
    one_less (take_at m expected.group [] typed_names _ tokens _ e refl (follows_then (names_follow (after tokens)) (λ xs mid. follows_then (typed_follows mid) (λ t rest. gives m rest (group.Functions xs t)))))
group_on_follows m tokens o e = open_at m expected.group [] typed_names _ tokens o e refl (variables_group false tokens)

group_follows : {m : ℕ} (tokens : List Token) → Follows m (expected.group ∷ []) tokens (read_group tokens)
group_follows {m} tokens = follows_then (group_on_follows m tokens (front tokens) refl) (λ x rest. gives m rest (record { line = first_line tokens; form = x }))

groups_follow : {m : ℕ} (line : ℕ) (tokens : List Token) → Follows m (expected.group ∷ expected.more_groups ∷ expected.token (kind.Sign sign.CloseParenthesis) ∷ []) tokens (read_groups line tokens)
groups_follow {m} line tokens =
    follows_then (follows_ended (kind.Sign sign.CloseParenthesis) (several_of (kind.Sign sign.Semicolon) read_group) tokens (follows_several expected.more_groups (expected.group ∷ []) (kind.Sign sign.Semicolon) read_group (λ o. refl) group_follows tokens)) (λ gs rest. gives m rest (record { line = line; groups = gs }))

params_follow : {m : ℕ} (tokens : List Token) → Follows m (expected.group_part ∷ []) tokens (read_params tokens)
params_follow tokens = follows_optional expected.group_part (expected.group ∷ expected.more_groups ∷ expected.token (kind.Sign sign.CloseParenthesis) ∷ []) (kind.Sign sign.OpenParenthesis) (read_groups (first_line tokens)) (λ o. refl) (groups_follow (first_line tokens)) tokens

result_follows : {m : ℕ} (tokens : List Token) → Follows m (expected.result_part ∷ []) tokens (read_result tokens)
result_follows tokens = follows_optional expected.result_part (expected.name ∷ []) (kind.Sign sign.Colon) name (λ o. refl) follows_name tokens

heading_on_follows : (m : ℕ) (tokens : List Token) (o : Option TokenKind) → front tokens ≡ o → Follows m (expected.heading ∷ []) tokens (heading_on o tokens)
heading_on_follows m tokens (Some (kind.Word word.Procedure)) e =
    one_less (take_at m expected.heading [] (expected.name ∷ expected.group_part ∷ []) _ tokens _ e refl (follows_then (follows_name (after tokens)) (λ x mid. follows_then (params_follow mid) (λ p rest. gives m rest (heading.Procedure x p)))))
heading_on_follows m tokens (Some (kind.Word word.Function)) e =
    one_less (take_at m expected.heading [] (expected.name ∷ expected.group_part ∷ expected.result_part ∷ []) _ tokens _ e refl (follows_then (follows_name (after tokens)) (λ x mid. follows_then (params_follow mid) (λ p last. follows_then (result_follows last) (λ t rest. gives m rest (heading.Function x p t))))))
heading_on_follows m tokens o e = misfit_at m expected.heading [] tokens o e refl

heading_follows : {m : ℕ} (tokens : List Token) → Follows m (expected.heading ∷ []) tokens (read_heading tokens)
heading_follows {m} tokens = follows_then (heading_on_follows m tokens (front tokens) refl) (λ x rest. gives m rest (record { line = first_line tokens; form = x }))

-- ---- clauses

item_follows : {m : ℕ} (tokens : List Token) → Follows m (expected.sort ∷ []) tokens (read_item tokens)
item_follows {m} tokens = follows_then (name_or_class_follows tokens) (λ x rest. gives m rest (record { line = first_line tokens; form = x }))

items_follow : {m : ℕ} (tokens : List Token) → Follows m (expected.sort ∷ expected.more_sorts ∷ []) tokens (read_items tokens)
items_follow tokens = follows_several expected.more_sorts (expected.sort ∷ []) (kind.Sign sign.Comma) read_item (λ o. refl) item_follows tokens

global_group_follows : {m : ℕ} (tokens : List Token) → Follows m (expected.global_group ∷ []) tokens (read_global_group tokens)
global_group_follows {m} tokens =
    follows_maybe expected.global_group (expected.sort ∷ expected.more_sorts ∷ []) (kind.Word word.Var) tokens (λ o. refl) (follows_then (items_follow (after tokens)) (λ xs rest. gives m rest (record { line = first_line tokens; by_place = true; items = xs }))) (follows_then (items_follow tokens) (λ xs rest. gives m rest (record { line = first_line tokens; by_place = false; items = xs })))

abbrev globals_parts : List Expected
globals_parts = expected.token (kind.Sign sign.OpenParenthesis) ∷ expected.global_group ∷ expected.more_global_groups ∷ expected.token (kind.Sign sign.CloseParenthesis) ∷ expected.token (kind.Sign sign.Semicolon) ∷ []

global_groups_follow : {m : ℕ} (tokens : List Token) → Follows m globals_parts tokens (read_global_groups tokens)
global_groups_follow tokens =
    follows_past _ tokens (λ rest. follows_ended (kind.Sign sign.Semicolon) (ended (kind.Sign sign.CloseParenthesis) (several_of (kind.Sign sign.Semicolon) read_global_group)) rest
    (follows_ended (kind.Sign sign.CloseParenthesis) (several_of (kind.Sign sign.Semicolon) read_global_group) rest (follows_several expected.more_global_groups (expected.global_group ∷ []) (kind.Sign sign.Semicolon) read_global_group (λ o. refl) global_group_follows rest)))

start_follows : {m : ℕ} (tokens : List Token) → Follows m (expected.sort ∷ expected.token (kind.Sign sign.Equal) ∷ expected.name ∷ []) tokens (read_start tokens)
start_follows {m} tokens =
    follows_then (item_follows tokens) (λ i mid. follows_past _ mid (λ last. follows_then (follows_name last) (λ x rest. gives m rest (record { line = first_line tokens; item = i; name = x }))))

abbrev starts_parts : List Expected
starts_parts = expected.sort ∷ expected.token (kind.Sign sign.Equal) ∷ expected.name ∷ expected.more_starts ∷ expected.token (kind.Sign sign.Semicolon) ∷ []

starts_follow : {m : ℕ} (tokens : List Token) → Follows m starts_parts tokens (ended (kind.Sign sign.Semicolon) (several_of (kind.Sign sign.Comma) read_start) tokens)
starts_follow tokens =
    follows_ended (kind.Sign sign.Semicolon) (several_of (kind.Sign sign.Comma) read_start) tokens (follows_several expected.more_starts (expected.sort ∷ expected.token (kind.Sign sign.Equal) ∷ expected.name ∷ []) (kind.Sign sign.Comma) read_start (λ o. refl) start_follows tokens)

files_follow : {m : ℕ} (tokens : List Token) → Follows m (expected.file_part ∷ []) tokens (read_files tokens)
files_follow tokens = follows_optional expected.file_part (expected.name ∷ expected.more_names ∷ expected.token (kind.Sign sign.CloseParenthesis) ∷ []) (kind.Sign sign.OpenParenthesis) (ended (kind.Sign sign.CloseParenthesis) read_names) (λ o. refl) (λ others. follows_ended (kind.Sign sign.CloseParenthesis) read_names others (names_follow others)) tokens

-- ---- a walk that is longer than what is left

none_is_longer : {p : Expected} (ps : List Expected) → p ∷ ps ≡ [] → ⊥
none_is_longer ps e = absurd (cc (e))

-- where the first part takes a token, less is left in the end
less_left : (p : Expected) (ps : List Expected) (tokens rest : List Token) → ((o : Option TokenKind) (parts : List Expected) → predict p o ≡ opened parts → ⊥) → Leads (p ∷ ps) tokens [] rest → suc (length rest) ≤ length tokens
less_left p ps _ _ no_open (takes _ parts _ t tokens _ rest e a) = let l = shorter a in omega (arith, l)
less_left p ps _ _ no_open (opens _ parts _ tokens _ rest e a) = absurd (no_open (front tokens) parts e)

heading_takes : (o : Option TokenKind) (parts : List Expected) → predict expected.heading o ≡ opened parts → ⊥
heading_takes (Some (kind.Word word.Procedure)) parts e = absurd (cc (e))
heading_takes (Some (kind.Word word.Function)) parts e = absurd (cc (e))
heading_takes o parts e = absurd (cc (e))

token_takes : (k : TokenKind) (o : Option TokenKind) (parts : List Expected) → predict (expected.token k) o ≡ opened parts → ⊥
token_takes k o parts e = by_test (is k o) e
  where
    by_test : (b : Bool) → expected.token_by b ≡ opened parts → ⊥
    by_test true f = absurd (cc (f))
    by_test false f = absurd (cc (f))

-- ---- ways to write the same

then_assoc : {A B C : Type 0} (o : Outcome A) (f : A → List Token → Outcome B) (g : B → List Token → Outcome C) → and_then o (λ x mid. and_then (f x mid) g) ≡ and_then (and_then o f) g
then_assoc (Read r) f g = refl
then_assoc (Halted s) f g = refl

past_assoc : {B C : Type 0} (k : TokenKind) (tokens : List Token) (f : List Token → Outcome B) (g : B → List Token → Outcome C) → past k tokens (λ rest. and_then (f rest) g) ≡ and_then (past k tokens f) g
past_assoc k tokens f g = by_test (is k (front tokens))
  where
    by_test : (b : Bool) → (if b then and_then (f (after tokens)) g else misfit tokens) ≡ and_then (if b then f (after tokens) else misfit tokens) g
    by_test true = refl
    by_test false = refl

-- ---- routines and programs

module _ (n : ℕ) where
  condition_follows : (k : TokenKind) (tokens : List Token) → Follows n (expected.condition_part k ∷ []) tokens (read_condition n k tokens)
  condition_follows k tokens =
      follows_optional (expected.condition_part k) (expected.formula ∷ expected.token (kind.Sign sign.Semicolon) ∷ []) k (ended (kind.Sign sign.Semicolon) (read_formula n)) (λ o. refl) (λ others. follows_ended (kind.Sign sign.Semicolon) (read_formula n) others (one_less (formula_follows n others))) tokens

  clauses_follow : (tokens : List Token) → Follows n (clause_parts []) tokens (read_clauses n tokens)
  clauses_follow tokens =
      follows_then (follows_optional expected.global_part globals_parts (kind.Word word.Global) read_global_groups (λ o. refl) global_groups_follow tokens) (λ gs mid.
      follows_then (follows_optional expected.initial_part starts_parts (kind.Word word.Initial) (ended (kind.Sign sign.Semicolon) (several_of (kind.Sign sign.Comma) read_start)) (λ o. refl) starts_follow mid) (λ ss last.
      follows_then (condition_follows (kind.Word word.Entry) last) (λ f next.
      follows_then (condition_follows (kind.Word word.Exit) next) (λ g rest. gives n rest (record { line = first_line tokens; globals = gs; initial = ss; entry = f; exit = g })))))

  locals_follow : (tokens : List Token) → Follows n (expected.const_part ∷ expected.var_part ∷ []) tokens (read_locals n tokens)
  locals_follow tokens =
      follows_then (consts_follow tokens) (λ constants mid. follows_then (variables_follow n mid) (λ variables rest. gives n rest (record { line = first_line tokens; constants = constants; variables = variables })))

  -- a mark from behind its clauses on, and what is made of it
  module _ {C : Type 0} (begun k : ℕ) (next : RoutineMark → List Token → Outcome C) (next_follows : (mark : RoutineMark) (mid : List Token) → length mid ≤ k → Follows n (expected.marks (begun_behind begun mark) ∷ []) mid (next mark mid)) where
    announced_follows : (h : Heading) (c : Clauses) (tokens : List Token) → length tokens ≤ k → Follows n (expected.token (kind.Sign sign.Semicolon) ∷ expected.marks begun ∷ []) tokens (and_then (past (kind.Sign sign.Semicolon) tokens (λ rest. Read (Announced h c, rest))) next)
    announced_follows h c tokens l =
        subst (λ (o : Outcome C). Follows n (expected.token (kind.Sign sign.Semicolon) ∷ expected.marks begun ∷ []) tokens o) (past_assoc (kind.Sign sign.Semicolon) tokens (λ rest. Read (Announced h c, rest)) next)
        (past_within k (kind.Sign sign.Semicolon) tokens l (λ rest s. next_follows (Announced h c) rest s))

    begins_follows : (h : Heading) (c : Clauses) (tokens : List Token) → length tokens ≤ k → Follows n (expected.const_part ∷ expected.var_part ∷ expected.marks (suc begun) ∷ []) tokens (and_then (and_then (read_locals n tokens) (λ l rest. Read (Begins h c l, rest))) next)
    begins_follows h c tokens l =
        subst (λ (o : Outcome C). Follows n (expected.const_part ∷ expected.var_part ∷ expected.marks (suc begun) ∷ []) tokens o) (then_assoc (read_locals n tokens) (λ ls rest. Read (Begins h c ls, rest)) next)
        (then_within k l (locals_follow tokens) (λ ls rest s. next_follows (Begins h c ls) rest s))

    mark_behind_follows : (h : Heading) (c : Clauses) (tokens : List Token) → length tokens ≤ k → Follows n (expected.mark_end begun ∷ []) tokens (and_then (read_mark_behind n h c tokens) next)
    mark_behind_follows h c [] l = open_at n (expected.mark_end begun) [] (expected.const_part ∷ expected.var_part ∷ expected.marks (suc begun) ∷ []) _ [] None refl refl (begins_follows h c [] l)
    mark_behind_follows h c (t ∷ tokens) l = by_test (is (kind.Word word.Forward) (Some t.kind)) refl
      where
        by_test : (b : Bool) → is (kind.Word word.Forward) (Some t.kind) ≡ b → Follows n (expected.mark_end begun ∷ []) (t ∷ tokens) (and_then (if b then past (kind.Sign sign.Semicolon) tokens (λ rest. Read (Announced h c, rest)) else and_then (read_locals n (t ∷ tokens)) (λ ls rest. Read (Begins h c ls, rest))) next)
        by_test true e = one_less (take_first n (expected.mark_end begun) [] (expected.token (kind.Sign sign.Semicolon) ∷ expected.marks begun ∷ []) _ t tokens (ap (mark_end_by begun) e) (announced_follows h c tokens (omega (arith, l))))
        by_test false e = open_at n (expected.mark_end begun) [] (expected.const_part ∷ expected.var_part ∷ expected.marks (suc begun) ∷ []) _ (t ∷ tokens) (Some t.kind) refl (ap (mark_end_by begun) e) (begins_follows h c (t ∷ tokens) l)

    clauses_then : (h : Heading) (tokens : List Token) → length tokens ≤ k → Follows n (clause_parts (expected.mark_end begun ∷ [])) tokens (and_then (and_then (read_clauses n tokens) (λ c rest. read_mark_behind n h c rest)) next)
    clauses_then h tokens l =
        subst (λ (o : Outcome C). Follows n (clause_parts (expected.mark_end begun ∷ [])) tokens o) (then_assoc (read_clauses n tokens) (λ c rest. read_mark_behind n h c rest) next)
        (then_within k l (clauses_follow tokens) (λ c rest s. mark_behind_follows h c rest s))

    -- a whole mark, and what is made of it
    mark_follows : (tokens : List Token) → length tokens ≤ suc k → Follows n (expected.heading ∷ expected.token (kind.Sign sign.Semicolon) ∷ clause_parts (expected.mark_end begun ∷ [])) tokens (and_then (read_mark n tokens) next)
    mark_follows tokens l =
        subst (λ (o : Outcome C). Follows n (expected.heading ∷ expected.token (kind.Sign sign.Semicolon) ∷ clause_parts (expected.mark_end begun ∷ [])) tokens o) (then_assoc (ended (kind.Sign sign.Semicolon) read_heading tokens) (λ h mid. and_then (read_clauses n mid) (λ c rest. read_mark_behind n h c rest)) next)
        (then_by (ended (kind.Sign sign.Semicolon) read_heading tokens) _ ended_heading (λ h mid is. clauses_then h mid (by_less mid (less_left expected.heading (expected.token (kind.Sign sign.Semicolon) ∷ []) tokens mid heading_takes (ended_heading.read h mid is [])))))
      where
        ended_heading : Follows n (expected.heading ∷ expected.token (kind.Sign sign.Semicolon) ∷ []) tokens (ended (kind.Sign sign.Semicolon) read_heading tokens)
        ended_heading = follows_ended (kind.Sign sign.Semicolon) read_heading tokens (heading_follows tokens)

        by_less : (mid : List Token) → suc (length mid) ≤ length tokens → length mid ≤ k
        by_less mid s = omega (arith, s, l)

  abbrev mark_parts : ℕ → List Expected
  mark_parts begun = expected.heading ∷ expected.token (kind.Sign sign.Semicolon) ∷ clause_parts (expected.mark_end begun ∷ [])

  abbrev end_parts : ℕ → List Expected
  end_parts begun = expected.token (kind.Word word.Begin) ∷ block_parts (expected.token (kind.Sign sign.Semicolon) ∷ expected.marks begun ∷ [])

  ended_block : (tokens : List Token) → Follows n (expected.token (kind.Word word.Begin) ∷ block_parts (expected.token (kind.Sign sign.Semicolon) ∷ [])) tokens (ended (kind.Sign sign.Semicolon) (read_block n) tokens)
  ended_block tokens = follows_ended (kind.Sign sign.Semicolon) (read_block n) tokens (block_follows n tokens)

  block_less : (tokens mid : List Token) (b : _) → ended (kind.Sign sign.Semicolon) (read_block n) tokens ≡ Read (b, mid) → suc (length mid) ≤ length tokens
  block_less tokens mid b is = less_left (expected.token (kind.Word word.Begin)) (block_parts (expected.token (kind.Sign sign.Semicolon) ∷ [])) tokens mid (token_takes (kind.Word word.Begin)) ((ended_block tokens).read b mid is [])

  marks_follow : (k begun : ℕ) (tokens : List Token) → length tokens ≤ k → Follows n (expected.marks begun ∷ []) tokens (marks n k begun tokens)
  marks_follow zero zero [] l = open_at n (expected.marks zero) [] [] _ [] None refl refl (gives n [] [])
  marks_follow zero (suc begun) [] l = open_at n (expected.marks (suc begun)) [] (end_parts begun) _ [] None refl refl (misfit_at n (expected.token (kind.Word word.Begin)) _ [] None refl refl)
  marks_follow zero begun (t ∷ tokens) l = absurd (omega (arith, l))
  marks_follow (suc k) begun tokens l = by_test begun (begins_heading (front tokens)) refl
      (λ marked mid s. marks_follow k marked mid s)
    where
      by_test : (count : ℕ) (b : Bool) → begins_heading (front tokens) ≡ b → ((marked : ℕ) (mid : List Token) → length mid ≤ k → Follows n (expected.marks marked ∷ []) mid (marks n k marked mid)) → Follows n (expected.marks count ∷ []) tokens (marks_by n (marks n k) count b tokens)
      by_test count true e h =
          open_at n (expected.marks count) [] (mark_parts count) _ tokens (front tokens) refl (ap (expected.marks_by count) e)
          (mark_follows count k (λ m mid. and_then (marks n k (begun_behind count m) mid) (λ ms rest. Read (m ∷ ms, rest))) (λ mark mid s. follows_then (h (begun_behind count mark) mid s) (λ ms rest. gives n rest (mark ∷ ms))) tokens l)
      by_test zero false e h = open_at n (expected.marks zero) [] [] _ tokens (front tokens) refl (ap (expected.marks_by zero) e) (gives n tokens [])
      by_test (suc count) false e h =
          open_at n (expected.marks (suc count)) [] (end_parts count) _ tokens (front tokens) refl (ap (expected.marks_by (suc count)) e)
          (then_by (ended (kind.Sign sign.Semicolon) (read_block n) tokens) _ (ended_block tokens) (λ b mid is. let s = block_less tokens mid b is in follows_then (h count mid (omega (arith, s, l))) (λ ms rest. gives n rest (Ends b ∷ ms))))

  routines_follow : (tokens : List Token) → Follows n (expected.marks zero ∷ []) tokens (read_routines n tokens)
  routines_follow tokens = marks_follow (length tokens) zero tokens (omega arith)

  pub program_follows : (tokens : List Token) → Follows n program tokens (read_program n tokens)
  program_follows tokens =
      follows_past _ tokens (λ one.
      follows_then (follows_name one) (λ x two.
      follows_then (follows_ended (kind.Sign sign.Semicolon) read_files two (files_follow two)) (λ files three.
      follows_then (declarations_follow n three) (λ declarations four.
      follows_then (routines_follow four) (λ routines five.
      follows_then (condition_follows (kind.Word word.Entry) five) (λ entry six.
      follows_then (condition_follows (kind.Word word.Exit) six) (λ exit seven.
      follows_then (follows_ended (kind.Sign sign.Period) (read_block n) seven (block_follows n seven)) (λ block rest. gives n rest (record { line = first_line tokens; name = x; files = files; declarations = declarations; routines = routines; entry = entry; exit = exit; block = block })))))))))
