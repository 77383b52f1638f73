-- Constants and statements are read as they are expected.
use Rattle.std.proofs.Common.{◌≡◌, ℕ, zero, suc, Bool, true, false, if◌then◌else◌, List, [], ◌∷◌, ◌++◌, Option, Some, None, length, refl, sym, ap, subst}
use Rattle.spv_tree.specs.declared.tokens.token.Token.{Token}
use Rattle.spv_tree.specs.declared.tokens.token.TokenKind.{TokenKind}
use Rattle.spv_tree.specs.declared.tokens.token.TokenKind.TheVariants as kind
use Rattle.spv_tree.specs.declared.tokens.token.Word.TheVariants as word
use Rattle.spv_tree.specs.declared.tokens.token.Sign.TheVariants as sign
use Rattle.spv_tree.specs.declared.syntax.names.Name.{Name}
use Rattle.spv_tree.specs.declared.syntax.operators.PlusOrMinus.{PlusOrMinus}
use Rattle.spv_tree.specs.declared.syntax.operators.Direction.{Direction}
use Rattle.spv_tree.specs.syntax.Formulas.{Formula, designator, Selector, Selectors, no_selectors, selectors}
use Rattle.spv_tree.specs.syntax.Statements.{Statement, assignment, call, creation, compound, conditional, selection, repetition, assertion, otherwise, block, no_more_statements, more_statements, no_arm, arm, no_more_arms, more_arms, Loop, while_loop, repeat_loop, for_loop}
use Rattle.spv_tree.specs.syntax.Steps.{first_line}
use Rattle.spv_grammar.specs.reading.Readers.{Outcome, Read, Halted, front, after, is, Reader, Next, and_then, past, items_by, items}
use Rattle.spv_grammar.proofs.reading.Fronts.{read_is}
use Rattle.spv_grammar.specs.reading.FormulaReaders.{prefix_of, selector_by, read_inner, read_formula}
use Rattle.spv_grammar.specs.reading.StatementReaders.{scalar_by, constant_by, signed_by, read_constant, read_constants, begins_constant, direction_of, read_call, read_creation, read_becomes, read_action, read_more_statements, read_block_behind, block_by, read_arm, read_more_arms, read_otherwise, read_while, read_repeat, read_to, read_for, loop_by, read_repetition, read_conditional, read_selection, statement_on, statement_by, read_lower, read_block}
use Rattle.spv_grammar.specs.expected_tokens.Expected.{signed, directed, opened_if, while_parts, repeat_parts, for_parts, block_parts, taken, opened, Expected, predict}
use Rattle.spv_grammar.specs.expected_tokens.Expected as expected
use Rattle.spv_grammar.proofs.expected_tokens.Follows.{Follows, gives, no_level, one_less, misfit_at, open_at, take_first, take_at, then_by, follows_then, follows_past, follows_name, follows_items, shorter, follows_all, follows_behind, follows_several, follows_if}
use Rattle.spv_grammar.proofs.expected_tokens.FormulaFollows.{index_follows, field_follows, selector_item, designator_follows, inner_follows, formula_follows}

-- ---- constants

scalar_by_follows : (m : ℕ) (tokens : List Token) (o : Option TokenKind) → front tokens ≡ o → Follows m (expected.scalar ∷ []) tokens (scalar_by o tokens)
scalar_by_follows m tokens (Some (kind.Number n)) e = one_less (take_at m expected.scalar [] [] _ tokens _ e refl (gives m (after tokens) _))
scalar_by_follows m tokens (Some (kind.Name x)) e = one_less (take_at m expected.scalar [] [] _ tokens _ e refl (gives m (after tokens) _))
scalar_by_follows m tokens o e = misfit_at m expected.scalar [] tokens o e refl

constant_by_follows : {m : ℕ} (line : ℕ) (prefix : Option PlusOrMinus) (tokens : List Token) → Follows m (expected.scalar ∷ []) tokens (constant_by line prefix tokens)
constant_by_follows {m} line prefix tokens = follows_then (scalar_by_follows m tokens (front tokens) refl) (λ x rest. gives m rest (record { line = line; sign = prefix; value = x }))

pub constant_follows : {m : ℕ} (tokens : List Token) → Follows m (expected.constant ∷ []) tokens (read_constant tokens)
constant_follows {m} [] = open_at m expected.constant [] (expected.scalar ∷ []) _ [] None refl refl (constant_by_follows (first_line []) None [])
constant_follows {m} (t ∷ tokens) = by_prefix (prefix_of (Some t.kind)) refl
  where
    by_prefix : (o : Option PlusOrMinus) → prefix_of (Some t.kind) ≡ o → Follows m (expected.constant ∷ []) (t ∷ tokens) (signed_by o (t ∷ tokens))
    by_prefix None e = open_at m expected.constant [] (expected.scalar ∷ []) _ (t ∷ tokens) (Some t.kind) refl (ap (λ o. signed o (expected.scalar ∷ [])) e) (constant_by_follows (first_line (t ∷ tokens)) None (t ∷ tokens))
    by_prefix (Some s) e = one_less (take_first m expected.constant [] (expected.scalar ∷ []) _ t tokens (ap (λ o. signed o (expected.scalar ∷ [])) e) (constant_by_follows (first_line (t ∷ tokens)) (Some s) tokens))

constants_follow : {m : ℕ} (tokens : List Token) → Follows m (expected.constant ∷ expected.more_constants ∷ []) tokens (read_constants tokens)
constants_follow tokens = follows_several expected.more_constants (expected.constant ∷ []) (kind.Sign sign.Comma) read_constant (λ o. refl) constant_follows tokens

-- ---- calls, assignments and NEW

module _ {m : ℕ} (inner : Reader Formula) (inner_follows : (tokens : List Token) → Follows m (expected.formula ∷ []) tokens (inner tokens)) where
  call_follows : (x : Name) (tokens : List Token) → Follows m (expected.formula ∷ expected.more_formulas ∷ expected.token (kind.Sign sign.CloseParenthesis) ∷ []) tokens (read_call inner x tokens)
  call_follows x tokens =
      follows_then (follows_several expected.more_formulas (expected.formula ∷ []) (kind.Sign sign.Comma) inner (λ o. refl) inner_follows tokens) (λ fs last. follows_past _ last (λ rest. gives m rest (call x.line x (Some fs))))

  creation_follows : (line : ℕ) (tokens : List Token) → Follows m (expected.token (kind.Sign sign.OpenParenthesis) ∷ expected.name ∷ expected.selectors ∷ expected.token (kind.Sign sign.CloseParenthesis) ∷ []) tokens (read_creation inner line tokens)
  creation_follows line tokens =
      follows_past _ tokens (λ mid. follows_then (designator_follows inner inner_follows mid) (λ d last. follows_past _ last (λ rest. gives m rest (creation line d))))

  module _ (read : Reader Formula) (read_follows : (tokens : List Token) → Follows m (expected.formula ∷ []) tokens (read tokens)) where
    -- ":=" and a formula, behind selectors of which there is one at least
    must_become : (x : Name) (s : Selector) (more : Selectors) (tokens : List Token) → Follows m (expected.token (kind.Sign sign.Becomes) ∷ expected.formula ∷ []) tokens (read_becomes read inner x (selectors s more) tokens)
    must_become x s more tokens = follows_past (kind.Sign sign.Becomes) tokens (λ rest. follows_then (read_follows rest) (λ f last. gives m last (assignment x.line (designator x.line x (selectors s more)) f)))

    abbrev next_selector : Next Selector
    next_selector tokens = selector_by inner (front tokens) tokens

    -- a selector and those behind it
    abbrev with_others : ℕ → Outcome Selector → Outcome Selectors
    with_others n o = and_then o (λ s mid. and_then (items no_selectors selectors next_selector n mid) (λ more rest. Read (selectors s more, rest)))

    record Some_selectors (x : Selectors) : Type 0 where
      front_one : Selector
      others : Selectors
      is_both : x ≡ selectors front_one others

    some_selectors : (n : ℕ) (o : Outcome Selector) (x : Selectors) (rest : List Token) → with_others n o ≡ Read (x, rest) → Some_selectors x
    some_selectors n (Read (s, mid)) x rest e = by_others (items no_selectors selectors next_selector n mid) e
      where
        by_others : (p : Outcome Selectors) → and_then p (λ more last. Read (selectors s more, last)) ≡ Read (x, rest) → Some_selectors x
        by_others (Read (more, last)) f = record { front_one = s; others = more; is_both = sym (ap (λ r. r.0) (read_is (selectors s more, last) (x, rest) f)) }
        by_others (Halted h) f = absurd (cc (f))
    some_selectors n (Halted h) x rest e = absurd (cc (e))

    becomes_behind : (x : Name) (parts : List Expected) (tokens : List Token) (o : Outcome Selector) → Follows m parts tokens o → Follows m ((parts ++ expected.selectors ∷ []) ++ expected.token (kind.Sign sign.Becomes) ∷ expected.formula ∷ []) tokens (and_then (with_others (length tokens) o) (λ selected rest. read_becomes read inner x selected rest))
    becomes_behind x parts tokens o f = then_by (with_others (length tokens) o) _ all_selectors (λ selected rest is. by_some selected rest (some_selectors (length tokens) o selected rest is))
      where
        all_selectors : Follows m (parts ++ expected.selectors ∷ []) tokens (with_others (length tokens) o)
        all_selectors = then_by o _ f (λ s mid is. follows_then (follows_items expected.selectors no_selectors selectors next_selector (selector_item inner inner_follows) (length tokens) mid (shorter (f.read s mid is []))) (λ more rest. gives m rest (selectors s more)))

        by_some : (selected : Selectors) (rest : List Token) → Some_selectors selected → Follows m (expected.token (kind.Sign sign.Becomes) ∷ expected.formula ∷ []) rest (read_becomes read inner x selected rest)
        by_some selected rest some = subst (λ y. Follows m (expected.token (kind.Sign sign.Becomes) ∷ expected.formula ∷ []) rest (read_becomes read inner x y rest)) (sym some.is_both) (must_become x some.front_one some.others rest)

    -- [":=" formula], behind a name
    plain_action : (x : Name) (t : Token) (tokens : List Token) (b : Bool) → predict expected.action (Some t.kind) ≡ (if b then taken (expected.formula ∷ []) else opened [])
        → Follows m (expected.action ∷ []) (t ∷ tokens) (if b then and_then (read tokens) (λ f rest. Read (assignment x.line (designator x.line x no_selectors) f, rest)) else Read (call x.line x None, t ∷ tokens))
    plain_action x t tokens true e =
        one_less (take_first m expected.action [] (expected.formula ∷ []) _ t tokens e (follows_then (read_follows tokens) (λ f rest. gives m rest (assignment x.line (designator x.line x no_selectors) f))))
    plain_action x t tokens false e = open_at m expected.action [] [] _ (t ∷ tokens) (Some t.kind) refl e (gives m (t ∷ tokens) _)

    abbrev selected_on : Option TokenKind → Token → List Token → Outcome Selectors
    selected_on o t tokens = items_by no_selectors selectors (items no_selectors selectors next_selector (length tokens)) (selector_by inner o (t ∷ tokens)) (t ∷ tokens)

    action_follows : (x : Name) (tokens : List Token) → Follows m (expected.action ∷ []) tokens (read_action read inner x tokens)
    action_follows x [] = open_at m expected.action [] [] _ [] None refl refl (gives m [] _)
    action_follows x (t ∷ tokens) = by_kind t.kind refl
      where
        by_kind : (k : TokenKind) → t.kind ≡ k → Follows m (expected.action ∷ []) (t ∷ tokens) (if is (kind.Sign sign.OpenParenthesis) (Some k) then read_call inner x tokens else and_then (selected_on (Some k) t tokens) (λ selected rest. read_becomes read inner x selected rest))
        by_kind (kind.Sign sign.OpenParenthesis) e =
            one_less (take_first m expected.action [] (expected.formula ∷ expected.more_formulas ∷ expected.token (kind.Sign sign.CloseParenthesis) ∷ []) _ t tokens (ap (λ k. predict expected.action (Some k)) e) (call_follows x tokens))
        by_kind (kind.Sign sign.OpenBracket) e =
            one_less (take_first m expected.action [] (expected.formula ∷ expected.more_formulas ∷ expected.token (kind.Sign sign.CloseBracket) ∷ expected.selectors ∷ expected.token (kind.Sign sign.Becomes) ∷ expected.formula ∷ []) _ t tokens (ap (λ k. predict expected.action (Some k)) e)
            (becomes_behind x (expected.formula ∷ expected.more_formulas ∷ expected.token (kind.Sign sign.CloseBracket) ∷ []) tokens _ (index_follows inner inner_follows _ tokens)))
        by_kind (kind.Sign sign.Period) e =
            one_less (take_first m expected.action [] (expected.name ∷ expected.selectors ∷ expected.token (kind.Sign sign.Becomes) ∷ expected.formula ∷ []) _ t tokens (ap (λ k. predict expected.action (Some k)) e)
            (becomes_behind x (expected.name ∷ []) tokens _ (field_follows inner inner_follows _ tokens)))
        by_kind (kind.Sign sign.Caret) e =
            one_less (take_first m expected.action [] (expected.selectors ∷ expected.token (kind.Sign sign.Becomes) ∷ expected.formula ∷ []) _ t tokens (ap (λ k. predict expected.action (Some k)) e)
            (becomes_behind x [] tokens _ (gives m tokens _)))
        by_kind k e = plain_action x t tokens (is (kind.Sign sign.Becomes) (Some t.kind)) (subst (λ (l : TokenKind). predict expected.action (Some l) ≡ (if is (kind.Sign sign.Becomes) (Some l) then taken (expected.formula ∷ []) else opened [])) (sym e) refl)

-- ---- statements inside others

module _ {m : ℕ} (lower : Reader Statement) (lower_follows : (tokens : List Token) → Follows m (expected.statement ∷ []) tokens (lower tokens)) where
  more_statements_follow : (tokens : List Token) → Follows m (expected.more_statements ∷ []) tokens (read_more_statements lower tokens)
  more_statements_follow tokens = follows_all expected.more_statements no_more_statements more_statements _ (follows_behind expected.more_statements (expected.statement ∷ []) (kind.Sign sign.Semicolon) lower (λ o. refl) lower_follows) tokens

  block_behind_follows : (line : ℕ) (tokens : List Token) → Follows m (block_parts []) tokens (read_block_behind lower line tokens)
  block_behind_follows line tokens = follows_then (lower_follows tokens) (λ s mid. follows_then (more_statements_follow mid) (λ more last. follows_past _ last (λ rest. gives m rest (block line s more))))

  pub block_by_follows : (tokens : List Token) → Follows m (expected.token (kind.Word word.Begin) ∷ block_parts []) tokens (block_by lower tokens)
  block_by_follows tokens = follows_past _ tokens (λ rest. block_behind_follows (first_line tokens) rest)

  arm_follows : (tokens : List Token) → Follows m (expected.arm ∷ []) tokens (read_arm lower tokens)
  arm_follows tokens = by_test (begins_constant (front tokens)) refl
    where
      by_test : (b : Bool) → begins_constant (front tokens) ≡ b → Follows m (expected.arm ∷ []) tokens (if b then and_then (read_constants tokens) (λ cs mid. past (kind.Sign sign.Colon) mid (λ last. and_then (lower last) (λ s rest. Read (arm (first_line tokens) cs s, rest)))) else Read (no_arm (first_line tokens), tokens))
      by_test true e =
          open_at m expected.arm [] (expected.constant ∷ expected.more_constants ∷ expected.token (kind.Sign sign.Colon) ∷ expected.statement ∷ []) _ tokens (front tokens) refl (ap (λ b. opened_if b (expected.constant ∷ expected.more_constants ∷ expected.token (kind.Sign sign.Colon) ∷ expected.statement ∷ [])) e)
          (follows_then (constants_follow tokens) (λ cs mid. follows_past _ mid (λ last. follows_then (lower_follows last) (λ s rest. gives m rest (arm (first_line tokens) cs s)))))
      by_test false e =
          open_at m expected.arm [] [] _ tokens (front tokens) refl (ap (λ b. opened_if b (expected.constant ∷ expected.more_constants ∷ expected.token (kind.Sign sign.Colon) ∷ expected.statement ∷ [])) e) (gives m tokens _)

  more_arms_follow : (tokens : List Token) → Follows m (expected.more_arms ∷ []) tokens (read_more_arms lower tokens)
  more_arms_follow tokens = follows_all expected.more_arms no_more_arms more_arms _ (follows_behind expected.more_arms (expected.arm ∷ []) (kind.Sign sign.Semicolon) (read_arm lower) (λ o. refl) arm_follows) tokens

  otherwise_follows : (tokens : List Token) → Follows m (expected.otherwise ∷ []) tokens (read_otherwise lower tokens)
  otherwise_follows tokens = follows_if expected.otherwise (expected.statement ∷ []) (kind.Word word.Else) tokens (λ o. refl) (follows_then (lower_follows (after tokens)) (λ s rest. gives m rest (otherwise s))) (gives m tokens _)

  module _ (read : Reader Formula) (read_follows : (tokens : List Token) → Follows m (expected.formula ∷ []) tokens (read tokens)) where
    while_follows : (line : ℕ) (tokens : List Token) → Follows m while_parts tokens (read_while lower read line tokens)
    while_follows line tokens = follows_then (read_follows tokens) (λ f mid. follows_past _ mid (λ last. follows_then (lower_follows last) (λ s rest. gives m rest (while_loop line f s))))

    repeat_follows : (line : ℕ) (tokens : List Token) → Follows m repeat_parts tokens (read_repeat lower read line tokens)
    repeat_follows line tokens =
        follows_then (lower_follows tokens) (λ s mid. follows_then (more_statements_follow mid) (λ more last. follows_past _ last (λ next. follows_then (read_follows next) (λ f rest. gives m rest (repeat_loop line s more f)))))

    to_follows : (line : ℕ) (x : Name) (from : Formula) (tokens : List Token) → Follows m (expected.direction ∷ expected.formula ∷ expected.token (kind.Word word.Do) ∷ expected.statement ∷ []) tokens (read_to lower read line x from (direction_of (front tokens)) tokens)
    to_follows line x from [] = misfit_at m expected.direction _ [] None refl refl
    to_follows line x from (t ∷ tokens) = by_direction (direction_of (Some t.kind)) refl
      where
        by_direction : (o : Option Direction) → direction_of (Some t.kind) ≡ o → Follows m (expected.direction ∷ expected.formula ∷ expected.token (kind.Word word.Do) ∷ expected.statement ∷ []) (t ∷ tokens) (read_to lower read line x from o (t ∷ tokens))
        by_direction None e = misfit_at m expected.direction _ (t ∷ tokens) (Some t.kind) refl (ap directed e)
        by_direction (Some towards) e =
            one_less (take_first m expected.direction (expected.formula ∷ expected.token (kind.Word word.Do) ∷ expected.statement ∷ []) [] _ t tokens (ap directed e)
            (follows_then (read_follows tokens) (λ to mid. follows_past _ mid (λ last. follows_then (lower_follows last) (λ s rest. gives m rest (for_loop line x from towards to s))))))

    for_follows : (line : ℕ) (tokens : List Token) → Follows m for_parts tokens (read_for lower read line tokens)
    for_follows line tokens =
        follows_then (follows_name tokens) (λ x mid. follows_past _ mid (λ last. follows_then (read_follows last) (λ from next. to_follows line x from next)))

    -- a loop behind its invariant
    repeated : (line : ℕ) (invariant : Option Formula) {parts : List Expected} (tokens : List Token) (o : Outcome Loop) → Follows m parts tokens o → Follows m (parts ++ []) tokens (and_then o (λ l rest. Read (repetition line invariant l, rest)))
    repeated line invariant tokens o f = then_by o _ f (λ l rest is. gives m rest (repetition line invariant l))

    loop_follows : (tokens : List Token) (o : Option TokenKind) → front tokens ≡ o → Follows m (expected.loop ∷ []) tokens (loop_by lower read o tokens)
    loop_follows tokens (Some (kind.Word word.While)) e = one_less (take_at m expected.loop [] while_parts _ tokens _ e refl (while_follows _ (after tokens)))
    loop_follows tokens (Some (kind.Word word.Repeat)) e = one_less (take_at m expected.loop [] repeat_parts _ tokens _ e refl (repeat_follows _ (after tokens)))
    loop_follows tokens (Some (kind.Word word.For)) e = one_less (take_at m expected.loop [] for_parts _ tokens _ e refl (for_follows _ (after tokens)))
    loop_follows tokens o e = misfit_at m expected.loop [] tokens o e refl

    repetition_follows : (line : ℕ) (invariant : Option Formula) (tokens : List Token) → Follows m (expected.loop ∷ []) tokens (read_repetition lower read line invariant tokens)
    repetition_follows line invariant tokens = repeated line invariant tokens (loop_by lower read (front tokens) tokens) (loop_follows tokens (front tokens) refl)

    conditional_follows : (line : ℕ) (tokens : List Token) → Follows m (expected.formula ∷ expected.token (kind.Word word.Then) ∷ expected.statement ∷ expected.otherwise ∷ []) tokens (read_conditional lower read line tokens)
    conditional_follows line tokens =
        follows_then (read_follows tokens) (λ f mid. follows_past _ mid (λ last. follows_then (lower_follows last) (λ s next. follows_then (otherwise_follows next) (λ other rest. gives m rest (conditional line f s other)))))

    selection_follows : (line : ℕ) (tokens : List Token) → Follows m (expected.formula ∷ expected.token (kind.Word word.Of) ∷ expected.arm ∷ expected.more_arms ∷ expected.token (kind.Word word.End) ∷ []) tokens (read_selection lower read line tokens)
    selection_follows line tokens =
        follows_then (read_follows tokens) (λ f mid. follows_past _ mid (λ last. follows_then (arm_follows last) (λ a next. follows_then (more_arms_follow next) (λ more end. follows_past _ end (λ rest. gives m rest (selection line f a more))))))

    module _ (inner : Reader Formula) (inner_follows : (tokens : List Token) → Follows m (expected.formula ∷ []) tokens (inner tokens)) where
      -- a loop without an invariant, whose first token is this one
      looping : (tokens : List Token) (k : TokenKind) → front tokens ≡ Some k → (parts : List Expected) → Follows m parts (after tokens) (loop_by lower read (Some k) tokens) → Follows m (parts ++ []) (after tokens) (read_repetition lower read (first_line tokens) None tokens)
      looping tokens k e parts f = subst (λ (o : Option TokenKind). Follows m (parts ++ []) (after tokens) (and_then (loop_by lower read o tokens) (λ l rest. Read (repetition (first_line tokens) None l, rest)))) (sym e) (repeated _ None (after tokens) _ f)

      statement_on_follows : (tokens : List Token) (o : Option TokenKind) → front tokens ≡ o → Follows (suc m) (expected.statement ∷ []) tokens (statement_on lower read inner o tokens)
      statement_on_follows tokens (Some (kind.Name x)) e = take_at m expected.statement [] (expected.action ∷ []) _ tokens _ e refl (action_follows inner inner_follows read read_follows _ (after tokens))
      statement_on_follows tokens (Some (kind.Word word.New)) e = take_at m expected.statement [] (expected.token (kind.Sign sign.OpenParenthesis) ∷ expected.name ∷ expected.selectors ∷ expected.token (kind.Sign sign.CloseParenthesis) ∷ []) _ tokens _ e refl (creation_follows inner inner_follows _ (after tokens))
      statement_on_follows tokens (Some (kind.Word word.Begin)) e = take_at m expected.statement [] (block_parts []) _ tokens _ e refl (follows_then (block_behind_follows _ (after tokens)) (λ b rest. gives m rest (compound (first_line tokens) b)))
      statement_on_follows tokens (Some (kind.Word word.If)) e = take_at m expected.statement [] _ _ tokens _ e refl (conditional_follows _ (after tokens))
      statement_on_follows tokens (Some (kind.Word word.Case)) e = take_at m expected.statement [] _ _ tokens _ e refl (selection_follows _ (after tokens))
      statement_on_follows tokens (Some (kind.Word word.Invariant)) e = take_at m expected.statement [] (expected.formula ∷ expected.loop ∷ []) _ tokens _ e refl (follows_then (read_follows (after tokens)) (λ f rest. repetition_follows _ (Some f) rest))
      statement_on_follows tokens (Some (kind.Word word.While)) e = take_at m expected.statement [] while_parts _ tokens _ e refl (looping tokens (kind.Word word.While) e while_parts (while_follows _ (after tokens)))
      statement_on_follows tokens (Some (kind.Word word.Repeat)) e = take_at m expected.statement [] repeat_parts _ tokens _ e refl (looping tokens (kind.Word word.Repeat) e repeat_parts (repeat_follows _ (after tokens)))
      statement_on_follows tokens (Some (kind.Word word.For)) e = take_at m expected.statement [] for_parts _ tokens _ e refl (looping tokens (kind.Word word.For) e for_parts (for_follows _ (after tokens)))
      statement_on_follows tokens (Some (kind.Word word.Assert)) e = take_at m expected.statement [] (expected.formula ∷ []) _ tokens _ e refl (follows_then (read_follows (after tokens)) (λ f rest. gives m rest (assertion (first_line tokens) f)))
      statement_on_follows tokens o e = open_at (suc m) expected.statement [] [] _ tokens o e refl (gives (suc m) tokens _)

      pub statement_by_follows : (tokens : List Token) → Follows (suc m) (expected.statement ∷ []) tokens (statement_by lower read inner tokens)
      statement_by_follows tokens = statement_on_follows tokens (front tokens) refl

-- ---- at every level

mutual
  pub lower_follows : (n : ℕ) (tokens : List Token) → Follows n (expected.statement ∷ []) tokens (read_lower n tokens)
  lower_follows zero tokens = no_level (expected.statement ∷ []) tokens
  lower_follows (suc n) tokens = statement_by_follows (read_lower n) (lower_follows n) (read_formula n) (λ others. one_less (formula_follows n others)) (read_inner n) (inner_follows n) tokens

pub block_follows : (n : ℕ) (tokens : List Token) → Follows n (expected.token (kind.Word word.Begin) ∷ block_parts []) tokens (read_block n tokens)
block_follows n tokens = block_by_follows (read_lower n) (lower_follows n) tokens
