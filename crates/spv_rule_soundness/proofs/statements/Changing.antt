-- What a part of a statement may change, the statement may change.
use Rattle.std.proofs.Common.{◌≡◌, ℕ, Option, Bool, true, false, cond, ◌&&◌, ◌||◌, List, [], ◌∷◌, ◌++◌, map, filter, refl, sym, ap, ◌∙◌}
use Rattle.std.specs.List.{list_any, flat_map}
use Rattle.std.specs.Cmp.Derive.{both_true}
use Rattle.std.proofs.lemmas.Bool.{false≢true}
use Rattle.spv_logic.specs.declared.operators.Head.{Head}
use Rattle.spv_logic.specs.Terms.{head_eq}
use Rattle.spv_logic.proofs.list.Tests.{left_true, right_true}
use Rattle.spv_program.specs.Formulas.{Annotation}
use Rattle.spv_program.specs.Statements.{Counting, Statement, For}
use Rattle.spv_program.specs.Programs.{Program, routine_in}
use Rattle.spv_program.specs.Scopes.{is_own}
use Rattle.spv_program.specs.Uses.{Root, Use, same_root, name_root, annotation_uses, expression_uses, expression_calls, statement_uses, statement_calls}
use Rattle.spv_program.specs.Changes.{changed_by_call, changed_roots, all_roots}
use Rattle.spv_meaning.specs.Levels.{Here}
use Rattle.spv_rule_soundness.specs.statements.Runs.{may_change}

-- what is among the one list is among the other
pub record Within {X : Type 0} (xs ys : List X) : Type 0 where
  pub keeps : (test : X → Bool) → list_any test xs ≡ true → list_any test ys ≡ true

pub or_left : (a b : Bool) → a ≡ true → (a || b) ≡ true
or_left true b e = refl
or_left false b e = absurd (false≢true e)

pub or_right : (a b : Bool) → b ≡ true → (a || b) ≡ true
or_right true b e = refl
or_right false b e = e

or_either : (a b : Bool) (P : Type 0) → (a ≡ true → P) → (b ≡ true → P) → (a || b) ≡ true → P
or_either true b P left right e = left refl
or_either false b P left right e = right e

pub any-append : {X : Type 0} (test : X → Bool) (xs ys : List X) → list_any test (xs ++ ys) ≡ (list_any test xs || list_any test ys)
any-append test [] ys = refl
any-append test (x ∷ xs) ys = ap (λ b. test x || b) (any-append test xs ys) ∙ or_turned (test x) (list_any test xs) (list_any test ys)
  where
    or_turned : (a b c : Bool) → (a || (b || c)) ≡ ((a || b) || c)
    or_turned true b c = refl
    or_turned false b c = refl

pub within_all : {X : Type 0} (xs : List X) → Within xs xs
within_all xs = record { keeps = λ test h. h }

pub within_left : {X : Type 0} (xs ys : List X) → Within xs (xs ++ ys)
within_left xs ys = record { keeps = λ test h. any-append test xs ys ∙ or_left (list_any test xs) _ h }

pub within_right : {X : Type 0} (xs ys : List X) → Within ys (xs ++ ys)
within_right xs ys = record { keeps = λ test h. any-append test xs ys ∙ or_right (list_any test xs) _ h }

pub within_then : {X : Type 0} (xs ys zs : List X) → Within xs ys → Within ys zs → Within xs zs
within_then xs ys zs first second = record { keeps = λ test h. second.keeps test (first.keeps test h) }

any_weaker : {X : Type 0} (f g : X → Bool) → ((x : X) → f x ≡ true → g x ≡ true) → (xs : List X) → list_any f xs ≡ true → list_any g xs ≡ true
any_weaker f g weaker [] h = h
any_weaker f g weaker (x ∷ xs) h =
    or_either (f x) (list_any f xs) ((g x || list_any g xs) ≡ true) (λ e. or_left (g x) _ (weaker x e)) (λ e. or_right (g x) _ (any_weaker f g weaker xs e)) h

pub any-kept : {X Y : Type 0} (test : Y → Bool) (f : X → Y) (keep : X → Bool) (xs : List X) → list_any test (map f (filter keep xs)) ≡ list_any (λ x. keep x && test (f x)) xs
any-kept test f keep [] = refl
any-kept test f keep (x ∷ xs) = by_case (keep x) (any-kept test f keep xs)
  where
    by_case : (b : Bool) → list_any test (map f (filter keep xs)) ≡ list_any (λ x. keep x && test (f x)) xs → list_any test (map f (cond b (x ∷ filter keep xs) (filter keep xs))) ≡ ((b && test (f x)) || list_any (λ x. keep x && test (f x)) xs)
    by_case true e = ap (λ b. test (f x) || b) e
    by_case false e = e

any-flat : {X Y : Type 0} (test : Y → Bool) (f : X → List Y) (xs : List X) → list_any test (flat_map f xs) ≡ list_any (λ x. list_any test (f x)) xs
any-flat test f [] = refl
any-flat test f (x ∷ xs) = any-append test (f x) (flat_map f xs) ∙ ap (λ b. list_any test (f x) || b) (any-flat test f xs)

module _ (p : Program) (here : Here) where
  roots_within : (s w : Statement) → Within (statement_uses (is_own (routine_in p here.routine)) s) (statement_uses (is_own (routine_in p here.routine)) w) → Within (statement_calls s) (statement_calls w) → Within (changed_roots p (routine_in p here.routine) s) (changed_roots p (routine_in p here.routine) w)
  roots_within s w uses calls = record {
    keeps = λ test h.
        let own = is_own (routine_in p here.routine) in
        let written = λ (xs : List Use). map (λ u. u.root) (filter (λ u. u.changes) xs) in
        any-append test (written (statement_uses own w)) (flat_map (changed_by_call p) (statement_calls w))
        ∙ or_either (list_any test (written (statement_uses own s))) (list_any test (flat_map (changed_by_call p) (statement_calls s))) _
        (λ e. or_left _ _ (any-kept test (λ u. u.root) (λ u. u.changes) (statement_uses own w) ∙ uses.keeps (λ u. u.changes && test u.root) (sym (any-kept test (λ u. u.root) (λ u. u.changes) (statement_uses own s)) ∙ e)))
        (λ e. or_right (list_any test (written (statement_uses own w))) _ (any-flat test (changed_by_call p) (statement_calls w) ∙ calls.keeps (λ c. list_any test (changed_by_call p c)) (sym (any-flat test (changed_by_call p) (statement_calls s)) ∙ e)))
        (sym (any-append test (written (statement_uses own s)) (flat_map (changed_by_call p) (statement_calls s))) ∙ h);
  }

  changes_within : (s w : Statement) → Within (changed_roots p (routine_in p here.routine) s) (changed_roots p (routine_in p here.routine) w) → (h : Head) → may_change p here s h ≡ true → may_change p here w h ≡ true
  changes_within s w within h may =
      let r = routine_in p here.routine in
      let keep = λ (x : Statement) (y : Root × Head). list_any (same_root y.0) (changed_roots p r x) in
      any-kept (head_eq h) (λ y. y.1) (keep w) (all_roots p r)
      ∙ any_weaker (λ y. keep s y && head_eq h y.1) (λ y. keep w y && head_eq h y.1) (λ y e. both_true (within.keeps (same_root y.0) (left_true (keep s y) _ e)) (right_true (keep s y) _ e)) (all_roots p r)
      (sym (any-kept (head_eq h) (λ y. y.1) (keep s) (all_roots p r)) ∙ may)

  -- what a statement leaves alone, its part leaves alone
  pub part_leaves : (s w : Statement) → Within (statement_uses (is_own (routine_in p here.routine)) s) (statement_uses (is_own (routine_in p here.routine)) w) → Within (statement_calls s) (statement_calls w) → (h : Head) → may_change p here w h ≡ false → may_change p here s h ≡ false
  part_leaves s w uses calls h leaves = by_case (may_change p here s h) refl
    where
      by_case : (b : Bool) → may_change p here s h ≡ b → b ≡ false
      by_case true e = absurd (false≢true (sym leaves ∙ changes_within s w (roots_within s w uses calls) h e))
      by_case false e = refl

  -- the body of a FOR
  pub part_of_for : (line : ℕ) (f : Option Annotation) (count : Counting) (s : Statement) (h : Head) → may_change p here (For line f count s) h ≡ false → may_change p here s h ≡ false
  part_of_for line f count s h leaves =
      let own = is_own (routine_in p here.routine) in
      let v : Use = record { root = name_root own count.variable; changes = true; line = line } in
      let inner = expression_uses own count.last ++ statement_uses own s in
      let outer = expression_uses own count.first ++ inner in
      let uses = within_then (statement_uses own s) inner (statement_uses own (For line f count s)) (within_right (expression_uses own count.last) (statement_uses own s))
      (within_then inner outer (statement_uses own (For line f count s)) (within_right (expression_uses own count.first) inner)
      (within_then outer (v ∷ outer) (statement_uses own (For line f count s)) (within_right (v ∷ []) outer) (within_right (annotation_uses own f) (v ∷ outer)))) in
      let calls = within_then (statement_calls s) (expression_calls count.last ++ statement_calls s) (statement_calls (For line f count s)) (within_right (expression_calls count.last) (statement_calls s)) (within_right (expression_calls count.first) _) in
      part_leaves s (For line f count s) uses calls h leaves
