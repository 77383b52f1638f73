-- The parts of a well typed body pass, where what it calls and uses shows.
use Rattle.std.proofs.Common.{◌≡◌, Bool, true, cond, ◌&&◌, List, [], ◌∷◌, ◌++◌, refl, subst, Option, Some, None, is_some}
use Rattle.std.specs.Cmp.Derive.{both_true}
use Rattle.std.specs.Ordering.{int_eq}
use Rattle.std.proofs.lemmas.Bool.{false≢true}
use Rattle.spv_logic.specs.declared.names.names.Symbol.{Symbol}
use Rattle.spv_logic.specs.declared.types.TypeId.{TypeId}
use Rattle.spv_logic.specs.declared.types.Sort.{Sort}
use Rattle.spv_logic.specs.declared.types.Sort.TheVariants as sort
use Rattle.spv_logic.proofs.list.Tests.{left_true, right_true}
use Rattle.spv_program.specs.Lists.{all_differ}
use Rattle.spv_program.specs.Types.{sort_of}
use Rattle.spv_program.specs.Expressions.{Expression, Designator, Call}
use Rattle.spv_program.specs.Statements.{Statement, Arms, Empty, Assign, Perform, New, Sequence, If, Case, While, Repeat, For, Assert, no_arms, arm}
use Rattle.spv_program.specs.Programs.{Routine, Program}
use Rattle.spv_program.specs.Scopes.{body_scope, is_own, name_type}
use Rattle.spv_program.specs.Uses.{Own, Shared, Use, name_root, annotation_uses, expression_uses, designator_uses, call_uses, statement_uses, arms_uses, expression_calls, statement_calls, arms_calls}
use Rattle.spv_program.specs.declared.types.Item.TheVariants.{Variable, Class}
use Rattle.spv_program.specs.FormulaTypes.{is_sort, same_sort, annotation_ok}
use Rattle.spv_program.specs.ExpressionTypes.{may_write, sort_of_type, expression_sort, designator_type, callee}
use Rattle.spv_program.specs.Typing.{labels_in, leads_to, is_procedure, may_count, counting_ok, statement_ok, arms_ok}
use Rattle.spv_program.proofs.SortFacts.{is_sort-true}
use Rattle.spv_rule_soundness.specs.evaluation.Laws.{root_seen, uses_seen}
use Rattle.spv_rule_soundness.specs.statements.Parts.{Passing, parts_pass, arms_pass}
use Rattle.spv_writes.proofs.Lists.{all_left, all_right}
use Rattle.spv_frame_law.proofs.Sharing.{Alike, expression_alike, designator_alike, call_alike}
use Rattle.spv_call_evaluation.specs.Functions.{calls_shown}
use Rattle.spv_call_evaluation.specs.Laws.{is_leaf}

module _ (p : Program) (r : Option Routine) where
  -- assignments, NEW and calls that are well typed, expressions that have a sort, and variables that may be counted, where what they
  -- call and use shows
  abbrev pub leaf_passes : Statement → Bool
  leaf_passes s = is_leaf s && (statement_ok p r s && (calls_shown p r (statement_calls s) && uses_seen r (statement_uses (is_own r) s)))

  abbrev pub test_passes : Expression → Bool
  test_passes e = is_some (expression_sort p r e) && (calls_shown p r (expression_calls e) && uses_seen r (expression_uses (is_own r) e))

  abbrev pub body_parts : Passing
  body_parts = record {
    leaf = leaf_passes;
    test = test_passes;
    number = λ e. is_sort sort.Int (expression_sort p r e);
    count = λ count s. counting_ok p r count s && (root_seen r (name_root (is_own r) count.variable) && calls_shown p r (statement_calls s));
  }

sorted_some : (s : Sort) (o : Option Sort) → is_sort s o ≡ true → is_some o ≡ true
sorted_some s None h = absurd (false≢true h)
sorted_some s (Some t) h = refl

module _ (p : Program) (r : Option Routine) (wide : Symbol → Bool) (alike : Alike p r wide (is_own r)) where
  abbrev seen : Use → Bool
  seen u = root_seen r u.root

  abbrev own : Symbol → Bool
  own = is_own r

  front_calls : (cs ds : List Call) → calls_shown p r (cs ++ ds) ≡ true → calls_shown p r cs ≡ true
  front_calls cs ds h = all_left _ cs ds h

  behind_calls : (cs ds : List Call) → calls_shown p r (cs ++ ds) ≡ true → calls_shown p r ds ≡ true
  behind_calls cs ds h = all_right _ cs ds h

  front_uses : (us vs : List Use) → uses_seen r (us ++ vs) ≡ true → uses_seen r us ≡ true
  front_uses us vs h = all_left seen us vs h

  behind_uses : (us vs : List Use) → uses_seen r (us ++ vs) ≡ true → uses_seen r vs ≡ true
  behind_uses us vs h = all_right seen us vs h

  same_uses : (us vs : List Use) → us ≡ vs → uses_seen r us ≡ true → uses_seen r vs ≡ true
  same_uses us vs e h = subst (λ (ws : List Use). uses_seen r ws ≡ true) e h

  test_ok : (e : Expression) (s : Sort) → is_sort s (expression_sort p r e) ≡ true → calls_shown p r (expression_calls e) ≡ true → uses_seen r (expression_uses wide e) ≡ true → test_passes p r e ≡ true
  test_ok e s sorted calls uses =
      both_true (sorted_some s (expression_sort p r e) sorted)
      (both_true calls (same_uses (expression_uses wide e) (expression_uses own e) (expression_alike p r wide own alike e s (is_sort-true s (expression_sort p r e) sorted)) uses))

  leaf_ok : (s : Statement) → is_leaf s ≡ true → statement_ok p r s ≡ true → calls_shown p r (statement_calls s) ≡ true → uses_seen r (statement_uses wide s) ≡ true → statement_uses wide s ≡ statement_uses own s → leaf_passes p r s ≡ true
  leaf_ok s leaf ok calls uses same = both_true leaf (both_true ok (both_true calls (same_uses (statement_uses wide s) (statement_uses own s) same uses)))

  assign_alike : (d : Designator) (e : Expression) → statement_ok p r (Assign d e) ≡ true → statement_uses wide (Assign d e) ≡ statement_uses own (Assign d e)
  assign_alike d e ok = by_type (designator_type p r d) refl (right_true (may_write r d) _ ok)
    where
      by_type : (o : Option TypeId) → designator_type p r d ≡ o → same_sort (sort_of_type p o) (expression_sort p r e) ≡ true → designator_uses wide true d ++ expression_uses wide e ≡ designator_uses own true d ++ expression_uses own e
      by_type None is h = absurd (false≢true h)
      by_type (Some t) is h =
          let one = designator_alike p r wide own alike d t is true (alike.writes d t is (left_true (may_write r d) _ ok)) in
          let two = expression_alike p r wide own alike e (sort_of p.forms t) (is_sort-true (sort_of p.forms t) (expression_sort p r e) h) in
          λ i. one i ++ two i

  new_alike : (line : _) (d : Designator) (t : TypeId) → statement_ok p r (New line d t) ≡ true → statement_uses wide (New line d t) ≡ statement_uses own (New line d t)
  new_alike line d t ok = by_type (designator_type p r d) refl (right_true (may_write r d) _ ok)
    where
      by_type : (o : Option TypeId) → designator_type p r d ≡ o → leads_to p t o ≡ true → statement_uses wide (New line d t) ≡ statement_uses own (New line d t)
      by_type None is h = absurd (false≢true h)
      by_type (Some q) is h =
          let one = designator_alike p r wide own alike d q is true (alike.writes d q is (left_true (may_write r d) _ ok)) in
          λ i. one i ++ record { root = Shared (Class t); changes = true; line = line } ∷ []

  perform_alike : (c : Call) → statement_ok p r (Perform c) ≡ true → statement_uses wide (Perform c) ≡ statement_uses own (Perform c)
  perform_alike c ok = by_callee (callee p r c) refl ok
    where
      by_callee : (o : Option Routine) → callee p r c ≡ o → is_procedure o ≡ true → call_uses wide c ≡ call_uses own c
      by_callee None is h = absurd (false≢true h)
      by_callee (Some q) is h = call_alike p r wide own alike c q is

  mutual
    pub all_pass : (s : Statement) → statement_ok p r s ≡ true → calls_shown p r (statement_calls s) ≡ true → uses_seen r (statement_uses wide s) ≡ true → parts_pass (body_parts p r) s ≡ true
    all_pass Empty ok calls uses = refl
    all_pass (Assign d e) ok calls uses = leaf_ok (Assign d e) refl ok calls uses (assign_alike d e ok)
    all_pass (Perform c) ok calls uses = leaf_ok (Perform c) refl ok calls uses (perform_alike c ok)
    all_pass (New line d t) ok calls uses = leaf_ok (New line d t) refl ok calls uses (new_alike line d t ok)
    all_pass (Sequence a b) ok calls uses =
        both_true
        (all_pass a (left_true (statement_ok p r a) _ ok) (front_calls (statement_calls a) (statement_calls b) calls) (front_uses (statement_uses wide a) (statement_uses wide b) uses))
        (all_pass b (right_true (statement_ok p r a) _ ok) (behind_calls (statement_calls a) (statement_calls b) calls) (behind_uses (statement_uses wide a) (statement_uses wide b) uses))
    all_pass (If line e a b) ok calls uses =
        let parts = right_true (is_sort sort.Bool (expression_sort p r e)) _ ok in
        let more_calls = behind_calls (expression_calls e) (statement_calls a ++ statement_calls b) calls in
        let more_uses = behind_uses (expression_uses wide e) (statement_uses wide a ++ statement_uses wide b) uses in
        both_true
        (test_ok e sort.Bool (left_true (is_sort sort.Bool (expression_sort p r e)) _ ok) (front_calls (expression_calls e) (statement_calls a ++ statement_calls b) calls) (front_uses (expression_uses wide e) (statement_uses wide a ++ statement_uses wide b) uses))
        (both_true
        (all_pass a (left_true (statement_ok p r a) _ parts) (front_calls (statement_calls a) (statement_calls b) more_calls) (front_uses (statement_uses wide a) (statement_uses wide b) more_uses))
        (all_pass b (right_true (statement_ok p r a) _ parts) (behind_calls (statement_calls a) (statement_calls b) more_calls) (behind_uses (statement_uses wide a) (statement_uses wide b) more_uses)))
    all_pass (Case line e arms) ok calls uses =
        let number = left_true (is_sort sort.Int (expression_sort p r e)) _ ok in
        let parts = right_true (all_differ int_eq (labels_in arms)) _ (right_true (is_sort sort.Int (expression_sort p r e)) _ ok) in
        both_true
        (test_ok e sort.Int number (front_calls (expression_calls e) (arms_calls arms) calls) (front_uses (expression_uses wide e) (arms_uses wide arms) uses))
        (both_true number (arms_all_pass arms parts (behind_calls (expression_calls e) (arms_calls arms) calls) (behind_uses (expression_uses wide e) (arms_uses wide arms) uses)))
    all_pass (While line f e s) ok calls uses =
        let parts = right_true (annotation_ok p (body_scope p r) f) _ ok in
        let more_uses = behind_uses (annotation_uses wide f) (expression_uses wide e ++ statement_uses wide s) uses in
        both_true
        (test_ok e sort.Bool (left_true (is_sort sort.Bool (expression_sort p r e)) _ parts) (front_calls (expression_calls e) (statement_calls s) calls) (front_uses (expression_uses wide e) (statement_uses wide s) more_uses))
        (all_pass s (right_true (is_sort sort.Bool (expression_sort p r e)) _ parts) (behind_calls (expression_calls e) (statement_calls s) calls) (behind_uses (expression_uses wide e) (statement_uses wide s) more_uses))
    all_pass (Repeat line f s e) ok calls uses =
        let parts = right_true (annotation_ok p (body_scope p r) f) _ ok in
        let more_uses = behind_uses (annotation_uses wide f) (statement_uses wide s ++ expression_uses wide e) uses in
        both_true
        (test_ok e sort.Bool (left_true (is_sort sort.Bool (expression_sort p r e)) _ parts) (behind_calls (statement_calls s) (expression_calls e) calls) (behind_uses (statement_uses wide s) (expression_uses wide e) more_uses))
        (all_pass s (right_true (is_sort sort.Bool (expression_sort p r e)) _ parts) (front_calls (statement_calls s) (expression_calls e) calls) (front_uses (statement_uses wide s) (expression_uses wide e) more_uses))
    all_pass (For line f count s) ok calls uses =
        let parts = right_true (annotation_ok p (body_scope p r) f) _ ok in
        let counting = left_true (counting_ok p r count s) _ parts in
        let ends = right_true (is_sort sort.Int (sort_of_type p (name_type p r count.variable))) _ (right_true (may_count r count.variable) _ counting) in
        let first = left_true (is_sort sort.Int (expression_sort p r count.first)) _ ends in
        let last = left_true (is_sort sort.Int (expression_sort p r count.last)) _ (right_true (is_sort sort.Int (expression_sort p r count.first)) _ ends) in
        let more_calls = behind_calls (expression_calls count.first) (expression_calls count.last ++ statement_calls s) calls in
        let counted = behind_uses (annotation_uses wide f) (record { root = name_root wide count.variable; changes = true; line = line } ∷ (expression_uses wide count.first ++ (expression_uses wide count.last ++ statement_uses wide s))) uses in
        let seen_there = left_true (root_seen r (name_root wide count.variable)) _ counted in
        let ends_uses = right_true (root_seen r (name_root wide count.variable)) _ counted in
        let more_uses = behind_uses (expression_uses wide count.first) (expression_uses wide count.last ++ statement_uses wide s) ends_uses in
        let name = alike.counts count.variable (left_true (may_count r count.variable) _ counting) in
        both_true
        (both_true counting (both_true (subst (λ b. root_seen r (cond b (Own count.variable) (Shared (Variable count.variable))) ≡ true) name seen_there) (behind_calls (expression_calls count.last) (statement_calls s) more_calls)))
        (both_true (test_ok count.first sort.Int first (front_calls (expression_calls count.first) (expression_calls count.last ++ statement_calls s) calls) (front_uses (expression_uses wide count.first) (expression_uses wide count.last ++ statement_uses wide s) ends_uses))
        (both_true (test_ok count.last sort.Int last (front_calls (expression_calls count.last) (statement_calls s) more_calls) (front_uses (expression_uses wide count.last) (statement_uses wide s) more_uses))
        (both_true first
        (all_pass s (right_true (counting_ok p r count s) _ parts) (behind_calls (expression_calls count.last) (statement_calls s) more_calls) (behind_uses (expression_uses wide count.last) (statement_uses wide s) more_uses)))))
    all_pass (Assert a) ok calls uses = refl

    arms_all_pass : (arms : Arms) → arms_ok p r arms ≡ true → calls_shown p r (arms_calls arms) ≡ true → uses_seen r (arms_uses wide arms) ≡ true → arms_pass (body_parts p r) arms ≡ true
    arms_all_pass no_arms ok calls uses = refl
    arms_all_pass (arm labels s others) ok calls uses =
        both_true
        (all_pass s (left_true (statement_ok p r s) _ ok) (front_calls (statement_calls s) (arms_calls others) calls) (front_uses (statement_uses wide s) (arms_uses wide others) uses))
        (arms_all_pass others (right_true (statement_ok p r s) _ ok) (behind_calls (statement_calls s) (arms_calls others) calls) (behind_uses (statement_uses wide s) (arms_uses wide others) uses))
