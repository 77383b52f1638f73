-- A well typed statement is made of what the leaves take.
use Rattle.std.proofs.Common.{◌≡◌, true, refl, List, [], ◌∷◌, Option, Some, None, is_some}
use Rattle.std.specs.Cmp.Derive.{both_true}
use Rattle.std.specs.Ordering.{int_eq}
use Rattle.std.proofs.lemmas.Bool.{false≢true}
use Rattle.spv_logic.proofs.list.Tests.{left_true, right_true}
use Rattle.spv_logic.specs.declared.conditions.RoutineId.{RoutineId}
use Rattle.spv_logic.specs.declared.types.Sort.{Sort}
use Rattle.spv_logic.specs.declared.types.Sort.TheVariants as sort
use Rattle.spv_program.specs.Lists.{all_differ}
use Rattle.spv_program.specs.Statements.{Statement, Arms, Empty, Assign, Perform, New, Sequence, If, Case, While, Repeat, For, Assert, no_arms, arm}
use Rattle.spv_program.specs.Programs.{Routine, Program, routine_in}
use Rattle.spv_program.specs.Scopes.{body_scope, name_type}
use Rattle.spv_program.specs.FormulaTypes.{is_sort, annotation_ok}
use Rattle.spv_program.specs.ExpressionTypes.{expression_sort, sort_of_type}
use Rattle.spv_program.specs.Typing.{labels_in, may_count, counting_ok, statement_ok, arms_ok}
use Rattle.spv_program.specs.typed.StatementViews.{block_of}
use Rattle.spv_rule_soundness.specs.statements.Parts.{Passing, parts_pass, arms_pass}
use Rattle.spv_flow_parts.specs.leaves.Parts.{IsTaken, passing}
use Rattle.spv_conditions.specs.Leaves.{leaf_taking, takes_leaf}

-- what a sort is asked of has one
sorted_some : (s : Sort) (o : Option Sort) → is_sort s o ≡ true → is_some o ≡ true
sorted_some s None h = absurd (false≢true h)
sorted_some s (Some t) h = refl

module _ (p : Program) (here : Option RoutineId) where
  abbrev r : Option Routine
  r = routine_in p here

  abbrev pass : Passing
  pass = passing p here (leaf_taking p here)

  mutual
    all_pass : (s : Statement) → statement_ok p r s ≡ true → parts_pass pass s ≡ true
    all_pass Empty ok = refl
    all_pass (Assign d e) ok = ok
    all_pass (Perform c) ok = ok
    all_pass (New line d t) ok = ok
    all_pass (Sequence a b) ok = both_true (all_pass a (left_true (statement_ok p r a) _ ok)) (all_pass b (right_true (statement_ok p r a) _ ok))
    all_pass (If line e a b) ok =
        let typed = right_true (is_sort sort.Bool (expression_sort p r e)) _ ok in
        both_true (sorted_some sort.Bool (expression_sort p r e) (left_true (is_sort sort.Bool (expression_sort p r e)) _ ok))
        (both_true (all_pass a (left_true (statement_ok p r a) _ typed)) (all_pass b (right_true (statement_ok p r a) _ typed)))
    all_pass (Case line e arms) ok =
        let number = left_true (is_sort sort.Int (expression_sort p r e)) _ ok in
        let typed = right_true (all_differ int_eq (labels_in arms)) _ (right_true (is_sort sort.Int (expression_sort p r e)) _ ok) in
        both_true (sorted_some sort.Int (expression_sort p r e) number) (both_true number (arms_all_pass arms typed))
    all_pass (While line f e s) ok =
        let typed = right_true (annotation_ok p (body_scope p r) f) _ ok in
        both_true (sorted_some sort.Bool (expression_sort p r e) (left_true (is_sort sort.Bool (expression_sort p r e)) _ typed))
        (all_pass s (right_true (is_sort sort.Bool (expression_sort p r e)) _ typed))
    all_pass (Repeat line f s e) ok =
        let typed = right_true (annotation_ok p (body_scope p r) f) _ ok in
        both_true (sorted_some sort.Bool (expression_sort p r e) (left_true (is_sort sort.Bool (expression_sort p r e)) _ typed))
        (all_pass s (right_true (is_sort sort.Bool (expression_sort p r e)) _ typed))
    all_pass (For line f count s) ok =
        let typed = right_true (annotation_ok p (body_scope p r) f) _ ok in
        let counting = left_true (counting_ok p r count s) _ typed in
        let ends = right_true (is_sort sort.Int (sort_of_type p (name_type p r count.variable))) _ (right_true (may_count r count.variable) _ counting) in
        let first = left_true (is_sort sort.Int (expression_sort p r count.first)) _ ends in
        let last = left_true (is_sort sort.Int (expression_sort p r count.last)) _ (right_true (is_sort sort.Int (expression_sort p r count.first)) _ ends) in
        both_true counting
        (both_true (sorted_some sort.Int (expression_sort p r count.first) first)
        (both_true (sorted_some sort.Int (expression_sort p r count.last) last)
        (both_true first
        (all_pass s (right_true (counting_ok p r count s) _ typed)))))
    all_pass (Assert a) ok = refl

    arms_all_pass : (arms : Arms) → arms_ok p r arms ≡ true → arms_pass pass arms ≡ true
    arms_all_pass no_arms ok = refl
    arms_all_pass (arm labels s others) ok = both_true (all_pass s (left_true (statement_ok p r s) _ ok)) (arms_all_pass others (right_true (statement_ok p r s) _ ok))

  pub well_typed_taken : (s : Statement) → statement_ok p r s ≡ true → IsTaken p here (leaf_taking p here) s
  well_typed_taken s ok = record { typed = ok; passes = all_pass s ok }

  -- a block is no leaf
  pub no_block : (ss : List Statement) → takes_leaf p here (block_of ss) ≡ true → ⊥
  no_block [] h = false≢true h
  no_block (s ∷ ss) h = false≢true h
