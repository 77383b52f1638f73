-- The parts of the bodies of routines, and of the main block, are right where calls of procedures are.
use Rattle.std.proofs.Common.{◌≡◌, ℕ, Bool, true, false, not, ◌&&◌, ◌||◌, List, [], ◌∷◌, ◌++◌, refl, sym, subst, Option, Some, None, is_some}
use Rattle.std.specs.List.{list_all, list_any}
use Rattle.std.specs.Cmp.Derive.{both_true}
use Rattle.std.proofs.lemmas.Bool.{false≢true}
use Rattle.spv_logic.proofs.list.Tests.{left_true, right_true}
use Rattle.spv_logic.specs.declared.types.Sort.{Sort}
use Rattle.spv_logic.specs.declared.types.Sort.TheVariants as sort
use Rattle.spv_logic.specs.declared.conditions.RoutineId.{RoutineId}
use Rattle.spv_logic.specs.Values.{Number, number_of}
use Rattle.spv_logic.specs.Terms.{eval}
use Rattle.spv_logic.specs.Conditions.{Meaning, Valuation, IsValuation}
use Rattle.spv_logic.proofs.Sorting.{eval-fits}
use Rattle.spv_program.specs.Lists.{found}
use Rattle.spv_program.specs.Expressions.{Expression}
use Rattle.spv_program.specs.Statements.{Counting, Statement, Empty, Assign, Perform, New, Sequence, If, Case, While, Repeat, For, Assert}
use Rattle.spv_program.specs.Programs.{Routine, Program, shapes, routine_at, routine_in}
use Rattle.spv_program.specs.Scopes.{is_own, body_scope, result_name}
use Rattle.spv_program.specs.Uses.{Root, Own, Shared, Use, same_root, name_root, annotation_uses, statement_uses, statement_calls, expression_calls}
use Rattle.spv_program.specs.Frames.{is_formal, is_initial, use_allowed, routine_uses, changes_nothing, routine_framed}
use Rattle.spv_program.specs.Changes.{changed_roots}
use Rattle.spv_program.specs.FormulaTypes.{is_sort, annotation_ok}
use Rattle.spv_program.specs.ExpressionTypes.{sort_of_type, expression_sort}
use Rattle.spv_program.specs.Scopes.{name_type}
use Rattle.spv_program.specs.Typing.{statement_ok, may_count, counting_ok, declarations_ok, routine_ok}
use Rattle.spv_program.specs.Supplies.{Supply}
use Rattle.spv_program.specs.Terms.{item_head}
use Rattle.spv_program.specs.ExpressionTerms.{valued}
use Rattle.spv_program.specs.declared.types.Item.TheVariants.{Variable}
use Rattle.spv_program.proofs.SortFacts.{is_sort-true}
use Rattle.spv_program.proofs.ExpressionSorting.{value_sorted}
use Rattle.spv_meaning.specs.Levels.{Here}
use Rattle.spv_meaning.specs.Evaluation.{evaluate}
use Rattle.spv_meaning.specs.Walks.{walk}
use Rattle.spv_meaning.specs.Correct.{body_of, routine_body, is_there, CorrectBelow}
use Rattle.spv_meaning.proofs.Differing.{not_true}
use Rattle.spv_meaning.proofs.RoutineStarts.{item_passes}
use Rattle.spv_preservation.proofs.Calls.{routine_right}
use Rattle.spv_rule_soundness.specs.evaluation.Laws.{root_seen, uses_seen}
use Rattle.spv_rule_soundness.specs.statements.Truth.{IsEntry, meaning_in}
use Rattle.spv_rule_soundness.specs.statements.Runs.{all_allowed, IsRight, IsRightTest, may_change}
use Rattle.spv_rule_soundness.specs.statements.Parts.{parts_pass}
use Rattle.spv_rule_soundness.specs.statements.Laws.{below, PartsAreRight}
use Rattle.spv_rule_soundness.proofs.evaluation.Settings.{forms_right}
use Rattle.spv_rule_soundness.proofs.statements.Loops.{number_fits}
use Rattle.spv_rule_soundness.proofs.statements.Reaching.{reach_as}
use Rattle.spv_writes.proofs.Lists.{all_right}
use Rattle.spv_frame_law.specs.Laws.{IsFramed}
use Rattle.spv_frame_law.proofs.Sharing.{names_alike}
use Rattle.spv_frame_law.proofs.Views.{body_calls}
use Rattle.spv_call_evaluation.specs.Functions.{calls_shown}
use Rattle.spv_call_evaluation.specs.Laws.{is_leaf}
use Rattle.spv_call_evaluation.proofs.Windows.{knows_shown}
use Rattle.spv_call_evaluation.proofs.Evaluating.{evaluated}
use Rattle.spv_call_evaluation.proofs.Functions.{functions_give}
use Rattle.spv_call_evaluation.proofs.Supplies.{test_supplied}
use Rattle.spv_call_evaluation.proofs.LeafSupplies.{leaf_supplied}
use Rattle.spv_program_soundness.proofs.Assigning.{assign_right}
use Rattle.spv_program_soundness.proofs.Creating.{new_right}
use Rattle.spv_program_soundness.proofs.Performing.{calls_right}
use Rattle.spv_program_soundness.proofs.Passing.{leaf_passes, test_passes, body_parts, all_pass}
use Rattle.spv_program_soundness.proofs.Entries.{listed_there}
use Rattle.spv_program_soundness.proofs.Counting.{IsCounter, counter_of, counts_right, counted_changes, left_alone}

-- ---- what bodies use shows

-- what a list allows is seen
allowed_seen : (r : Routine) (us : List Use) → list_all (λ u. use_allowed r.globals u.root u.changes) us ≡ true → uses_seen (Some r) us ≡ true
allowed_seen r [] all = refl
allowed_seen r (u ∷ us) all = both_true (of_root u.root u.changes (left_true (use_allowed r.globals u.root u.changes) _ all)) (allowed_seen r us (right_true (use_allowed r.globals u.root u.changes) _ all))
  where
    of_root : (root : Root) (changes : Bool) → use_allowed r.globals root changes ≡ true → root_seen (Some r) root ≡ true
    of_root (Own x) changes h = refl
    of_root (Shared i) changes h = listed_there r.globals i changes h

-- the main block sees everything
main_seen : (us : List Use) → uses_seen None us ≡ true
main_seen [] = refl
main_seen (u ∷ us) = both_true (of_root u.root) (main_seen us)
  where
    of_root : (root : Root) → root_seen None root ≡ true
    of_root (Own x) = refl
    of_root (Shared i) = refl

module _ (p : Program) (f : IsFramed p) where
  routine_uses_seen : (id : RoutineId) (q : Routine) → routine_at p id ≡ Some q → uses_seen (Some q) (statement_uses (λ x. is_own (Some q) x || is_initial q x) q.body) ≡ true
  routine_uses_seen id q there =
      let ok = item_passes (routine_framed p) p.routines id.0 q (left_true (list_all (routine_framed p) p.routines) _ f.framed) there in
      let uses = left_true (list_all (λ u. use_allowed q.globals u.root u.changes) (routine_uses q)) _ (right_true (changes_nothing q || not (is_some q.result)) _ ok) in
      let allowed : Use → Bool = λ u. use_allowed q.globals u.root u.changes in
      let entry : List Use = annotation_uses (is_formal q) q.entry in
      let exit : List Use = annotation_uses (λ x. is_formal q x || (is_some (found (result_name q.name q.result) x) || is_initial q x)) q.exit in
      let body : List Use = statement_uses (λ x. is_own (Some q) x || is_initial q x) q.body in
      allowed_seen q body (all_right allowed exit body (all_right allowed entry (exit ++ body) uses))

  -- each body is made of parts that pass
  pub body_passes : (here : Option RoutineId) → is_there p here ≡ true → parts_pass (body_parts p (routine_in p here)) (body_of p here) ≡ true
  body_passes None there =
      let body = right_true (annotation_ok p (body_scope p None) p.main.exit) _ (right_true (annotation_ok p (body_scope p None) p.main.entry) _ (right_true (list_all (routine_ok p) p.routines) _ (right_true (declarations_ok p) _ f.typed))) in
      all_pass p None (is_own None) (record { reads = λ d t h ok. refl; writes = λ d t h ok. refl; counts = λ x ok. refl }) p.main.body body (body_calls p f None refl) (main_seen (statement_uses (is_own None) p.main.body))
  body_passes (Some id) there = by_routine (routine_at p id) refl there
    where
      by_routine : (o : Option Routine) → routine_at p id ≡ o → is_some o ≡ true → parts_pass (body_parts p (routine_at p id)) (routine_body (routine_at p id)) ≡ true
      by_routine None is h = absurd (false≢true h)
      by_routine (Some q) is h =
          let calls = subst (λ (o : Option Routine). calls_shown p o (statement_calls (routine_body o)) ≡ true) is (body_calls p f (Some id) there) in
          subst (λ (o : Option Routine). parts_pass (body_parts p o) (routine_body o) ≡ true) (sym is)
          (all_pass p (Some q) (λ x. is_own (Some q) x || is_initial q x) (names_alike p q) q.body (routine_right p f.typed id q is).body calls (routine_uses_seen id q is))

-- ---- the parts are right

-- a sort that is there
record SomeSort (o : Option Sort) : Type 0 where
  sort : Sort
  is : o ≡ Some sort

sort_there : (o : Option Sort) → is_some o ≡ true → SomeSort o
sort_there None h = absurd (false≢true h)
sort_there (Some s) h = record { sort = s; is = refl }

module _ (p : Program) (f : IsFramed p) (world : Meaning) (here : Here) (entry : IsEntry p here.entry) where
  -- assignments, NEW and calls
  leaf_right : (s : Statement) → leaf_passes p (routine_in p here.routine) s ≡ true → (turns : ℕ) → CorrectBelow p world turns → IsRight p world all_allowed here s (walk p (below p turns) here s)
  leaf_right (Assign d e) h turns correct =
      let s = Assign d e in
      let more = right_true (statement_ok p (routine_in p here.routine) s) _ h in
      assign_right p f world here entry d e (left_true (statement_ok p (routine_in p here.routine) s) _ h) (left_true (calls_shown p (routine_in p here.routine) (statement_calls s)) _ more) (right_true (calls_shown p (routine_in p here.routine) (statement_calls s)) _ more) turns correct
  leaf_right (Perform c) h turns correct =
      let s = Perform c in
      let more = right_true (statement_ok p (routine_in p here.routine) s) _ h in
      calls_right world p f here entry c (left_true (statement_ok p (routine_in p here.routine) s) _ h) (left_true (calls_shown p (routine_in p here.routine) (statement_calls s)) _ more) (right_true (calls_shown p (routine_in p here.routine) (statement_calls s)) _ more) turns correct
  leaf_right (New line d t) h turns correct =
      let s = New line d t in
      let more = right_true (statement_ok p (routine_in p here.routine) s) _ h in
      new_right p f world here entry line d t (left_true (statement_ok p (routine_in p here.routine) s) _ h) (left_true (calls_shown p (routine_in p here.routine) (statement_calls s)) _ more) (right_true (calls_shown p (routine_in p here.routine) (statement_calls s)) _ more) turns correct
  leaf_right Empty h turns correct = absurd (false≢true h)
  leaf_right (Sequence a b) h turns correct = absurd (false≢true h)
  leaf_right (If line e a b) h turns correct = absurd (false≢true h)
  leaf_right (Case line e arms) h turns correct = absurd (false≢true h)
  leaf_right (While line g e s) h turns correct = absurd (false≢true h)
  leaf_right (Repeat line g s e) h turns correct = absurd (false≢true h)
  leaf_right (For line g count s) h turns correct = absurd (false≢true h)
  leaf_right (Assert a) h turns correct = absurd (false≢true h)

  -- expressions
  test_right : (e : Expression) → test_passes p (routine_in p here.routine) e ≡ true → (turns : ℕ) → CorrectBelow p world turns → IsRightTest p world all_allowed here (below p turns) e
  test_right e h turns correct n window is wanted state start from choices =
      let k = sort_there (expression_sort p (routine_in p here.routine) e) (left_true (is_some (expression_sort p (routine_in p here.routine) e)) _ h) in
      let more = right_true (is_some (expression_sort p (routine_in p here.routine) e)) _ h in
      reach_as p world all_allowed _ _ (evaluate p (below p turns) here e state choices)
      (λ got given.
      let made = given.widens in
      record {
        state_is = given.passes.state_is;
        wider = given.wider;
        is_window = made.is_window;
        keeps = made.keeps;
        adds = made.adds;
        worth = λ v val shows. given.passes.worth v (knows_shown p f.typed world here entry (valued p (routine_in p here.routine) n e).supply given.wider made.is_window state start v val shows);
        true_there = made.true_there;
      })
      (evaluated p world here (below p turns) state (record { typed = f.typed; entry = entry; start = start; functions = functions_give p f world here entry turns correct state start }) e k.sort k.is
      (left_true (calls_shown p (routine_in p here.routine) (expression_calls e)) _ more) (right_true (calls_shown p (routine_in p here.routine) (expression_calls e)) _ more)
      n window wanted (record { is_window = is; true_there = from }) state refl choices)

  number_worth : (e : Expression) → is_sort sort.Int (expression_sort p (routine_in p here.routine) e) ≡ true → (n : Supply) (v : Valuation) → IsValuation (shapes p) v → eval (meaning_in p world) v (valued p (routine_in p here.routine) n e).term ≡ Number (number_of (eval (meaning_in p world) v (valued p (routine_in p here.routine) n e).term))
  number_worth e is n v val =
      number_fits p (eval (meaning_in p world) v (valued p (routine_in p here.routine) n e).term)
      (eval-fits (shapes p) (forms_right p f.typed) p.symbols world v val (valued p (routine_in p here.routine) n e).term sort.Int (value_sorted p (routine_in p here.routine) n e sort.Int (is_sort-true sort.Int (expression_sort p (routine_in p here.routine) e) is)))

  -- variables of FORs
  module _ (count : Counting) (s : Statement) (h : (counting_ok p (routine_in p here.routine) count s && (root_seen (routine_in p here.routine) (name_root (is_own (routine_in p here.routine)) count.variable) && calls_shown p (routine_in p here.routine) (statement_calls s))) ≡ true) where
    counting : counting_ok p (routine_in p here.routine) count s ≡ true
    counting = left_true (counting_ok p (routine_in p here.routine) count s) _ h

    more : (root_seen (routine_in p here.routine) (name_root (is_own (routine_in p here.routine)) count.variable) && calls_shown p (routine_in p here.routine) (statement_calls s)) ≡ true
    more = right_true (counting_ok p (routine_in p here.routine) count s) _ h

    counter : IsCounter p (routine_in p here.routine) count.variable
    counter = counter_of p (routine_in p here.routine) count s counting (left_true (root_seen (routine_in p here.routine) (name_root (is_own (routine_in p here.routine)) count.variable)) _ more)

    counter_left : may_change p here s (item_head p (routine_in p here.routine) (Variable count.variable)) ≡ false
    counter_left =
        left_alone p f.typed here count.variable counter (left_true (may_count (routine_in p here.routine) count.variable) _ counting) s
        (right_true (root_seen (routine_in p here.routine) (name_root (is_own (routine_in p here.routine)) count.variable)) _ more)
        (not_true (list_any (same_root (name_root (is_own (routine_in p here.routine)) count.variable)) (changed_roots p (routine_in p here.routine) s))
        (right_true (is_sort sort.Int (expression_sort p (routine_in p here.routine) count.last)) _
        (right_true (is_sort sort.Int (expression_sort p (routine_in p here.routine) count.first)) _
        (right_true (is_sort sort.Int (sort_of_type p (name_type p (routine_in p here.routine) count.variable))) _
        (right_true (may_count (routine_in p here.routine) count.variable) _ counting)))))

  -- all of them
  pub parts_right : PartsAreRight p world all_allowed here (body_parts p (routine_in p here.routine))
  parts_right = record {
    faults = record { no_label = refl; out_of_range = refl; no_choice = refl };
    leaf = λ s h turns correct. leaf_right s h turns correct;
    leaf_supplied = λ s h q ignores. leaf_supplied p world here s (left_true (is_leaf s) _ h) q ignores;
    test = λ e h turns correct. test_right e h turns correct;
    test_supplied = λ e h n. test_supplied p world here e n;
    number = number_worth;
    counts = λ count s h state start z. counts_right p f here count.variable (counter count s h) state start z;
    counted = λ line g count s h. counted_changes p f here count.variable (counter count s h) line g count s refl;
    left_alone = λ count s h. counter_left count s h;
  }
