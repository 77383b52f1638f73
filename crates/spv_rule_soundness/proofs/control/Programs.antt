-- True conditions make such a program correct.
use Rattle.std.proofs.Common.{◌≡◌, ◌<◌, ℕ, zero, suc, nat_lt, arith, Bool, true, false, ◌&&◌, List, [], ◌∷◌, refl, sym, subst, ◌∙◌, Option, Some, None, is_some}
use Rattle.std.specs.List.{list_all}
use Rattle.std.specs.Cmp.Derive.{both_true}
use Rattle.std.proofs.lemmas.Bool.{false≢true}
use Rattle.std.specs.Ordering.{int_eq}
use Rattle.std.proofs.lemmas.Bool.Decides.{nat_tests}
use Rattle.spv_logic.specs.declared.types.Sort.{Sort}
use Rattle.spv_logic.specs.declared.types.Sort.TheVariants as sort
use Rattle.spv_logic.specs.declared.conditions.Kind.TheVariants as kind
use Rattle.spv_logic.specs.declared.conditions.RoutineId.{RoutineId}
use Rattle.spv_logic.specs.Values.{Value}
use Rattle.spv_logic.specs.Conditions.{Meaning, Valuation, View, Shows, Condition, both, follows}
use Rattle.spv_logic.proofs.list.Tests.{left_true, right_true}
use Rattle.spv_program.specs.Lists.{all_differ}
use Rattle.spv_program.specs.Expressions.{Expression, designator, no_selectors, at_index, at_field, at_cell}
use Rattle.spv_program.specs.Statements.{Statement, Arms, Empty, Assign, Perform, New, Sequence, If, Case, While, Repeat, For, Assert, no_arms, arm}
use Rattle.spv_program.specs.Programs.{Program, shapes}
use Rattle.spv_program.specs.Scopes.{body_scope, name_type}
use Rattle.spv_program.specs.FormulaTypes.{is_sort, annotation_ok}
use Rattle.spv_program.specs.ExpressionTypes.{expression_sort, sort_of_type}
use Rattle.spv_program.specs.Typing.{labels_in, counting_ok, statement_ok, arms_ok, declarations_ok, routine_ok, well_typed}
use Rattle.spv_program.specs.Supplies.{full_supply}
use Rattle.spv_program.proofs.SortFacts.{nothing_there}
use Rattle.spv_meaning.specs.Places.{State}
use Rattle.spv_meaning.specs.Views.{now_view, entry_view}
use Rattle.spv_meaning.specs.Walks.{run}
use Rattle.spv_meaning.specs.Correct.{Starts, CorrectWith, CorrectBelow, is_there, Correct}
use Rattle.spv_meaning.specs.Before.{Made, before, wanted_if_there}
use Rattle.spv_meaning.specs.Assignments.{has_no_routines}
use Rattle.spv_meaning.specs.ProgramConditions.{main_conditions, conditions_from, conditions_of, AllTrueIn}
use Rattle.spv_meaning.proofs.MainViews.{entry-main}
use Rattle.spv_meaning.proofs.Assigning.{in_main, AllTrueNow}
use Rattle.spv_meaning.proofs.AssignedPrograms.{under_entry, exit_holds, nobody, no_routine}
use Rattle.spv_rule_soundness.proofs.evaluation.Settings.{forms_right}
use Rattle.spv_rule_soundness.specs.statements.Truth.{IsWindow, meaning_in, shown, IsTrueFor}
use Rattle.spv_rule_soundness.specs.statements.Runs.{all_allowed, Reaches, may_change, EndsWell}
use Rattle.spv_rule_soundness.specs.statements.Parts.{parts_pass, arms_pass}
use Rattle.spv_rule_soundness.proofs.statements.Annotations.{wanted_there_ignores}
use Rattle.spv_rule_soundness.proofs.statements.Views.{Part, First, Second, parts, in_first}
use Rattle.spv_rule_soundness.proofs.statements.Induction.{right_level}
use Rattle.spv_rule_soundness.specs.control.Blocks.{calls_nothing, is_control, arms_control, only_control}
use Rattle.spv_rule_soundness.proofs.control.Parts.{main_parts, main_entry, parts_right}

-- ---- the parts of such a program pass

sorted_some : (s : Sort) (o : Option Sort) → is_sort s o ≡ true → is_some o ≡ true
sorted_some s None h = absurd (false≢true h)
sorted_some s (Some t) h = refl

module _ (p : Program) where
  test_passes : (e : Expression) (s : Sort) → calls_nothing e ≡ true → is_sort s (expression_sort p None e) ≡ true → (calls_nothing e && is_some (expression_sort p None e)) ≡ true
  test_passes e s calls sorted = both_true calls (sorted_some s (expression_sort p None e) sorted)

  mutual
    all_pass : (s : Statement) → is_control s ≡ true → statement_ok p None s ≡ true → parts_pass (main_parts p) s ≡ true
    all_pass Empty control ok = refl
    all_pass (Assign (designator line x no_selectors) e) control ok = both_true control ok
    all_pass (Assign (designator line x (at_index t i others)) e) control ok = absurd (false≢true control)
    all_pass (Assign (designator line x (at_field t f others)) e) control ok = absurd (false≢true control)
    all_pass (Assign (designator line x (at_cell l t others)) e) control ok = absurd (false≢true control)
    all_pass (Perform c) control ok = absurd (false≢true control)
    all_pass (New line d t) control ok = absurd (false≢true control)
    all_pass (Sequence a b) control ok =
        both_true (all_pass a (left_true (is_control a) _ control) (left_true (statement_ok p None a) _ ok)) (all_pass b (right_true (is_control a) _ control) (right_true (statement_ok p None a) _ ok))
    all_pass (If line e a b) control ok =
        let inner = right_true (calls_nothing e) _ control in
        let typed = right_true (is_sort sort.Bool (expression_sort p None e)) _ ok in
        both_true (test_passes e sort.Bool (left_true (calls_nothing e) _ control) (left_true (is_sort sort.Bool (expression_sort p None e)) _ ok))
        (both_true (all_pass a (left_true (is_control a) _ inner) (left_true (statement_ok p None a) _ typed)) (all_pass b (right_true (is_control a) _ inner) (right_true (statement_ok p None a) _ typed)))
    all_pass (Case line e arms) control ok =
        let number = left_true (is_sort sort.Int (expression_sort p None e)) _ ok in
        let typed = right_true (all_differ int_eq (labels_in arms)) _ (right_true (is_sort sort.Int (expression_sort p None e)) _ ok) in
        both_true (test_passes e sort.Int (left_true (calls_nothing e) _ control) number)
        (both_true number (arms_all_pass arms (right_true (calls_nothing e) _ control) typed))
    all_pass (While line f e s) control ok =
        let typed = right_true (annotation_ok p (body_scope p None) f) _ ok in
        both_true (test_passes e sort.Bool (left_true (calls_nothing e) _ control) (left_true (is_sort sort.Bool (expression_sort p None e)) _ typed))
        (all_pass s (right_true (calls_nothing e) _ control) (right_true (is_sort sort.Bool (expression_sort p None e)) _ typed))
    all_pass (Repeat line f s e) control ok =
        let typed = right_true (annotation_ok p (body_scope p None) f) _ ok in
        both_true (test_passes e sort.Bool (left_true (calls_nothing e) _ control) (left_true (is_sort sort.Bool (expression_sort p None e)) _ typed))
        (all_pass s (right_true (calls_nothing e) _ control) (right_true (is_sort sort.Bool (expression_sort p None e)) _ typed))
    all_pass (For line f count s) control ok =
        let typed = right_true (annotation_ok p (body_scope p None) f) _ ok in
        let counting = left_true (counting_ok p None count s) _ typed in
        let ends = right_true (is_sort sort.Int (sort_of_type p (name_type p None count.variable))) _ counting in
        let first = left_true (is_sort sort.Int (expression_sort p None count.first)) _ ends in
        let last = left_true (is_sort sort.Int (expression_sort p None count.last)) _ (right_true (is_sort sort.Int (expression_sort p None count.first)) _ ends) in
        let inner = right_true (calls_nothing count.first) _ control in
        both_true counting
        (both_true (test_passes count.first sort.Int (left_true (calls_nothing count.first) _ control) first)
        (both_true (test_passes count.last sort.Int (left_true (calls_nothing count.last) _ inner) last)
        (both_true first
        (all_pass s (right_true (calls_nothing count.last) _ inner) (right_true (counting_ok p None count s) _ typed)))))
    all_pass (Assert a) control ok = refl

    arms_all_pass : (arms : Arms) → arms_control arms ≡ true → arms_ok p None arms ≡ true → arms_pass (main_parts p) arms ≡ true
    arms_all_pass no_arms control ok = refl
    arms_all_pass (arm labels s others) control ok =
        both_true (all_pass s (left_true (is_control s) _ control) (left_true (statement_ok p None s) _ ok))
        (arms_all_pass others (right_true (is_control s) _ control) (right_true (statement_ok p None s) _ ok))

-- ---- no window, and nothing of the entry

abbrev nothing_fixed : View
nothing_fixed h = None

no_window : (p : Program) → IsWindow p full_supply nothing_fixed
no_window p = record {
  fit = λ h w e. absurd (nothing_there e);
  taken = λ h w e. absurd (nothing_there e);
  fresh = λ h w e. absurd (nothing_there e);
}

module _ (p : Program) (world : Meaning) (begin state : State) where
  now_of_shown : (v : Valuation) → Shows (shown p (in_main (entry_view p None begin)) nothing_fixed state) v → Shows (now_view p None state) v
  now_of_shown v shows h w e = shows h w (in_first _ None w (in_first _ (entry_view p None begin h) w e))

  shown_of_now : (v : Valuation) → Shows (now_view p None state) v → Shows (shown p (in_main (entry_view p None begin)) nothing_fixed state) v
  shown_of_now v shows h w e = by_part (parts (both (entry_view p None begin) (now_view p None state) h) None w e)
    where
      by_entry : Part (now_view p None state h) (entry_view p None begin h) w → v h ≡ w
      by_entry (First there) = shows h w there
      by_entry (Second none there) = absurd (nothing_there (sym (entry-main p begin h) ∙ there))

      by_part : Part (both (entry_view p None begin) (now_view p None state) h) None w → v h ≡ w
      by_part (First there) = by_entry (parts (now_view p None state h) (entry_view p None begin h) w there)
      by_part (Second none there) = absurd (nothing_there there)

  true_all : (cs : List Condition) → AllTrueNow p world cs state → IsTrueFor p world (shown p (in_main (entry_view p None begin)) nothing_fixed state) cs
  true_all [] h v val shows = refl
  true_all (c ∷ cs) h v val shows = both_true (h.0 v val (now_of_shown v shows)) (true_all cs h.1 v val shows)

  true_each : (cs : List Condition) → IsTrueFor p world (shown p (in_main (entry_view p None begin)) nothing_fixed state) cs → AllTrueNow p world cs state
  true_each [] h = tt
  true_each (c ∷ cs) h = (
    λ v val shows. left_true (follows (meaning_in p world) v c.claim) _ (h v val (shown_of_now v shows)),
    true_each cs (λ v val shows. right_true (follows (meaning_in p world) v c.claim) _ (h v val shows)),
  )

-- ---- the program

main_right : (p : Program) (world : Meaning) → well_typed p ≡ true → only_control p ≡ true → AllTrueIn (shapes p) p.symbols world (conditions_of p) → (turns : ℕ) → CorrectBelow p world turns → CorrectWith p world None turns
main_right p world typed control h turns fewer =
    let main = right_true (list_all (routine_ok p) p.routines) _ (right_true (declarations_ok p) _ typed) in
    let entry = left_true (annotation_ok p (body_scope p None) p.main.entry) _ main in
    let rest = right_true (annotation_ok p (body_scope p None) p.main.entry) _ main in
    let body = right_true (annotation_ok p (body_scope p None) p.main.exit) _ rest in
    let none = no_routine p.routines (left_true (has_no_routines p.routines) _ control) in
    let block = right_true (has_no_routines p.routines) _ control in
    let all : AllTrueIn (shapes p) p.symbols world (main_conditions p full_supply) = subst (λ rs. AllTrueIn (shapes p) p.symbols world (conditions_from p 0 rs full_supply)) none h in
    let q : Made = record { conditions = wanted_if_there p None kind.Exit p.main.exit; supply = full_supply } in
    let runs : (state : State) → Starts p world None state → (choices : List Value) → Reaches p world all_allowed State (EndsWell p world (in_main (entry_view p None state)) nothing_fixed (may_change p (in_main (entry_view p None state)) p.main.body) q.conditions state) (run p turns (in_main (entry_view p None state)) p.main.body state choices)
    = λ state starts choices.
    (right_level p world all_allowed (forms_right p typed) (in_main (entry_view p None state)) (main_entry p typed world (entry_view p None state) (entry-main p state)) (main_parts p) (parts_right p typed world (entry_view p None state) (entry-main p state)) turns fewer).statements p.main.body (all_pass p p.main.body block body)
    q (wanted_there_ignores p world full_supply None kind.Exit p.main.exit) nothing_fixed (no_window p) state starts.is_start
    (true_all p world state state (before p None p.main.body q).conditions (under_entry p world state starts.is_start p.main.entry entry starts.entry (before p None p.main.body q).conditions all)) choices in
    record {
      reached = λ state starts choices. (runs state starts choices).holds;
      ended = λ state starts choices after e.
          let last = (runs state starts choices).ended after e in
          exit_holds p world p.main.exit state after (forms_right p typed) last.is_start (true_each p world state after q.conditions last.true_there);
    }

-- what is correct with fewer turns than a number and with that number is so with fewer than the next one
one_more : (p : Program) (world : Meaning) (n : ℕ) → CorrectBelow p world n → ((here : Option RoutineId) → is_there p here ≡ true → CorrectWith p world here n) → CorrectBelow p world (suc n)
one_more p world n fewer now = record { each = λ here there turns less. by_case here there turns less (nat_lt turns n) refl }
  where
    by_case : (here : Option RoutineId) → is_there p here ≡ true → (turns : ℕ) → turns < suc n → (b : Bool) → nat_lt turns n ≡ b → CorrectWith p world here turns
    by_case here there turns less true e = let below : turns < n = grind (arith, nat_tests) in fewer.each here there turns below
    by_case here there turns less false e = let same : n ≡ turns = grind (arith, nat_tests) in subst (CorrectWith p world here) same (now here there)

module _ (p : Program) (world : Meaning) (typed : well_typed p ≡ true) (control : only_control p ≡ true) (h : AllTrueIn (shapes p) p.symbols world (conditions_of p)) where
  with_turns : (turns : ℕ) → CorrectBelow p world turns → (here : Option RoutineId) → is_there p here ≡ true → CorrectWith p world here turns
  with_turns turns fewer None there = main_right p world typed control h turns fewer
  with_turns turns fewer (Some id) there = nobody p world id turns (no_routine p.routines (left_true (has_no_routines p.routines) _ control)) there

  below_turns : (turns : ℕ) → CorrectBelow p world turns
  below_turns zero = record { each = λ here there turns less. let none : ⊥ = omega (arith, less) in absurd none }
  below_turns (suc n) = let fewer = below_turns n in one_more p world n fewer (with_turns n fewer)

  -- conditions that are true make the program correct
  pub control_correct : Correct p world
  control_correct = record { each = λ here there turns. with_turns turns (below_turns turns) here there }
