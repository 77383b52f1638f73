-- Conditions that are true make a program of assignments correct.
use Rattle.std.proofs.Common.{◌≡◌, ℕ, zero, suc, Bool, true, false, cond, ◌&&◌, ◌||◌, not, List, [], ◌∷◌, ◌++◌, refl, sym, ap, ◌∙◌, subst, Option, Some, None, option_map, is_some}
use Rattle.std.specs.Option.{option_and_then, unwrap_or}
use Rattle.std.specs.List.{list_all}
use Rattle.std.specs.Cmp.Derive.{both_true}
use Rattle.std.proofs.lemmas.Bool.{false≢true}
use Rattle.spv_logic.specs.declared.names.names.Symbol.{Symbol}
use Rattle.spv_logic.specs.declared.types.TypeId.{TypeId}
use Rattle.spv_logic.specs.declared.types.Sort.{Sort}
use Rattle.spv_logic.specs.declared.types.Sort.TheVariants as sort
use Rattle.spv_logic.specs.declared.conditions.Kind.TheVariants as kind
use Rattle.spv_logic.specs.declared.conditions.RoutineId.{RoutineId}
use Rattle.spv_logic.specs.declared.operators.Head.TheVariants as head
use Rattle.spv_logic.specs.Values.{Value, truth_of}
use Rattle.spv_logic.specs.Terms.{Term, sort_eq}
use Rattle.spv_logic.specs.Shapes.{shapes_ok}
use Rattle.spv_logic.specs.Fits.{fits, default_of}
use Rattle.spv_logic.specs.Sorts.{variable_sort}
use Rattle.spv_logic.specs.Conditions.{Meaning, Valuation, Sequent, Condition, View, IsValuation, Shows, both, answers, holds, follows}
use Rattle.spv_logic.proofs.list.Tests.{left_true, right_true}
use Rattle.spv_logic.proofs.Defaults.{default_fits}
use Rattle.spv_program.specs.Lists.{same_name, found, item_at}
use Rattle.spv_program.specs.Types.{sort_of, takes_value}
use Rattle.spv_program.specs.Expressions.{Expression, designator, no_selectors, at_index, at_field, at_cell}
use Rattle.spv_program.specs.Formulas.{Annotation}
use Rattle.spv_program.specs.Statements.{Statement, Empty, Assign, Sequence}
use Rattle.spv_program.specs.Programs.{Routine, Program, shapes}
use Rattle.spv_program.specs.Scopes.{with_sorts_of, body_scope, sort_or_int}
use Rattle.spv_program.specs.FormulaTypes.{same_sort, annotation_ok}
use Rattle.spv_program.specs.ExpressionTypes.{sort_of_type, expression_sort, designator_type, may_write}
use Rattle.spv_program.specs.Terms.{name_in, body_term}
use Rattle.spv_program.specs.Typing.{statement_ok, well_typed, declarations_ok, routine_ok}
use Rattle.spv_program.specs.Supplies.{full_supply}
use Rattle.spv_program.specs.ExpressionTerms.{Valued}
use Rattle.spv_program.specs.Types.{forms_ok, form_ok}
use Rattle.spv_program.proofs.SortFacts.{nothing_there, some_is, is_sort-true}
use Rattle.spv_meaning.specs.declared.faults.Fault.TheVariants as fault
use Rattle.spv_meaning.specs.Places.{State, put}
use Rattle.spv_meaning.specs.Views.{of_sort, class_of, now_view, entry_view}
use Rattle.spv_meaning.specs.Outcomes.{End, Ended, Stopped, Jump, Going, Met, Outcome, go_on, and_then, stops_unless}
use Rattle.spv_meaning.specs.Levels.{Level, reached_in_body}
use Rattle.spv_meaning.specs.Evaluation.{Fixed}
use Rattle.spv_meaning.specs.Walks.{walk, assign, level, run}
use Rattle.spv_meaning.specs.Starts.{IsStart, is_of_type}
use Rattle.spv_meaning.specs.Correct.{valuation_of, met_holds, all_hold, met_if_there, begun, Starts, CorrectWith, is_there, Correct}
use Rattle.spv_meaning.specs.Before.{Made, before, before_calls, replaced, assuming_if_there, annotation_term, wanted_if_there}
use Rattle.spv_meaning.specs.ProgramConditions.{main_conditions, conditions_from, conditions_of, AllTrueIn}
use Rattle.spv_meaning.specs.Assignments.{is_simple, is_block, has_no_routines, only_assigns}
use Rattle.spv_meaning.proofs.MainViews.{variable, view-declared, declared_there, declared_holds, start_after, both-main, fits_if_shown, view_is}
use Rattle.spv_meaning.proofs.Heaps.{class_fits}
use Rattle.spv_meaning.proofs.Formulas.{agrees}
use Rattle.spv_meaning.proofs.Assigning.{in_main, value_of, evaluates, term_is, Declared, declared_as, simple_fits, head_of, AllTrueNow, pair, all_assigned}

list_all-append : {X : Type 0} (test : X → Bool) (xs ys : List X) → list_all test xs ≡ true → list_all test ys ≡ true → list_all test (xs ++ ys) ≡ true
list_all-append test [] ys h g = g
list_all-append test (x ∷ xs) ys h g =
    both_true (left_true (test x) _ h) (list_all-append test xs ys (right_true (test x) _ h) g)

-- ---- statements

-- what a run from a start leaves: each annotation reached holds, and where it ended, the conditions after it are true
pub record Leaves (p : Program) (world : Meaning) (after : List Condition) (outcome : Outcome State) : Type 0 where
  pub met_ok : all_hold p world outcome.met ≡ true
  pub ended_ok : (state : State) → outcome.end ≡ Ended state → AllTrueNow p world after state × IsStart p None state

ended_at : (p : Program) (world : Meaning) (after : List Condition) (at state : State) → AllTrueNow p world after at → IsStart p None at → Ended at ≡ Ended state → AllTrueNow p world after state × IsStart p None state
ended_at p world after at state h start e =
    let same : at ≡ state = cc in
    subst (λ s. AllTrueNow p world after s × IsStart p None s) same (h, start)

run_on : (p : Program) (world : Meaning) (middle after : List Condition) (end : End State) (met : List Met) (rest : List Value) (next : State → List Value → Outcome State) → all_hold p world met ≡ true → ((state : State) → end ≡ Ended state → AllTrueNow p world middle state × IsStart p None state) → ((state : State) → AllTrueNow p world middle state → IsStart p None state → Leaves p world after (next state rest)) → Leaves p world after (go_on end met rest next)
run_on p world middle after (Ended state) met rest next ok here go =
    let first = here state refl in
    let second = go state first.0 first.1 in
    record {
      met_ok = list_all-append (met_holds p world) met (next state rest).met ok second.met_ok;
      ended_ok = second.ended_ok;
    }
run_on p world middle after (Stopped fault) met rest next ok here go = record { met_ok = ok; ended_ok = λ state e. cc }
run_on p world middle after (Jump label at) met rest next ok here go = record { met_ok = ok; ended_ok = λ state e. cc }
run_on p world middle after Going met rest next ok here go = record { met_ok = ok; ended_ok = λ state e. cc }

-- the sorts of both sides of an assignment
pub record SameSorts (a b : Option Sort) : Type 0 where
  pub common : Sort
  pub left : a ≡ Some common
  pub right : b ≡ Some common

pub same_sorts : (a b : Option Sort) → same_sort a b ≡ true → SameSorts a b
same_sorts None b h = absurd (false≢true h)
same_sorts (Some s) b h = record { common = s; left = refl; right = is_sort-true s b h }

-- an assignment that the variable's subrange lets pass, or not
either_way : (p : Program) (world : Meaning) (after : List Condition) (test : Bool) (at : State) (rest : List Value) → AllTrueNow p world after at → IsStart p None at → Leaves p world after (stops_unless test fault.Range at rest)
either_way p world after true at rest h start = record { met_ok = refl; ended_ok = λ state e. ended_at p world after at state h start e }
either_way p world after false at rest h start = record { met_ok = refl; ended_ok = λ state e. cc }

assignment_true : (p : Program) (world : Meaning) (entry : View) (line : ℕ) (x : Symbol) (e : Expression) → is_simple e ≡ true → statement_ok p None (Assign (designator line x no_selectors) e) ≡ true → (q : Made) (state : State) → IsStart p None state → AllTrueNow p world (before p None (Assign (designator line x no_selectors) e) q).conditions state → (below : Option Level) (choices : List Value) → Leaves p world q.conditions (walk p below (in_main entry) (Assign (designator line x no_selectors) e) state choices)
assignment_true p world entry line x e simple ok q state start h below choices =
    let d = designator line x no_selectors in
    let sorts = same_sorts (sort_of_type p (designator_type p None d)) (expression_sort p None e) (right_true (may_write None d) _ ok) in
    let declared = declared_as p x sorts.common sorts.left in
    let conditions : AllTrueNow p world (replaced (pair p x e) q.conditions) state = subst (λ (v : Valued). AllTrueNow p world (before_calls None v.calls (replaced ((head_of p x, v.term) ∷ []) q.conditions)) state) (term_is p q.supply e simple) h in
    let fixed : Fixed = record { place = variable x; type = unwrap_or (found p.variables x) (record { 0 = 0 }); state = state } in
    let after_run = evaluates p below entry e simple state choices in
    subst (λ o. Leaves p world q.conditions (and_then o (λ got last. assign p fixed got.value got.state last))) (sym after_run)
    (either_way p world q.conditions (takes_value p.forms fixed.type (value_of state e)) (put state (variable x) (value_of state e)) choices
    (all_assigned p world state start x declared.type declared.is e simple sorts.common sorts.right q.conditions conditions)
    (start_after p state start x (value_of state e) declared.type declared.is (ap (fits (shapes p) (value_of state e)) declared.sort_is ∙ simple_fits p state start e simple sorts.common sorts.right)))

-- from a start where the conditions before a block are true, a run of it leaves those after it true
pub block_true : (p : Program) (world : Meaning) (entry : View) (s : Statement) → is_block s ≡ true → statement_ok p None s ≡ true → (q : Made) (state : State) → IsStart p None state → AllTrueNow p world (before p None s q).conditions state → (below : Option Level) (choices : List Value) → Leaves p world q.conditions (walk p below (in_main entry) s state choices)
block_true p world entry Empty simple ok q state start h below choices = record {
  met_ok = refl;
  ended_ok = λ last e. ended_at p world q.conditions state last h start e;
}
block_true p world entry (Assign (designator line x no_selectors) e) simple ok q state start h below choices =
    assignment_true p world entry line x e simple ok q state start h below choices
block_true p world entry (Assign (designator line x (at_index t i others)) e) simple ok q state start h below choices = absurd (false≢true simple)
block_true p world entry (Assign (designator line x (at_field t f others)) e) simple ok q state start h below choices = absurd (false≢true simple)
block_true p world entry (Assign (designator line x (at_cell l t others)) e) simple ok q state start h below choices = absurd (false≢true simple)
block_true p world entry (Sequence a b) simple ok q state start h below choices =
    let first = block_true p world entry a (left_true (is_block a) _ simple) (left_true (statement_ok p None a) _ ok) (before p None b q) state start h below choices in
    let one = walk p below (in_main entry) a state choices in
    run_on p world (before p None b q).conditions q.conditions one.end one.met one.rest (λ after rest. walk p below (in_main entry) b after rest) first.met_ok first.ended_ok
    (λ at here at_start. block_true p world entry b (right_true (is_block a) _ simple) (right_true (statement_ok p None a) _ ok) q at at_start here below one.rest)
block_true p world entry _ simple ok q state start h below choices = absurd (false≢true simple)

-- with so many turns
block_runs : (p : Program) (world : Meaning) (entry : View) (s : Statement) → is_block s ≡ true → statement_ok p None s ≡ true → (q : Made) (state : State) → IsStart p None state → AllTrueNow p world (before p None s q).conditions state → (turns : ℕ) (choices : List Value) → Leaves p world q.conditions (run p turns (in_main entry) s state choices)
block_runs p world entry s simple ok q state start h zero choices = block_true p world entry s simple ok q state start h None choices
block_runs p world entry s simple ok q state start h (suc n) choices = block_true p world entry s simple ok q state start h (Some (level p n)) choices

-- ---- annotations of the main block

value_shown : (o : Option Value) (d : Value) (u v : Value) → is_some o ≡ true → ((w : Value) → o ≡ Some w → v ≡ w) → v ≡ unwrap_or o d
value_shown None d u v s h = absurd (false≢true s)
value_shown (Some w) d u v s h = h w refl

mapped_found : (p : Program) (vars : List (Symbol × TypeId)) (x : Symbol) (s : Sort) → found (with_sorts_of p vars) x ≡ Some s → option_map (sort_of p.forms) (option_and_then (λ t. Some t) (found vars x)) ≡ Some s
mapped_found p [] x s e = absurd (nothing_there e)
mapped_found p (n ∷ vars) x s e = by_case (same_name n.0 x) e (mapped_found p vars x s)
  where
    by_case : (b : Bool) → cond b (Some (sort_of p.forms n.1)) (found (with_sorts_of p vars) x) ≡ Some s → (found (with_sorts_of p vars) x ≡ Some s → option_map (sort_of p.forms) (option_and_then (λ t. Some t) (found vars x)) ≡ Some s) → option_map (sort_of p.forms) (option_and_then (λ t. Some t) (cond b (Some n.1) (found vars x))) ≡ Some s
    by_case true e later = e
    by_case false e later = later e

-- a valuation that gives the names what a state shows agrees with that of the state on a well typed formula
module _ (p : Program) (world : Meaning) (begin state : State) (start : IsStart p None state) (v : Valuation) (shows : Shows (now_view p None state) v) where
  on_name : (x : Symbol) (s : Sort) → found (body_scope p None) x ≡ Some s → v (head.Var x (sort_or_int (found (body_scope p None) x)) 0) ≡ valuation_of (shapes p) (both (entry_view p None begin) (now_view p None state)) (head.Var x (sort_or_int (found (body_scope p None) x)) 0)
  on_name x s e =
      let d = declared_as p x s (mapped_found p p.variables x s e) in
      let h = head.Var x (sort_of p.forms d.type) 0 in
      let is : head.Var x (sort_or_int (found (body_scope p None) x)) 0 ≡ h = ap (λ o. head.Var x (sort_or_int o) 0) e ∙ ap (λ r. head.Var x r 0) (sym d.sort_is) in
      let at : v h ≡ valuation_of (shapes p) (both (entry_view p None begin) (now_view p None state)) h = value_shown (now_view p None state h) (default_of (shapes p) (sort_of p.forms d.type)) (v h) (v h) (ap is_some (view-declared p state x d.type d.is) ∙ declared_there p state start x d.type d.is) (shows h)
      ∙ sym (ap (λ o. unwrap_or o (default_of (shapes p) (sort_of p.forms d.type))) (both-main p begin (now_view p None state) h)) in
      subst (λ k. v k ≡ valuation_of (shapes p) (both (entry_view p None begin) (now_view p None state)) k) (sym is) at

  pub same_truth : (a : Annotation) → annotation_ok p (body_scope p None) (Some a) ≡ true → holds (answers (shapes p) p.symbols world) v (body_term p None a) ≡ holds (answers (shapes p) p.symbols world) (valuation_of (shapes p) (both (entry_view p None begin) (now_view p None state))) (body_term p None a)
  same_truth a ok =
      ap truth_of (agrees (answers (shapes p) p.symbols world) v (valuation_of (shapes p) (both (entry_view p None begin) (now_view p None state))) p (body_scope p None) (name_in (body_scope p None)) on_name
      (λ t. shows (head.ClassVar t 0) (class_of (shapes p) state.heap t) refl) a.formula sort.Bool (is_sort-true sort.Bool _ ok))

-- ---- the valuation of a state

fits_or : (p : Program) (s : Sort) (o : Option Value) (w : Value) → ((v : Value) → o ≡ Some v → fits (shapes p) v s ≡ true) → fits (shapes p) w s ≡ true → fits (shapes p) (unwrap_or o w) s ≡ true
fits_or p s None w h d = d
fits_or p s (Some v) w h d = h v refl

variable_fits : (p : Program) (state : State) → IsStart p None state → (x : Symbol) (s : Sort) (n : ℕ) (v : Value) → now_view p None state (head.Var x s n) ≡ Some v → fits (shapes p) v s ≡ true
variable_fits p state start x s zero v e =
    fits_if_shown p (option_map (sort_of p.forms) (found p.variables x)) s (found state.variables x) v
    (λ d is. let declared = declared_as p x d (wrapped (found p.variables x) d is) in
    by_value (found state.variables x) refl d declared (sym (view_is p state x s) ∙ e))
    (sym (view_is p state x s) ∙ e)
  where
    wrapped : (o : Option TypeId) (d : Sort) → option_map (sort_of p.forms) o ≡ Some d → option_map (sort_of p.forms) (option_and_then (λ t. Some t) o) ≡ Some d
    wrapped None d e = e
    wrapped (Some t) d e = e

    by_value : (o : Option Value) → found state.variables x ≡ o → (d : Sort) → Declared p x d → of_sort (option_map (sort_of p.forms) (found p.variables x)) s (found state.variables x) ≡ Some v → fits (shapes p) v d ≡ true
    by_value None is d declared shown = absurd (no_value (option_map (sort_of p.forms) (found p.variables x)) shown)
      where
        no_value : (declared : Option Sort) → of_sort declared s (found state.variables x) ≡ Some v → ⊥
        no_value None e = nothing_there e
        no_value (Some r) e = by_sort (sort_eq r s) e
          where
            by_sort : (b : Bool) → cond b (found state.variables x) None ≡ Some v → ⊥
            by_sort true e = nothing_there (sym is ∙ e)
            by_sort false e = nothing_there e
    by_value (Some w) is d declared shown =
        let same : w ≡ v = that (option_map (sort_of p.forms) (found p.variables x)) shown in
        let held = ap (is_of_type p declared.type) (sym is) ∙ declared_holds p state start x declared.type declared.is in
        ap (fits (shapes p) v) (sym declared.sort_is) ∙ (ap (λ u. fits (shapes p) u (sort_of p.forms declared.type)) (sym same) ∙ held)
      where
        that : (declared : Option Sort) → of_sort declared s (found state.variables x) ≡ Some v → w ≡ v
        that None e = absurd (nothing_there e)
        that (Some r) e = by_sort (sort_eq r s) e
          where
            by_sort : (b : Bool) → cond b (found state.variables x) None ≡ Some v → w ≡ v
            by_sort true e = some_is (sym is ∙ e)
            by_sort false e = absurd (nothing_there e)
variable_fits p state start x s (suc n) v e = absurd (nothing_there e)

class_shown : (p : Program) → shapes_ok (shapes p) ≡ true → (state : State) → IsStart p None state → (t : TypeId) (n : ℕ) (v : Value) → now_view p None state (head.ClassVar t n) ≡ Some v → fits (shapes p) v (sort.Class t) ≡ true
class_shown p ok state start t zero v e =
    subst (λ u. fits (shapes p) u (sort.Class t) ≡ true) (some_is e) (class_fits p ok state.heap start.heap t)
class_shown p ok state start t (suc n) v e = absurd (nothing_there e)

-- the valuation of a state gives each variable a value of its sort
pub state_valuation : (p : Program) → shapes_ok (shapes p) ≡ true → (begin state : State) → IsStart p None state → IsValuation (shapes p) (valuation_of (shapes p) (both (entry_view p None begin) (now_view p None state)))
state_valuation p ok begin state start = record {
  variables = λ x s n. fits_or p s _ (default_of (shapes p) s) (λ v e. variable_fits p state start x s n v (sym (both-main p begin (now_view p None state) (head.Var x s n)) ∙ e)) (default_fits (shapes p) ok s);
  classes = λ t n. fits_or p (sort.Class t) _ (default_of (shapes p) (sort.Class t)) (λ v e. class_shown p ok state start t n v (sym (both-main p begin (now_view p None state) (head.ClassVar t n)) ∙ e)) (default_fits (shapes p) ok (sort.Class t));
  starts = λ x s. fits_or p s _ (default_of (shapes p) s) (λ v e. absurd (nothing_there (sym (both-main p begin (now_view p None state) (head.Start x s)) ∙ e))) (default_fits (shapes p) ok s);
}

pub state_shows : (p : Program) (begin state : State) → Shows (now_view p None state) (valuation_of (shapes p) (both (entry_view p None begin) (now_view p None state)))
state_shows p begin state h w e = ap (λ o. unwrap_or o (default_of (shapes p) (variable_sort h))) (both-main p begin (now_view p None state) h ∙ e)

-- ---- the program

-- a condition with one hypothesis more, which holds, is the condition
entry_taken : (symbols : Meaning) (v : Valuation) (h : Term) (c : Sequent) → holds symbols v h ≡ true → follows symbols v (record { given = h ∷ c.given; goal = c.goal }) ≡ true → follows symbols v c ≡ true
entry_taken symbols v h c met follow = ap (λ b. not (b && list_all (holds symbols v) c.given) || holds symbols v c.goal) (sym met) ∙ follow

pub under_entry : (p : Program) (world : Meaning) (state : State) → IsStart p None state → (entry : Option Annotation) → annotation_ok p (body_scope p None) entry ≡ true → all_hold p world (met_if_there (reached_in_body p (begun p None state) kind.Entry state) entry) ≡ true → (cs : List Condition) → AllTrueIn (shapes p) p.symbols world (assuming_if_there (annotation_term p None entry) cs) → AllTrueNow p world cs state
under_entry p world state start None typed met [] h = tt
under_entry p world state start (Some a) typed met [] h = tt
under_entry p world state start None typed met (c ∷ cs) h =
    (λ v ok shows. h.0 v ok, under_entry p world state start None typed met cs h.1)
under_entry p world state start (Some a) typed met (c ∷ cs) h = (
  λ v ok shows. let symbols = answers (shapes p) p.symbols world in
      entry_taken symbols v (body_term p None a) c.claim (same_truth p world state state start v shows a typed ∙ left_true _ _ met) (h.0 v ok),
  under_entry p world state start (Some a) typed met cs h.1,
)

pub exit_holds : (p : Program) (world : Meaning) (exit : Option Annotation) (begin state : State) → shapes_ok (shapes p) ≡ true → IsStart p None state → AllTrueNow p world (wanted_if_there p None kind.Exit exit) state → all_hold p world (met_if_there (reached_in_body p (begun p None begin) kind.Exit state) exit) ≡ true
exit_holds p world None begin state ok start h = refl
exit_holds p world (Some a) begin state ok start h =
    both_true (h.0 (valuation_of (shapes p) (both (entry_view p None begin) (now_view p None state))) (state_valuation p ok begin state start) (state_shows p begin state)) refl

pub no_routine : (routines : List Routine) → has_no_routines routines ≡ true → routines ≡ []
no_routine [] h = refl
no_routine (r ∷ routines) h = absurd (false≢true h)

-- where there are no routines, there is none to be correct
pub nobody : (p : Program) (world : Meaning) (id : RoutineId) (turns : ℕ) → p.routines ≡ [] → is_there p (Some id) ≡ true → CorrectWith p world (Some id) turns
nobody p world id turns none there = absurd (false≢true (sym (ap (λ rs. is_some (item_at rs id.0)) none) ∙ there))

main_correct : (p : Program) (world : Meaning) → well_typed p ≡ true → only_assigns p ≡ true → AllTrueIn (shapes p) p.symbols world (conditions_of p) → (turns : ℕ) → CorrectWith p world None turns
main_correct p world typed simple h turns =
    let types : shapes_ok (shapes p) ≡ true = right_true (list_all (form_ok p.forms) p.forms) _ (left_true (forms_ok p.forms) _ (left_true (declarations_ok p) _ typed)) in
    let main = right_true (list_all (routine_ok p) p.routines) _ (right_true (declarations_ok p) _ typed) in
    let entry = left_true (annotation_ok p (body_scope p None) p.main.entry) _ main in
    let rest = right_true (annotation_ok p (body_scope p None) p.main.entry) _ main in
    let body = right_true (annotation_ok p (body_scope p None) p.main.exit) _ rest in
    let none = no_routine p.routines (left_true (has_no_routines p.routines) _ simple) in
    let block = right_true (has_no_routines p.routines) _ simple in
    let all : AllTrueIn (shapes p) p.symbols world (main_conditions p full_supply) = subst (λ rs. AllTrueIn (shapes p) p.symbols world (conditions_from p 0 rs full_supply)) none h in
    let q : Made = record { conditions = wanted_if_there p None kind.Exit p.main.exit; supply = full_supply } in
    let runs : (state : State) → Starts p world None state → (choices : List Value) → Leaves p world q.conditions (run p turns (begun p None state) p.main.body state choices) = λ state starts choices. block_runs p world (entry_view p None state) p.main.body block body q state starts.is_start (under_entry p world state starts.is_start p.main.entry entry starts.entry (before p None p.main.body q).conditions all) turns choices in
    record {
      reached = λ state starts choices. (runs state starts choices).met_ok;
      ended = λ state starts choices after e. let last = (runs state starts choices).ended_ok after e in exit_holds p world p.main.exit state after types last.1 last.0;
    }

-- conditions that are true make the program correct
pub conditions_correct : (p : Program) (world : Meaning) → well_typed p ≡ true → only_assigns p ≡ true → AllTrueIn (shapes p) p.symbols world (conditions_of p) → Correct p world
conditions_correct p world typed simple h = record {
  each = λ here there turns. by_routine here there turns;
}
  where
    by_routine : (here : Option RoutineId) → is_there p here ≡ true → (turns : ℕ) → CorrectWith p world here turns
    by_routine None there turns = main_correct p world typed simple h turns
    by_routine (Some id) there turns = nobody p world id turns (no_routine p.routines (left_true (has_no_routines p.routines) _ simple)) there
