-- Where every routine is correct with fewer turns, routines that are called do what they promise.
use Rattle.std.proofs.Common.{◌≡◌, ℕ, zero, suc, Bool, true, false, List, [], ◌∷◌, ◌++◌, refl, sym, ap, subst, ◌∙◌, Option, Some, None, option_map, cond, ◌&&◌, arith}
use Rattle.std.specs.Prelude.{is_some}
use Rattle.std.specs.List.{list_all}
use Rattle.std.specs.Option.{unwrap_or}
use Rattle.std.specs.Cmp.Derive.{both_true}
use Rattle.spv_logic.proofs.list.Tests.{left_true, right_true}
use Rattle.spv_logic.specs.declared.names.names.Symbol.{Symbol}
use Rattle.spv_logic.specs.declared.types.TypeId.{TypeId}
use Rattle.spv_logic.specs.declared.types.Sort.{Sort}
use Rattle.spv_logic.specs.declared.conditions.RoutineId.{RoutineId}
use Rattle.spv_logic.specs.declared.conditions.Kind.TheVariants as kind
use Rattle.spv_logic.specs.declared.operators.Head.{Head}
use Rattle.spv_logic.specs.declared.operators.Head.TheVariants as head
use Rattle.spv_logic.specs.Values.{Value, truth_of}
use Rattle.spv_logic.specs.Terms.{Term}
use Rattle.spv_logic.specs.Shapes.{shapes_ok}
use Rattle.spv_logic.specs.Fits.{fits, default_of}
use Rattle.spv_logic.specs.Sorts.{variable_sort}
use Rattle.spv_logic.specs.Substitution.{is_variable, substitute, under}
use Rattle.spv_logic.specs.Conditions.{Meaning, Valuation, IsValuation, View, Shows, both, holds}
use Rattle.spv_logic.proofs.Substitution.{eval-substitute, eval-agree}
use Rattle.spv_logic.proofs.Defaults.{default_fits}
use Rattle.spv_program.specs.Expressions.{Arguments, call}
use Rattle.spv_program.specs.Types.{sort_of}
use Rattle.spv_program.specs.Formulas.{Annotation}
use Rattle.spv_program.specs.Uses.{annotation_uses}
use Rattle.spv_program.specs.Programs.{Routine, Program, shapes, routine_at, routine_in}
use Rattle.spv_program.specs.Scopes.{result_name, sort_or_int, entry_scope}
use Rattle.spv_program.specs.Frames.{is_formal, use_allowed, globals_of, arguments_apart}
use Rattle.spv_program.specs.ExpressionTypes.{callee, sort_of_type}
use Rattle.spv_program.specs.Supplies.{Supply}
use Rattle.spv_program.specs.Terms.{alone, name_in, name_at_exit, entry_term, exit_term}
use Rattle.spv_program.specs.Calls.{Argument, replacing, at_call, starts_at_call, initial_at_call, entry_at_call}
use Rattle.spv_program.specs.ExpressionTerms.{result_head}
use Rattle.spv_program.specs.Typing.{statement_ok}
use Rattle.spv_program.proofs.SortFacts.{nothing_there, some_is}
use Rattle.spv_meaning.specs.declared.faults.Fault.TheVariants as fault
use Rattle.spv_meaning.specs.Places.{Binding, State}
use Rattle.spv_meaning.specs.Views.{now_view, entry_view, sees}
use Rattle.spv_meaning.specs.Outcomes.{Ended, Met, ends, stops, and_then, meets, take_choice}
use Rattle.spv_meaning.specs.Levels.{Here, Level, Bound, run_body, reached_entry, reached_exit, choose_all, push, pop, run_routine, enter, result_in}
use Rattle.spv_meaning.specs.Walks.{level, run}
use Rattle.spv_meaning.specs.Evaluation.{Got, gives, arguments}
use Rattle.spv_meaning.specs.Starts.{IsStart}
use Rattle.spv_meaning.specs.Correct.{valuation_of, met_holds, all_hold, body_of, routine_body, begun, met_if_there, routine_entry, routine_exit, Starts, CorrectWith, CorrectBelow}
use Rattle.spv_meaning.specs.Before.{wanted_entry}
use Rattle.spv_preservation.proofs.Calls.{routine_right}
use Rattle.spv_preservation.proofs.Expressions.{is_callee}
use Rattle.spv_rule_soundness.specs.statements.Truth.{IsWindow, IsEntry, meaning_in, shown, IsTrueFor}
use Rattle.spv_rule_soundness.specs.statements.Runs.{all_allowed, Reaches}
use Rattle.spv_rule_soundness.specs.statements.Laws.{below}
use Rattle.spv_rule_soundness.proofs.evaluation.Settings.{forms_right}
use Rattle.spv_rule_soundness.proofs.statements.Views.{within, laid_over}
use Rattle.spv_rule_soundness.proofs.statements.States.{shown_fit}
use Rattle.spv_rule_soundness.proofs.statements.Reaching.{reach_then, reach_ends, reach_stops, reach_as, reach_meets, wanted_holds}
use Rattle.spv_frame_law.specs.Frames.{call_shown}
use Rattle.spv_frame_law.specs.Laws.{IsFramed}
use Rattle.spv_frame_law.proofs.Callees.{call_begins}
use Rattle.spv_frame_law.proofs.Starts.{leaves_start}
use Rattle.spv_frame_law.proofs.Levels.{function_alone}
use Rattle.spv_call_evaluation.specs.Lying.{IsBoundTo}
use Rattle.spv_call_evaluation.specs.Functions.{calls_shown, value_head, IsResult, FunctionsGive}
use Rattle.spv_call_evaluation.proofs.Windows.{reach_with}
use Rattle.spv_call_evaluation.proofs.Heads.{entry_test, exit_test, entry_passes, exit_passes, formula_passes, named_at_exit}
use Rattle.spv_call_evaluation.proofs.Callees.{entry_uses, exit_uses, result_fits, entry_same, exit_same}

-- ---- choices

-- variables that begin with choices reach nothing
module _ (p : Program) (world : Meaning) where
  chosen_reaches : (names : List (Symbol × TypeId)) (choices : List Value) → Reaches p world all_allowed (List (Symbol × Binding)) (λ own. Unit {0}) (choose_all p names choices)
  chosen_reaches [] choices = reach_ends p world all_allowed _ [] choices tt
  chosen_reaches (n ∷ names) choices =
      reach_then p world all_allowed (λ v. Unit {0}) _ (take_choice (shapes p) (sort_of p.forms n.1) choices) _ (taken (sort_of p.forms n.1) choices)
      (λ v done rest. reach_then p world all_allowed (λ own. Unit {0}) _ (choose_all p names rest) _ (chosen_reaches names rest) (λ others done last. reach_ends p world all_allowed _ _ last tt))
    where
      by_fit : (v : Value) (rest : List Value) (b : Bool) → Reaches p world all_allowed Value (λ v. Unit {0}) (cond b (ends v rest) (stops fault.Choice (v ∷ rest)))
      by_fit v rest true = reach_ends p world all_allowed _ v rest tt
      by_fit v rest false = reach_stops p world all_allowed _ fault.Choice (v ∷ rest) refl

      taken : (s : Sort) (choices : List Value) → Reaches p world all_allowed Value (λ v. Unit {0}) (take_choice (shapes p) s choices)
      taken s [] = reach_stops p world all_allowed _ fault.Choice [] refl
      taken s (v ∷ rest) = by_fit v rest (fits (shapes p) v s)

-- each variable has its sort's default
pub defaults_right : (p : Program) → shapes_ok (shapes p) ≡ true → IsValuation (shapes p) (λ h. default_of (shapes p) (variable_sort h))
defaults_right p ok = record {
  variables = λ x s m. default_fits (shapes p) ok s;
  classes = λ c m. default_fits (shapes p) ok (variable_sort (head.ClassVar c m));
  starts = λ x s. default_fits (shapes p) ok s;
}

-- ---- a call

module _ (p : Program) (f : IsFramed p) (world : Meaning) (here : Here) (entry : IsEntry p here.entry) (state : State) (start : IsStart p here.routine state) (k : ℕ) (correct : CorrectBelow p world (suc k))
    (id : RoutineId) (line : ℕ) (given : Arguments) (q : Routine) (found : callee p (routine_in p here.routine) (call id line given) ≡ Some q) (shown_calls : calls_shown p (routine_in p here.routine) (call id line given ∷ []) ≡ true)
    (choices : List Value) (bound : Bound) (ended : (arguments p (Some (level p k)) here q.formals given state choices).end ≡ Ended bound) (n : Supply) (window : View) (is : IsWindow p n window)
    (terms : List Argument) (binds : IsBoundTo p (meaning_in p world) here state q.formals terms window bound) where
  abbrev symbols : Meaning
  symbols = meaning_in p world

  pub there : routine_at p id ≡ Some q
  there = (is_callee p (routine_in p here.routine) id line given q found).there

  pub apart : arguments_apart p (routine_in p here.routine) (call id line given) ≡ true
  apart = left_true (arguments_apart p (routine_in p here.routine) (call id line given)) _ (left_true (arguments_apart p (routine_in p here.routine) (call id line given) && call_shown p (routine_in p here.routine) (call id line given)) true shown_calls)

  pub shown_call : call_shown p (routine_in p here.routine) (call id line given) ≡ true
  shown_call = right_true (arguments_apart p (routine_in p here.routine) (call id line given)) _ (left_true (arguments_apart p (routine_in p here.routine) (call id line given) && call_shown p (routine_in p here.routine) (call id line given)) true shown_calls)

  pub seen : list_all (λ g. sees (routine_in p here.routine) g.item) q.globals ≡ true
  seen = sym (ap (λ o. list_all (λ g. sees (routine_in p here.routine) g.item) (globals_of o)) there) ∙ right_true _ _ shown_call

  -- the state in which the function begins
  abbrev begins : List (Symbol × Binding) → State
  begins own = push id (bound.names ++ own) state

  pub began_right : (own : List (Symbol × Binding)) (rest : List Value) → (choose_all p (result_name q.name q.result ++ q.locals) rest).end ≡ Ended own → IsStart p (Some id) (push id (bound.names ++ own) state)
  began_right own rest chosen =
      subst (λ (s : State). IsStart p (Some id) (push id (bound.names ++ own) s)) binds.state_is (call_begins p f here state start id line given q found apart shown_call (suc k) choices bound ended rest own chosen)

  -- a valuation of what the caller shows
  module _ (v : Valuation) (val : IsValuation (shapes p) v) (shows : Shows (shown p here window state) v) (own : List (Symbol × Binding)) (began : IsStart p (Some id) (push id (bound.names ++ own) state)) where
    entry_true : (a : Annotation) → q.entry ≡ Some a → holds symbols v (substitute (replacing (at_call p q.formals terms)) (entry_term p q a)) ≡ true → met_holds p world (reached_entry p (begun p (Some id) (push id (bound.names ++ own) state)) q (push id (bound.names ++ own) state) a) ≡ true
    entry_true a e known =
        let s = push id (bound.names ++ own) state in
        let uses = subst (λ o. list_all (λ u. use_allowed q.globals u.root u.changes) (annotation_uses (is_formal q) o) ≡ true) e (entry_uses p f id q there) in
        let passes = formula_passes (entry_test p q) (name_in (entry_scope p q)) (is_formal q) q.globals (entry_passes p q) a.formula uses in
        ap truth_of
        (eval-agree symbols (valuation_of (shapes p) (both (entry_view p (Some id) s) (now_view p (Some id) s))) (under symbols (replacing (at_call p q.formals terms)) v) (entry_test p q) (entry_term p q a) passes
        (entry_same p f id q there world here entry state start seen n window is v val shows terms bound.names own binds.names began)
        ∙ sym (eval-substitute symbols (replacing (at_call p q.formals terms)) v (entry_term p q a)))
        ∙ known

  -- where the run of the body ended, with some choices
  pub record Ran (own : List (Symbol × Binding)) (after : State) : Type 0 where
    pub is_start : IsStart p (Some id) after
    pub taken : List Value
    pub ran_to : (run p k (begun p (Some id) (push id (bound.names ++ own) state)) q.body (push id (bound.names ++ own) state) taken).end ≡ Ended after
    pub exit : all_hold p world (met_if_there (reached_exit p (begun p (Some id) (push id (bound.names ++ own) state)) q after) q.exit) ≡ true

  module _ (known : IsTrueFor p world (shown p here window state) (wanted_entry here.routine line (entry_at_call p q terms))) where
    entry_holds : (own : List (Symbol × Binding)) → IsStart p (Some id) (push id (bound.names ++ own) state) → all_hold p world (met_if_there (reached_entry p (begun p (Some id) (push id (bound.names ++ own) state)) q (push id (bound.names ++ own) state)) q.entry) ≡ true
    entry_holds own began = by_entry q.entry refl known
      where
        by_entry : (o : Option Annotation) → q.entry ≡ o → IsTrueFor p world (shown p here window state) (wanted_entry here.routine line (option_map (λ a. substitute (replacing (at_call p q.formals terms)) (entry_term p q a)) o))
            → all_hold p world (met_if_there (reached_entry p (begun p (Some id) (push id (bound.names ++ own) state)) q (push id (bound.names ++ own) state)) o) ≡ true
        by_entry None e known = refl
        by_entry (Some a) e known =
            let view = shown p here window state in
            let v = within view (λ h. default_of (shapes p) (variable_sort h)) in
            let val = laid_over p view (shown_fit p (forms_right p f.typed) world here entry n window is state start) (λ h. default_of (shapes p) (variable_sort h)) (defaults_right p (forms_right p f.typed)) in
            let shows : Shows view v = λ h w e. ap (λ o. unwrap_or o (default_of (shapes p) (variable_sort h))) e in
            both_true (entry_true v val shows own began a e (wanted_holds p world view here.routine kind.Entry line (substitute (replacing (at_call p q.formals terms)) (entry_term p q a)) known v val shows)) refl

    -- the run of the routine from its start
    module _ (own : List (Symbol × Binding)) (began : IsStart p (Some id) (push id (bound.names ++ own) state)) where
      starts : Starts p world (Some id) (push id (bound.names ++ own) state)
      starts = record {
        is_start = began;
        entry = ap (λ o. all_hold p world (routine_entry p (begun p (Some id) (push id (bound.names ++ own) state)) o (push id (bound.names ++ own) state))) there ∙ entry_holds own began;
      }

      right : CorrectWith p world (Some id) k
      right = correct.each (Some id) (ap is_some there) k (omega arith)

      body : (rest : List Value) → Reaches p world all_allowed State (Ran own) (run_body (level p k) (begun p (Some id) (push id (bound.names ++ own) state)) q.body (push id (bound.names ++ own) state) rest)
      body rest =
          let s = push id (bound.names ++ own) state in
          let same : body_of p (Some id) ≡ q.body = ap routine_body there in
          record {
            holds = subst (λ b. all_hold p world (run_body (level p k) (begun p (Some id) s) b s rest).met ≡ true) same (right.reached s starts rest);
            ended = λ after e. record {
              is_start = leaves_start p f (begun p (Some id) s) q.body (ap (λ o. statement_ok p o q.body) there ∙ (routine_right p f.typed id q there).body) s began k rest after e;
              taken = rest;
              ran_to = e;
              exit = sym (ap (λ o. all_hold p world (routine_exit p (begun p (Some id) s) o after)) there) ∙ right.ended s starts rest after (subst (λ b. (run_body (level p k) (begun p (Some id) s) b s rest).end ≡ Ended after) (sym same) e);
            };
            stopped = λ f e. refl;
            jumped = λ label at e. refl;
          }

      routine : (rest : List Value) → Reaches p world all_allowed State (Ran own) (run_routine p (level p k) id q (push id (bound.names ++ own) state) rest)
      routine rest =
          let s = push id (bound.names ++ own) state in
          reach_then p world all_allowed (λ x. x ≡ s) (Ran own) (meets (option_map (reached_entry p (begun p (Some id) s) q s) q.entry) s rest) _
          (reach_meets p world all_allowed (λ x. x ≡ s) (option_map (reached_entry p (begun p (Some id) s) q s) q.entry) s rest (one_holds (reached_entry p (begun p (Some id) s) q s) q.entry (entry_holds own began)) refl)
          (λ x same last. subst (λ (x : State). Reaches p world all_allowed State (Ran own) (and_then (run_body (level p k) (begun p (Some id) s) q.body x last) (λ after end. meets (option_map (reached_exit p (begun p (Some id) s) q after) q.exit) after end))) (sym same)
          (reach_then p world all_allowed (Ran own) (Ran own) (run_body (level p k) (begun p (Some id) s) q.body s last) _ (body last)
          (λ after ran end. reach_meets p world all_allowed (Ran own) (option_map (reached_exit p (begun p (Some id) s) q after) q.exit) after end (one_holds (reached_exit p (begun p (Some id) s) q after) q.exit ran.exit) ran)))
        where
          one_holds : (g : Annotation → Met) (o : Option Annotation) → all_hold p world (met_if_there g o) ≡ true → (m : Met) → option_map g o ≡ Some m → met_holds p world m ≡ true
          one_holds g None all m e = absurd (nothing_there e)
          one_holds g (Some a) all m e = ap (met_holds p world) (sym (some_is e)) ∙ left_true (met_holds p world (g a)) true all

    -- the run of the call, with the names that its frame begins with
    pub record Entered (after : State) : Type 0 where
      pub own : List (Symbol × Binding)
      pub began : IsStart p (Some id) (push id (bound.names ++ own) state)
      pub ran : Ran own after

    pub entered : (rest : List Value) → Reaches p world all_allowed State Entered (enter p (level p k) id (Some q) bound rest)
    entered rest =
        reach_then p world all_allowed _ Entered (choose_all p (result_name q.name q.result ++ q.locals) rest) _
        (reach_with p world _ (choose_all p (result_name q.name q.result ++ q.locals) rest) (chosen_reaches p world (result_name q.name q.result ++ q.locals) rest))
        (λ own chosen last.
        let began = began_right own rest chosen.ended in
        reach_as p world all_allowed (Ran own) Entered (run_routine p (level p k) id q (push id (bound.names ++ own) bound.state) last) (λ after ran. record { own = own; began = began; ran = ran })
        (subst (λ (s : State). Reaches p world all_allowed State (Ran own) (run_routine p (level p k) id q (push id (bound.names ++ own) s) last)) (sym binds.state_is) (routine own began last)))

    -- what a function gives
    module _ (t : TypeId) (result : q.result ≡ Some t) where
      exit_true : (v : Valuation) → IsValuation (shapes p) v → Shows (shown p here window state) v → (own : List (Symbol × Binding)) → (after : State) → IsStart p (Some id) after → after.variables ≡ state.variables → after.heap ≡ state.heap → (y : Head) → is_variable y ≡ true → v y ≡ result_in (Some q) after.frames
          → (a : Annotation) → q.exit ≡ Some a → met_holds p world (reached_exit p (begun p (Some id) (push id (bound.names ++ own) state)) q after a) ≡ true
          → holds symbols v (substitute (replacing (starts_at_call p q.formals terms ++ (initial_at_call p q terms ++ (result_head p q, alone y) ∷ []))) (exit_term p q a)) ≡ true
      exit_true v val shows own after end variables heap y fresh value a e known =
          let s = push id (bound.names ++ own) state in
          let pairs = starts_at_call p q.formals terms ++ (initial_at_call p q terms ++ (result_head p q, alone y) ∷ []) in
          let uses = subst (λ o. list_all (λ u. use_allowed q.globals u.root u.changes) (annotation_uses (named_at_exit q) o) ≡ true) e (exit_uses p f id q there) in
          let passes = formula_passes (exit_test p q) (name_at_exit p q) (named_at_exit q) q.globals (exit_passes p q) a.formula uses in
          ap truth_of
          (eval-substitute symbols (replacing pairs) v (exit_term p q a)
          ∙ sym (eval-agree symbols (valuation_of (shapes p) (both (entry_view p (Some id) s) (now_view p (Some id) after))) (under symbols (replacing pairs) v) (exit_test p q) (exit_term p q a) passes
          (exit_same p f id q there world here entry state start seen n window is v val shows terms bound.names own binds.names t result after end variables heap y fresh value)))
          ∙ known

      result_given : (after : State) → Entered after → IsResult p world here state q n terms window (record { value = result_in (Some q) after.frames; state = pop after })
      result_given after e = record {
        state_is = popped;
        fit = ap (fits (shapes p) (result_in (Some q) after.frames)) (ap (λ o. sort_or_int (sort_of_type p o)) result) ∙ result_fits p f id q there t result after e.ran.is_start;
        promised = λ u is v val shows value. by_exit q.exit refl is v val shows value e.ran.exit;
      }
        where
          popped : pop after ≡ state
          popped = function_alone p f id q there t result (push id (bound.names ++ e.own) state) e.began.right k e.ran.taken after e.ran.ran_to

          by_exit : (o : Option Annotation) → q.exit ≡ o → {u : Term} → option_map (λ a. substitute (replacing (starts_at_call p q.formals terms ++ (initial_at_call p q terms ++ (result_head p q, alone (value_head p q n)) ∷ []))) (exit_term p q a)) o ≡ Some u
              → (v : Valuation) → IsValuation (shapes p) v → Shows (shown p here window state) v → v (value_head p q n) ≡ result_in (Some q) after.frames → all_hold p world (met_if_there (reached_exit p (begun p (Some id) (push id (bound.names ++ e.own) state)) q after) o) ≡ true → holds symbols v u ≡ true
          by_exit None is {u} same v val shows value all = absurd (nothing_there same)
          by_exit (Some a) is {u} same v val shows value all =
              subst (λ (x : Term). holds symbols v x ≡ true) (some_is same)
              (exit_true v val shows e.own after e.ran.is_start (ap (λ (s : State). s.variables) popped) (ap (λ (s : State). s.heap) popped) (value_head p q n) refl value a is (left_true _ true all))

      pub function_gives : (rest : List Value) → Reaches p world all_allowed Got (IsResult p world here state q n terms window) (and_then (enter p (level p k) id (Some q) bound rest) (λ after last. gives (result_in (Some q) after.frames) (pop after) last))
      function_gives rest =
          reach_then p world all_allowed Entered (IsResult p world here state q n terms window) (enter p (level p k) id (Some q) bound rest) _ (entered rest)
          (λ after e last. reach_ends p world all_allowed _ _ last (result_given after e))

-- with one turn less than a number of turns
pub functions_give : (p : Program) → IsFramed p → (world : Meaning) (here : Here) → IsEntry p here.entry → (turns : ℕ) → CorrectBelow p world turns → (state : State) → IsStart p here.routine state → FunctionsGive p world here (below p turns) state
functions_give p f world here entry zero correct state start = record { each = λ level none. absurd (nothing_there none) }
functions_give p f world here entry (suc k) correct state start = record {
  each = λ level is id line given q t found result calls choices bound ended n window fixed terms binds known rest.
      subst (λ (l : Level). Reaches p world all_allowed Got (IsResult p world here state q n terms window) (and_then (enter p l id (Some q) bound rest) (λ after last. gives (result_in (Some q) after.frames) (pop after) last))) (some_is is)
      (function_gives p f world here entry state start k correct id line given q found calls choices bound ended n window fixed terms binds known t result rest);
}
