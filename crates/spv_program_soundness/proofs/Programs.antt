-- True conditions make a program correct.
use Rattle.std.proofs.Common.{◌≡◌, ◌<◌, ◌+◌, ℕ, zero, suc, nat_lt, arith, Bool, true, false, List, [], ◌∷◌, ◌++◌, refl, sym, ap, subst, ◌∙◌, Option, Some, None, option_map, is_some}
use Rattle.std.specs.List.{list_all}
use Rattle.std.specs.Cmp.Derive.{both_true}
use Rattle.std.proofs.lemmas.Bool.{false≢true}
use Rattle.std.proofs.lemmas.Bool.Decides.{nat_tests}
use Rattle.spv_logic.proofs.list.Tests.{left_true, right_true}
use Rattle.spv_logic.specs.declared.names.names.Symbol.{Symbol}
use Rattle.spv_logic.specs.declared.conditions.Kind.TheVariants as kind
use Rattle.spv_logic.specs.declared.conditions.RoutineId.{RoutineId}
use Rattle.spv_logic.specs.Values.{Value}
use Rattle.spv_logic.specs.Conditions.{Meaning, Valuation, IsValuation, Condition}
use Rattle.spv_program.specs.Lists.{item_at}
use Rattle.spv_program.specs.Formulas.{Annotation}
use Rattle.spv_program.specs.Programs.{Routine, Program, shapes, routine_at}
use Rattle.spv_program.specs.Scopes.{body_scope, is_value_parameter}
use Rattle.spv_program.specs.FormulaTypes.{annotation_ok}
use Rattle.spv_program.specs.Supplies.{Supply, full_supply}
use Rattle.spv_program.specs.Terms.{body_term, start_or_name, name_at_exit, entry_term, exit_term}
use Rattle.spv_program.specs.Typing.{declarations_ok, routine_ok}
use Rattle.spv_program.proofs.SortFacts.{nothing_there, some_is}
use Rattle.spv_meaning.specs.Places.{State}
use Rattle.spv_meaning.specs.Views.{entry_view}
use Rattle.spv_meaning.specs.Outcomes.{Ended}
use Rattle.spv_meaning.specs.Levels.{run_body, reached_in_body, reached_entry, reached_exit}
use Rattle.spv_meaning.specs.Walks.{level, run}
use Rattle.spv_meaning.specs.Starts.{IsStart}
use Rattle.spv_meaning.specs.Correct.{all_hold, met_holds, routine_body, begun, met_if_there, routine_entry, routine_exit, Starts, CorrectWith, CorrectBelow, is_there, Correct}
use Rattle.spv_meaning.specs.Before.{before, replaced, assuming_if_there, annotation_term, wanted_if_there}
use Rattle.spv_meaning.specs.ProgramConditions.{initial_pairs, start_pairs, wanted_exit, routine_conditions, main_conditions, conditions_from, conditions_of, AllTrueIn}
use Rattle.spv_meaning.proofs.AssignedPrograms.{same_truth}
use Rattle.spv_rule_soundness.specs.statements.Truth.{IsWindow, IsEntry, meaning_in, all_follow, shown, IsTrueFor, Ignores, TermIgnores}
use Rattle.spv_rule_soundness.specs.statements.Runs.{all_allowed, Reaches, may_change, EndsWell}
use Rattle.spv_rule_soundness.specs.statements.Parts.{parts_pass}
use Rattle.spv_rule_soundness.proofs.evaluation.Settings.{forms_right}
use Rattle.spv_rule_soundness.proofs.statements.Annotations.{is_old, formula_old, old_ignores, annotation_ignores, wanted_ignores, wanted_there_ignores}
use Rattle.spv_rule_soundness.proofs.statements.Induction.{right_level}
use Rattle.spv_rule_soundness.proofs.statements.Lists.{follow-replaced}
use Rattle.spv_rule_soundness.proofs.statements.Reaching.{true_assumed, wanted_holds, formula_holds}
use Rattle.spv_rule_soundness.proofs.statements.Views.{in_first}
use Rattle.spv_frame_law.specs.Laws.{IsFramed}
use Rattle.spv_program_soundness.proofs.Passing.{body_parts}
use Rattle.spv_program_soundness.proofs.Entries.{no_window, main_is_entry, routine_is_entry, stand_there, entry_true}
use Rattle.spv_program_soundness.proofs.Bodies.{body_passes, parts_right}

-- ---- the conditions of a program

module _ (p : Program) (world : Meaning) where
  -- true conditions follow under each valuation
  all_true : (conditions : List Condition) → AllTrueIn (shapes p) p.symbols world conditions → (v : Valuation) → IsValuation (shapes p) v → all_follow (meaning_in p world) v conditions ≡ true
  all_true [] h v val = refl
  all_true (c ∷ conditions) h v val = both_true (h.0 v val) (all_true conditions h.1 v val)

  true_front : (xs ys : List Condition) → AllTrueIn (shapes p) p.symbols world (xs ++ ys) → AllTrueIn (shapes p) p.symbols world xs
  true_front [] ys h = tt
  true_front (c ∷ xs) ys h = (h.0, true_front xs ys h.1)

  true_behind : (xs ys : List Condition) → AllTrueIn (shapes p) p.symbols world (xs ++ ys) → AllTrueIn (shapes p) p.symbols world ys
  true_behind [] ys h = h
  true_behind (c ∷ xs) ys h = true_behind xs ys h.1

  -- those of a routine, and of the main block, begin with some supply
  record RoutineTrue (id : RoutineId) (q : Routine) : Type 0 where
    supply : Supply
    is : AllTrueIn (shapes p) p.symbols world (routine_conditions p id q supply).conditions

  record MainTrue : Type 0 where
    supply : Supply
    is : AllTrueIn (shapes p) p.symbols world (main_conditions p supply)

  routine_true : (number : ℕ) (routines : List Routine) (n : Supply) → AllTrueIn (shapes p) p.symbols world (conditions_from p number routines n) → (k : ℕ) (q : Routine) → item_at routines k ≡ Some q → RoutineTrue (record { 0 = number + k }) q
  routine_true number [] n h k q e = absurd (nothing_there e)
  routine_true number (r ∷ routines) n h zero q e =
      let made = routine_conditions p (record { 0 = number }) r n in
      let same : number ≡ number + 0 = omega arith in
      subst (λ m. RoutineTrue (record { 0 = m }) q) same
      (subst (λ (r : Routine). RoutineTrue (record { 0 = number }) r) (some_is e) (record { supply = n; is = true_front made.conditions (conditions_from p (suc number) routines made.supply) h }))
  routine_true number (r ∷ routines) n h (suc k) q e =
      let made = routine_conditions p (record { 0 = number }) r n in
      let same : suc number + k ≡ number + suc k = omega arith in
      subst (λ m. RoutineTrue (record { 0 = m }) q) same (routine_true (suc number) routines made.supply (true_behind made.conditions (conditions_from p (suc number) routines made.supply) h) k q e)

  main_true : (number : ℕ) (routines : List Routine) (n : Supply) → AllTrueIn (shapes p) p.symbols world (conditions_from p number routines n) → MainTrue
  main_true number [] n h = record { supply = n; is = h }
  main_true number (r ∷ routines) n h =
      let made = routine_conditions p (record { 0 = number }) r n in
      main_true (suc number) routines made.supply (true_behind made.conditions (conditions_from p (suc number) routines made.supply) h)

-- ---- no fixed fresh variables

window_empty : (p : Program) (n : Supply) → IsWindow p n no_window
window_empty p n = record {
  fit = λ h w e. absurd (nothing_there e);
  taken = λ h w e. absurd (nothing_there e);
  fresh = λ h w e. absurd (nothing_there e);
}

-- ---- EXIT of a routine

module _ (p : Program) (world : Meaning) (q : Routine) where
  exit_old : (x : Symbol) → is_old (name_at_exit p q x) ≡ true
  exit_old x = by_kind (is_value_parameter q x) _
    where
      by_kind : (b : Bool) (s : _) → is_old (start_or_name b x s) ≡ true
      by_kind true s = refl
      by_kind false s = refl

  exit_ignores : (n : Supply) (a : Annotation) → TermIgnores p world n (exit_term p q a)
  exit_ignores n a = old_ignores p world n (exit_term p q a) (formula_old (name_at_exit p q) exit_old a.formula)

  wanted_exit_ignores : (n : Supply) (id : RoutineId) (o : Option Annotation) → Ignores p world n (wanted_exit p id q o)
  wanted_exit_ignores n id None = record { alike = λ v w same. refl }
  wanted_exit_ignores n id (Some a) = wanted_ignores p world n (Some id) kind.Exit a.line (exit_term p q a) (exit_ignores n a)

module _ (p : Program) (f : IsFramed p) (world : Meaning) (turns : ℕ) (correct : CorrectBelow p world turns) where
  -- ---- a routine

  module _ (id : RoutineId) (q : Routine) (there : routine_at p id ≡ Some q) (truth : RoutineTrue p world id q) where
    body_there : parts_pass (body_parts p (routine_at p id)) q.body ≡ true
    body_there = subst (λ (o : Option Routine). parts_pass (body_parts p (routine_at p id)) (routine_body o) ≡ true) there (body_passes p f (Some id) (ap is_some there))

    module _ (state : State) (starts : Starts p world (Some id) state) where
      routine_entered : IsEntry p (entry_view p (Some id) state)
      routine_entered = routine_is_entry p f id q there state starts.is_start

      -- the list before the body, where the routine begins
      begins : IsTrueFor p world (shown p (begun p (Some id) state) no_window state) (before p (Some id) q.body (record { conditions = wanted_exit p id q q.exit; supply = truth.supply })).conditions
      begins =
          let conditions = (before p (Some id) q.body (record { conditions = wanted_exit p id q q.exit; supply = truth.supply })).conditions in
          by_entry conditions q.entry refl (subst (λ (o : Option Routine). all_hold p world (routine_entry p (begun p (Some id) state) o state) ≡ true) there starts.entry)
          (λ v val shows.
          let under_it = assuming_if_there (option_map (entry_term p q) q.entry) conditions in
          let pairs = initial_pairs p q ++ start_pairs p q in
          subst (λ (w : Valuation). all_follow (meaning_in p world) w under_it ≡ true) (λ i h. stand_there p f id q there state starts.is_start world v shows h i)
          (sym (follow-replaced (meaning_in p world) v pairs under_it) ∙ all_true p world (replaced pairs under_it) truth.is v val))
        where
          by_entry : (conditions : List Condition) (o : Option Annotation) → q.entry ≡ o → all_hold p world (met_if_there (reached_entry p (begun p (Some id) state) q state) o) ≡ true
              → IsTrueFor p world (shown p (begun p (Some id) state) no_window state) (assuming_if_there (option_map (entry_term p q) o) conditions) → IsTrueFor p world (shown p (begun p (Some id) state) no_window state) conditions
          by_entry conditions None e met is = is
          by_entry conditions (Some a) e met is =
              true_assumed p world (shown p (begun p (Some id) state) no_window state) (entry_term p q a) conditions
              (λ v val shows. entry_true p f id q there state starts.is_start world v shows a e (left_true (met_holds p world (reached_entry p (begun p (Some id) state) q state a)) true met)) is

      routine_runs : (choices : List Value) → Reaches p world all_allowed State (EndsWell p world (begun p (Some id) state) no_window (may_change p (begun p (Some id) state) q.body) (wanted_exit p id q q.exit) state) (run p turns (begun p (Some id) state) q.body state choices)
      routine_runs choices =
          (right_level p world all_allowed (forms_right p f.typed) (begun p (Some id) state) routine_entered (body_parts p (routine_at p id)) (parts_right p f world (begun p (Some id) state) routine_entered) turns correct).statements q.body body_there
          (record { conditions = wanted_exit p id q q.exit; supply = truth.supply }) (wanted_exit_ignores p world q truth.supply id q.exit) no_window (window_empty p truth.supply) state starts.is_start begins choices

      -- EXIT holds where it is true
      exit_met : (after : State) → IsStart p (Some id) after → (o : Option Annotation) → IsTrueFor p world (shown p (begun p (Some id) state) no_window after) (wanted_exit p id q o) → all_hold p world (met_if_there (reached_exit p (begun p (Some id) state) q after) o) ≡ true
      exit_met after start None is = refl
      exit_met after start (Some a) is =
          both_true
          (formula_holds p world (forms_right p f.typed) (begun p (Some id) state) routine_entered truth.supply no_window (window_empty p truth.supply) after start (exit_term p q a) (exit_ignores p world q full_supply a)
          (wanted_holds p world (shown p (begun p (Some id) state) no_window after) (Some id) kind.Exit a.line (exit_term p q a) is))
          refl

    routine_correct : CorrectWith p world (Some id) turns
    routine_correct = record {
      reached = λ state starts choices. subst (λ (o : Option Routine). all_hold p world (run_body (level p turns) (begun p (Some id) state) (routine_body o) state choices).met ≡ true) (sym there) (routine_runs state starts choices).holds;
      ended = λ state starts choices after e.
          let last = (routine_runs state starts choices).ended after (subst (λ (o : Option Routine). (run_body (level p turns) (begun p (Some id) state) (routine_body o) state choices).end ≡ Ended after) there e) in
          subst (λ (o : Option Routine). all_hold p world (routine_exit p (begun p (Some id) state) o after) ≡ true) (sym there) (exit_met state starts after last.is_start q.exit last.true_there);
    }

  -- ---- the main block

  module _ (truth : MainTrue p world) where
    main_entry_ok : annotation_ok p (body_scope p None) p.main.entry ≡ true
    main_entry_ok = left_true (annotation_ok p (body_scope p None) p.main.entry) _ (right_true (list_all (routine_ok p) p.routines) _ (right_true (declarations_ok p) _ f.typed))

    module _ (state : State) (starts : Starts p world None state) where
      main_begins : IsTrueFor p world (shown p (begun p None state) no_window state) (before p None p.main.body (record { conditions = wanted_if_there p None kind.Exit p.main.exit; supply = truth.supply })).conditions
      main_begins =
          let conditions = (before p None p.main.body (record { conditions = wanted_if_there p None kind.Exit p.main.exit; supply = truth.supply })).conditions in
          by_entry conditions p.main.entry main_entry_ok starts.entry (λ v val shows. all_true p world (assuming_if_there (annotation_term p None p.main.entry) conditions) truth.is v val)
        where
          by_entry : (conditions : List Condition) (o : Option Annotation) → annotation_ok p (body_scope p None) o ≡ true → all_hold p world (met_if_there (reached_in_body p (begun p None state) kind.Entry state) o) ≡ true
              → IsTrueFor p world (shown p (begun p None state) no_window state) (assuming_if_there (annotation_term p None o) conditions) → IsTrueFor p world (shown p (begun p None state) no_window state) conditions
          by_entry conditions None ok met is = is
          by_entry conditions (Some a) ok met is =
              true_assumed p world (shown p (begun p None state) no_window state) (body_term p None a) conditions
              (λ v val shows.
              same_truth p world state state starts.is_start v (λ h w e. shows h w (in_first _ None w (in_first _ (entry_view p None state h) w e))) a ok
              ∙ left_true (met_holds p world (reached_in_body p (begun p None state) kind.Entry state a)) true met) is

      main_runs : (choices : List Value) → Reaches p world all_allowed State (EndsWell p world (begun p None state) no_window (may_change p (begun p None state) p.main.body) (wanted_if_there p None kind.Exit p.main.exit) state) (run p turns (begun p None state) p.main.body state choices)
      main_runs choices =
          (right_level p world all_allowed (forms_right p f.typed) (begun p None state) (main_is_entry p state) (body_parts p None) (parts_right p f world (begun p None state) (main_is_entry p state)) turns correct).statements p.main.body (body_passes p f None refl)
          (record { conditions = wanted_if_there p None kind.Exit p.main.exit; supply = truth.supply }) (wanted_there_ignores p world truth.supply None kind.Exit p.main.exit) no_window (window_empty p truth.supply) state starts.is_start main_begins choices

      main_exit_met : (after : State) → IsStart p None after → (o : Option Annotation) → IsTrueFor p world (shown p (begun p None state) no_window after) (wanted_if_there p None kind.Exit o) → all_hold p world (met_if_there (reached_in_body p (begun p None state) kind.Exit after) o) ≡ true
      main_exit_met after start None is = refl
      main_exit_met after start (Some a) is =
          both_true
          (formula_holds p world (forms_right p f.typed) (begun p None state) (main_is_entry p state) truth.supply no_window (window_empty p truth.supply) after start (body_term p None a) (annotation_ignores p world full_supply None a)
          (wanted_holds p world (shown p (begun p None state) no_window after) None kind.Exit a.line (body_term p None a) is))
          refl

    main_correct : CorrectWith p world None turns
    main_correct = record {
      reached = λ state starts choices. (main_runs state starts choices).holds;
      ended = λ state starts choices after e.
          let last = (main_runs state starts choices).ended after e in
          main_exit_met state starts after last.is_start p.main.exit last.true_there;
    }

-- ---- with any number of turns

-- what is correct with fewer turns than a number and with that number is so with fewer than the next one
one_more : (p : Program) (world : Meaning) (n : ℕ) → CorrectBelow p world n → ((here : Option RoutineId) → is_there p here ≡ true → CorrectWith p world here n) → CorrectBelow p world (suc n)
one_more p world n fewer now = record { each = λ here there turns less. by_case here there turns less (nat_lt turns n) refl }
  where
    by_case : (here : Option RoutineId) → is_there p here ≡ true → (turns : ℕ) → turns < suc n → (b : Bool) → nat_lt turns n ≡ b → CorrectWith p world here turns
    by_case here there turns less true e = let below : turns < n = grind (arith, nat_tests) in fewer.each here there turns below
    by_case here there turns less false e = let same : n ≡ turns = grind (arith, nat_tests) in subst (CorrectWith p world here) same (now here there)

module _ (p : Program) (f : IsFramed p) (world : Meaning) (h : AllTrueIn (shapes p) p.symbols world (conditions_of p)) where
  with_turns : (turns : ℕ) → CorrectBelow p world turns → (here : Option RoutineId) → is_there p here ≡ true → CorrectWith p world here turns
  with_turns turns correct None there = main_correct p f world turns correct (main_true p world 0 p.routines full_supply h)
  with_turns turns correct (Some id) there = by_routine (routine_at p id) refl there
    where
      plain : 0 + id.0 ≡ id.0
      plain = omega arith

      by_routine : (o : Option Routine) → routine_at p id ≡ o → is_some o ≡ true → CorrectWith p world (Some id) turns
      by_routine None e none = absurd (false≢true none)
      by_routine (Some q) e some =
          routine_correct p f world turns correct id q e (subst (λ m. RoutineTrue p world (record { 0 = m }) q) plain (routine_true p world 0 p.routines full_supply h id.0 q e))

  below_turns : (turns : ℕ) → CorrectBelow p world turns
  below_turns zero = record { each = λ here there turns less. let none : ⊥ = omega (arith, less) in absurd none }
  below_turns (suc n) = let fewer = below_turns n in one_more p world n fewer (with_turns n fewer)

  -- true conditions make the program correct
  pub program_correct : Correct p world
  program_correct = record { each = λ here there turns. with_turns turns (below_turns turns) here there }
