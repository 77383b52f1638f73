-- The parts of a main block without calls are right.
use Rattle.std.proofs.Common.{◌≡◌, ℕ, Bool, true, false, cond, not, ◌&&◌, List, [], ◌∷◌, ◌++◌, flat_map, ℤ, refl, sym, ap, subst, ◌∙◌, Option, Some, None, option_map, is_some}
use Rattle.std.specs.List.{list_any}
use Rattle.std.specs.Option.{unwrap_or}
use Rattle.std.specs.Cmp.Derive.{both_true}
use Rattle.std.proofs.lemmas.Bool.{false≢true, eq-eqb}
use Rattle.spv_logic.proofs.list.Tests.{left_true, right_true}
use Rattle.spv_logic.specs.declared.names.names.Symbol.{Symbol}
use Rattle.spv_logic.specs.declared.types.Sort.{Sort}
use Rattle.spv_logic.specs.declared.types.Sort.TheVariants as sort
use Rattle.spv_logic.specs.declared.operators.Head.{Head}
use Rattle.spv_logic.specs.declared.operators.Head.TheVariants as head
use Rattle.spv_logic.specs.Values.{Value, Number, number_of}
use Rattle.spv_logic.specs.Terms.{Term, head_eq, eval}
use Rattle.spv_logic.specs.Fits.{fits}
use Rattle.spv_logic.specs.Substitution.{value_under, under}
use Rattle.spv_logic.specs.Conditions.{Meaning, Valuation, View, IsValuation, Shows, both}
use Rattle.spv_logic.proofs.Equality.{head_eq-true}
use Rattle.spv_logic.proofs.Sorting.{eval-fits}
use Rattle.spv_program.specs.declared.types.Item.TheVariants.{Variable}
use Rattle.spv_program.specs.Lists.{found}
use Rattle.spv_program.specs.Types.{sort_of, takes_value}
use Rattle.spv_program.specs.Expressions.{Expression, designator, no_selectors, at_index, at_field, at_cell}
use Rattle.spv_program.specs.Formulas.{Annotation}
use Rattle.spv_program.specs.Statements.{Counting, Statement, Assign, For}
use Rattle.spv_program.specs.Programs.{Program, shapes}
use Rattle.spv_program.specs.Scopes.{is_own, name_type}
use Rattle.spv_program.specs.Uses.{Root, Own, Shared, Use, same_root, name_root, expression_calls, expression_uses, annotation_uses, statement_uses, statement_calls}
use Rattle.spv_program.specs.Changes.{changed_by_call, changed_roots, changed_heads}
use Rattle.spv_program.specs.FormulaTypes.{is_sort}
use Rattle.spv_program.specs.ExpressionTypes.{sort_of_type, may_write, designator_type, expression_sort}
use Rattle.spv_program.specs.Typing.{statement_ok, counting_ok, well_typed}
use Rattle.spv_program.specs.Supplies.{Supply}
use Rattle.spv_program.specs.Terms.{item_head}
use Rattle.spv_program.specs.Calls.{replacing}
use Rattle.spv_program.specs.ExpressionTerms.{valued}
use Rattle.spv_program.proofs.SortFacts.{nothing_there, is_sort-true}
use Rattle.spv_program.proofs.ExpressionSorting.{value_sorted}
use Rattle.spv_meaning.specs.declared.faults.Fault.{Fault}
use Rattle.spv_meaning.specs.declared.faults.Fault.TheVariants as fault
use Rattle.spv_meaning.specs.Places.{State, put}
use Rattle.spv_meaning.specs.Views.{now_view, entry_view}
use Rattle.spv_meaning.specs.Outcomes.{Ended, Stopped, Outcome, ends, and_then}
use Rattle.spv_meaning.specs.Levels.{Level}
use Rattle.spv_meaning.specs.Evaluation.{Got, Fixed, evaluate}
use Rattle.spv_meaning.specs.Walks.{walk, assign}
use Rattle.spv_meaning.specs.Starts.{IsStart}
use Rattle.spv_meaning.specs.Correct.{valuation_of}
use Rattle.spv_meaning.specs.Before.{Made, before_calls, replaced}
use Rattle.spv_meaning.proofs.MainViews.{variable, some_of, head_is, start_after, view-same, view-other}
use Rattle.spv_meaning.proofs.Assigning.{in_main, Declared, declared_as, head_of}
use Rattle.spv_meaning.proofs.AssignedPrograms.{same_sorts, state_valuation, state_shows}
use Rattle.spv_rule_soundness.specs.evaluation.Quiet.{Quiet, Stops, Gives}
use Rattle.spv_rule_soundness.specs.evaluation.Laws.{Shown, root_seen, uses_seen}
use Rattle.spv_rule_soundness.proofs.evaluation.Settings.{forms_right, setting}
use Rattle.spv_rule_soundness.proofs.evaluation.Values.{evaluated}
use Rattle.spv_rule_soundness.specs.statements.Truth.{IsLater, IsWindow, IsEntry, meaning_in, shown, IsTrueFor, Ignores}
use Rattle.spv_rule_soundness.specs.statements.Runs.{all_allowed, Reaches, may_change, EndsWell, IsRight, IsSupplied, GivesWell, IsRightTest, IsSuppliedTest}
use Rattle.spv_rule_soundness.specs.statements.Parts.{Passing}
use Rattle.spv_rule_soundness.specs.statements.Laws.{below, Counts, PartsAreRight}
use Rattle.spv_rule_soundness.proofs.statements.Lists.{follow-replaced}
use Rattle.spv_rule_soundness.proofs.statements.Views.{in_first, within}
use Rattle.spv_rule_soundness.proofs.statements.States.{at_state-valuation, at_state-shows, same_shown}
use Rattle.spv_rule_soundness.proofs.statements.Annotations.{old_ignores, replaced_ignores, one_pair}
use Rattle.spv_rule_soundness.proofs.statements.Reaching.{reach_ends, reach_stops, reach_unless}
use Rattle.spv_rule_soundness.proofs.statements.Loops.{number_fits}
use Rattle.spv_rule_soundness.specs.control.Blocks.{calls_nothing}
use Rattle.spv_rule_soundness.proofs.control.Plain.{nothing_called, plain}
use Rattle.spv_rule_soundness.proofs.control.Changes.{is_kept, is_not_kept, is_written}

-- ---- which parts

abbrev pub leaf_ok : Program → Statement → Bool
leaf_ok p (Assign (designator line x no_selectors) e) = calls_nothing e && statement_ok p None (Assign (designator line x no_selectors) e)
leaf_ok p _ = false

-- assignments of call-free expressions to whole variables, call-free expressions that have a sort, and FORs that are well typed
abbrev pub main_parts : Program → Passing
main_parts p = record {
  leaf = leaf_ok p;
  test = λ e. calls_nothing e && is_some (expression_sort p None e);
  number = λ e. is_sort sort.Int (expression_sort p None e);
  count = λ count s. counting_ok p None count s;
}

-- ---- the main block sees everything

root_ok : (r : Root) → root_seen None r ≡ true
root_ok (Own x) = refl
root_ok (Shared i) = refl

all_seen : (uses : List Use) → uses_seen None uses ≡ true
all_seen [] = refl
all_seen (u ∷ uses) = both_true (root_ok u.root) (all_seen uses)

-- ---- outcomes

not_both : {A : Type 0} (f : Fault) (x : A) → Ended x ≡ Stopped f → ⊥
not_both f x e = cc

same_end : {A : Type 0} {x y : A} → Ended x ≡ Ended y → x ≡ y
same_end {A} {x} {y} e = cc

-- an evaluation that gave something gives nothing else
gives_worth : (o : Outcome Got) (got : Got) (x : Value) (state : State) (choices : List Value) → o ≡ ends got choices → Quiet Got (λ g. g ≡ record { value = x; state = state }) choices o → x ≡ got.value
gives_worth o got x state choices e (Stops f other) = absurd (not_both f got (ap (λ r. r.end) (sym e ∙ other)))
gives_worth o got x state choices e (Gives y other is) =
    let same : got ≡ y = same_end (ap (λ r. r.end) (sym e ∙ other)) in
    sym (ap (λ g. g.value) (same ∙ is))

pub record SomeSort (o : Option Sort) : Type 0 where
  pub sort : Sort
  pub is : o ≡ Some sort

sort_there : (o : Option Sort) → is_some o ≡ true → SomeSort o
sort_there None h = absurd (false≢true h)
sort_there (Some s) h = record { sort = s; is = refl }

-- ---- the parts of a program

module _ (p : Program) (typed : well_typed p ≡ true) (world : Meaning) (entry : View) (nothing : (h : Head) → entry h ≡ None) where
  pub main_entry : IsEntry p entry
  main_entry = record {
    fit = λ h w e. absurd (nothing_there (sym (nothing h) ∙ e));
    old = λ h w e. absurd (nothing_there (sym (nothing h) ∙ e));
  }

  now_shows : (window : View) (state : State) (v : Valuation) → Shows (shown p (in_main entry) window state) v → Shows (now_view p None state) v
  now_shows window state v shows h w e = shows h w (in_first _ (window h) w (in_first _ (entry h) w e))

  shown_by : (window : View) (state : State) → IsStart p None state → (v : Valuation) → IsValuation (shapes p) v → Shows (shown p (in_main entry) window state) v → Shown p (in_main entry) state v
  shown_by window state start v val shows = record { valuation = val; start = start; shows = now_shows window state v shows }

  -- a valuation that shows the state
  at : State → Valuation
  at state = valuation_of (shapes p) (both (entry_view p None state) (now_view p None state))

  shown_at : (state : State) → IsStart p None state → Shown p (in_main entry) state (valuation_of (shapes p) (both (entry_view p None state) (now_view p None state)))
  shown_at state start = record { valuation = state_valuation p (forms_right p typed) state state start; start = start; shows = state_shows p state state }

  quiet : (e : Expression) (s : Sort) → expression_sort p None e ≡ Some s → expression_calls e ≡ [] → (state : State) (v : Valuation) → Shown p (in_main entry) state v → (level : Option Level) (n : Supply) (choices : List Value) → Quiet Got (λ got. got ≡ record { value = eval (meaning_in p world) v (valued p None n e).term; state = state }) choices (evaluate p level (in_main entry) e state choices)
  quiet e s is calls state v all level n choices =
      evaluated p (meaning_in p world) v (in_main entry) state (setting p typed world v (in_main entry) state all) e s is calls (all_seen (expression_uses (is_own None) e)) level n choices

  -- ---- tests

  module _ (e : Expression) (s : Sort) (sorted : expression_sort p None e ≡ Some s) (calls : expression_calls e ≡ []) where
    test_right : (level : Option Level) → IsRightTest p world all_allowed (in_main entry) level e
    test_right level n window is wanted state start true_there choices =
        by_quiet (quiet e s sorted calls state _ (shown_at state start) level n choices)
      where
        by_quiet : Quiet Got (λ got. got ≡ record { value = eval (meaning_in p world) (valuation_of (shapes p) (both (entry_view p None state) (now_view p None state))) (valued p None n e).term; state = state }) choices (evaluate p level (in_main entry) e state choices) → Reaches p world all_allowed Got (GivesWell p world (in_main entry) e n window wanted state) (evaluate p level (in_main entry) e state choices)
        by_quiet (Stops f o) = subst (λ r. Reaches p world all_allowed Got (GivesWell p world (in_main entry) e n window wanted state) r) (sym o) (reach_stops p world all_allowed (GivesWell p world (in_main entry) e n window wanted state) f choices refl)
        by_quiet (Gives got o is_got) =
            subst (λ r. Reaches p world all_allowed Got (GivesWell p world (in_main entry) e n window wanted state) r) (sym o)
            (reach_ends p world all_allowed (GivesWell p world (in_main entry) e n window wanted state) got choices (record {
              state_is = ap (λ g. g.state) is_got;
              wider = window;
              is_window = subst (λ m. IsWindow p m window) (sym (plain p None e calls n).supply) is;
              keeps = λ h w e. e;
              adds = λ h old. refl;
              worth = λ v val shows. gives_worth (evaluate p level (in_main entry) e state choices) got (eval (meaning_in p world) v (valued p None n e).term) state choices o (quiet e s sorted calls state v (shown_by window state start v val shows) level n choices);
              true_there = subst (λ c. IsTrueFor p world (shown p (in_main entry) window state) (before_calls None c wanted)) (plain p None e calls n).calls true_there;
            }))

    test_supplied : (n : Supply) → IsSuppliedTest p world (in_main entry) e n
    test_supplied n = record {
      later = subst (λ m. IsLater n m) (sym (plain p None e calls n).supply) (λ h new. new);
      term = old_ignores p world (valued p None n e).supply (valued p None n e).term (plain p None e calls n).old;
      calls = λ m later wanted ignores. subst (λ c. Ignores p world m (before_calls None c wanted)) (sym (plain p None e calls n).calls) ignores;
    }

  number_worth : (e : Expression) → is_sort sort.Int (expression_sort p None e) ≡ true → (n : Supply) (v : Valuation) → IsValuation (shapes p) v → eval (meaning_in p world) v (valued p None n e).term ≡ Number (number_of (eval (meaning_in p world) v (valued p None n e).term))
  number_worth e is n v val =
      number_fits p (eval (meaning_in p world) v (valued p None n e).term)
      (eval-fits (shapes p) (forms_right p typed) p.symbols world v val (valued p None n e).term sort.Int (value_sorted p None n e sort.Int (is_sort-true sort.Int (expression_sort p None e) is)))

  -- ---- assignments

  module _ (line : ℕ) (x : Symbol) (e : Expression) (s : Sort) (declared : Declared p x s) (sorted : expression_sort p None e ≡ Some s) (calls : expression_calls e ≡ []) where
    assigned_there : list_any (same_root (Shared (Variable x))) (changed_roots p None (Assign (designator line x no_selectors) e)) ≡ true
    assigned_there = is_written (Shared (Variable x)) line [] (expression_uses (is_own None) e) (flat_map (changed_by_call p) (statement_calls (Assign (designator line x no_selectors) e))) (eq-eqb x.0 x.0 refl)

    module _ (q : Made) (ignores : Ignores p world q.supply q.conditions) (window : View) (is : IsWindow p q.supply window) (state : State) (start : IsStart p None state) (level : Option Level) (choices : List Value) (got : Got) (gave : evaluate p level (in_main entry) e state choices ≡ ends got choices) where
      term : Term
      term = (valued p None q.supply e).term

      worth_there : (v : Valuation) → Shown p (in_main entry) state v → eval (meaning_in p world) v (valued p None q.supply e).term ≡ got.value
      worth_there v all = gives_worth (evaluate p level (in_main entry) e state choices) got (eval (meaning_in p world) v (valued p None q.supply e).term) state choices gave (quiet e s sorted calls state v all level q.supply choices)

      fits_there : fits (shapes p) got.value (sort_of p.forms declared.type) ≡ true
      fits_there =
          ap (fits (shapes p) got.value) declared.sort_is
          ∙ (ap (λ u. fits (shapes p) u s) (sym (worth_there _ (shown_at state start)))
          ∙ eval-fits (shapes p) (forms_right p typed) p.symbols world _ (shown_at state start).valuation (valued p None q.supply e).term s (value_sorted p None q.supply e s sorted))

      true_after : IsTrueFor p world (shown p (in_main entry) window state) (replaced ((head_of p x, (valued p None q.supply e).term) ∷ []) q.conditions) → IsTrueFor p world (shown p (in_main entry) window (put state (variable x) got.value)) q.conditions
      true_after holds_before v val shows =
          let u = within (shown p (in_main entry) window state) v in
          let u_val = at_state-valuation p (forms_right p typed) world (in_main entry) main_entry q.supply window is state start v val in
          let u_shows = at_state-shows p (forms_right p typed) world (in_main entry) main_entry q.supply window is state v in
          let pairs = (head_of p x, (valued p None q.supply e).term) ∷ [] in
          ignores.alike v (under (meaning_in p world) (replacing pairs) u) (λ k variable old. sym (by_head (shown_by window state start u u_val u_shows) k (head_eq k (head_of p x)) refl))
          ∙ (sym (follow-replaced (meaning_in p world) u pairs q.conditions) ∙ holds_before u u_val u_shows)
        where
          by_head : Shown p (in_main entry) state (within (shown p (in_main entry) window state) v) → (k : Head) (b : Bool) → head_eq k (head_of p x) ≡ b → value_under (meaning_in p world) (within (shown p (in_main entry) window state) v) (cond b (Some (valued p None q.supply e).term) None) (within (shown p (in_main entry) window state) v k) ≡ v k
          by_head all k true is_head =
              let at_head : k ≡ head.Var x (sort_of p.forms declared.type) 0 = head_eq-true k (head_of p x) is_head ∙ head_is p x declared.type declared.is in
              worth_there (within (shown p (in_main entry) window state) v) all
              ∙ sym (ap v at_head ∙ now_shows window (put state (variable x) got.value) v shows (head.Var x (sort_of p.forms declared.type) 0) got.value (view-same p state start x got.value declared.type declared.is))
          by_head all k false is_head =
              same_shown p (forms_right p typed) world (in_main entry) main_entry q.supply window is state (put state (variable x) got.value) v k
              (view-other p state x got.value declared.type declared.is k (ap (head_eq k) (sym (head_is p x declared.type declared.is)) ∙ is_head)) shows

      same_after : (h : Head) → may_change p (in_main entry) (Assign (designator line x no_selectors) e) h ≡ false → now_view p None (put state (variable x) got.value) h ≡ now_view p None state h
      same_after h leaves = by_head (head_eq h (head.Var x (sort_of p.forms declared.type) 0)) refl
        where
          by_head : (b : Bool) → head_eq h (head.Var x (sort_of p.forms declared.type) 0) ≡ b → now_view p None (put state (variable x) got.value) h ≡ now_view p None state h
          by_head false other = view-other p state x got.value declared.type declared.is h other
          by_head true same =
              absurd (false≢true (sym leaves ∙ (ap (λ k. list_any (head_eq k) (changed_heads p None (Assign (designator line x no_selectors) e))) (head_eq-true h _ same)
              ∙ is_kept p (λ root. list_any (same_root root) (changed_roots p None (Assign (designator line x no_selectors) e))) x declared.type declared.is.is assigned_there)))

      ends_well : IsTrueFor p world (shown p (in_main entry) window state) (replaced ((head_of p x, (valued p None q.supply e).term) ∷ []) q.conditions) → EndsWell p world (in_main entry) window (may_change p (in_main entry) (Assign (designator line x no_selectors) e)) q.conditions state (put state (variable x) got.value)
      ends_well holds_before = record {
        is_start = start_after p state start x got.value declared.type declared.is fits_there;
        true_there = true_after holds_before;
        same = same_after;
      }

    assign_right : (level : Option Level) → IsRight p world all_allowed (in_main entry) (Assign (designator line x no_selectors) e) (walk p level (in_main entry) (Assign (designator line x no_selectors) e))
    assign_right level q ignores window is state start true_there choices =
        by_quiet (quiet e s sorted calls state _ (shown_at state start) level q.supply choices)
      where
        P : State → Type 0
        P = EndsWell p world (in_main entry) window (may_change p (in_main entry) (Assign (designator line x no_selectors) e)) q.conditions state

        fixed : Fixed
        fixed = record { place = variable x; type = unwrap_or (found p.variables x) (record { 0 = 0 }); state = state }

        holds_before : IsTrueFor p world (shown p (in_main entry) window state) (replaced ((head_of p x, (valued p None q.supply e).term) ∷ []) q.conditions)
        holds_before = subst (λ c. IsTrueFor p world (shown p (in_main entry) window state) (before_calls None c (replaced ((head_of p x, (valued p None q.supply e).term) ∷ []) q.conditions))) (plain p None e calls q.supply).calls true_there

        by_quiet : Quiet Got (λ got. got ≡ record { value = eval (meaning_in p world) (valuation_of (shapes p) (both (entry_view p None state) (now_view p None state))) (valued p None q.supply e).term; state = state }) choices (evaluate p level (in_main entry) e state choices) → Reaches p world all_allowed State (EndsWell p world (in_main entry) window (may_change p (in_main entry) (Assign (designator line x no_selectors) e)) q.conditions state) (and_then (evaluate p level (in_main entry) e state choices) (λ got last. assign p (record { place = variable x; type = unwrap_or (found p.variables x) (record { 0 = 0 }); state = state }) got.value got.state last))
        by_quiet (Stops f o) = subst (λ r. Reaches p world all_allowed State (EndsWell p world (in_main entry) window (may_change p (in_main entry) (Assign (designator line x no_selectors) e)) q.conditions state) (and_then r (λ got last. assign p (record { place = variable x; type = unwrap_or (found p.variables x) (record { 0 = 0 }); state = state }) got.value got.state last))) (sym o) (reach_stops p world all_allowed _ f choices refl)
        by_quiet (Gives got o is_got) =
            subst (λ r. Reaches p world all_allowed State (EndsWell p world (in_main entry) window (may_change p (in_main entry) (Assign (designator line x no_selectors) e)) q.conditions state) (and_then r (λ got last. assign p (record { place = variable x; type = unwrap_or (found p.variables x) (record { 0 = 0 }); state = state }) got.value got.state last))) (sym o)
            (reach_unless p world all_allowed _ (takes_value p.forms (unwrap_or (found p.variables x) (record { 0 = 0 })) got.value) fault.Range (put got.state (variable x) got.value) choices refl
            (subst (λ k. EndsWell p world (in_main entry) window (may_change p (in_main entry) (Assign (designator line x no_selectors) e)) q.conditions state (put k (variable x) got.value)) (sym (ap (λ g. g.state) is_got))
            (ends_well q ignores window is state start level choices got o holds_before)))

    assign_supplied : (q : Made) → Ignores p world q.supply q.conditions → IsSupplied p world (in_main entry) (Assign (designator line x no_selectors) e) q
    assign_supplied q ignores =
        let k = plain p None e calls q.supply in
        let pairs = (head_of p x, (valued p None q.supply e).term) ∷ [] in
        record {
          ignores = subst (λ c. Ignores p world (valued p None q.supply e).supply (before_calls None c (replaced pairs q.conditions))) (sym k.calls)
              (replaced_ignores p world (valued p None q.supply e).supply pairs (one_pair p world (valued p None q.supply e).supply (head_of p x) (valued p None q.supply e).term (old_ignores p world (valued p None q.supply e).supply (valued p None q.supply e).term k.old)) q.conditions (subst (λ m. Ignores p world m q.conditions) (sym k.supply) ignores));
          later = subst (λ m. IsLater q.supply m) (sym k.supply) (λ h new. new);
        }

  -- ---- leaves

  leaf_right : (s : Statement) → leaf_ok p s ≡ true → (level : Option Level) → IsRight p world all_allowed (in_main entry) s (walk p level (in_main entry) s)
  leaf_right (Assign (designator line x no_selectors) e) ok level =
      let sorts = same_sorts (sort_of_type p (designator_type p None (designator line x no_selectors))) (expression_sort p None e) (right_true (may_write None (designator line x no_selectors)) _ (right_true (calls_nothing e) _ ok)) in
      assign_right line x e sorts.common (declared_as p x sorts.common sorts.left) sorts.right (nothing_called (expression_calls e) (left_true (calls_nothing e) _ ok)) level
  leaf_right (Assign (designator line x (at_index t i others)) e) ok level = absurd (false≢true ok)
  leaf_right (Assign (designator line x (at_field t f others)) e) ok level = absurd (false≢true ok)
  leaf_right (Assign (designator line x (at_cell l t others)) e) ok level = absurd (false≢true ok)
  leaf_right _ ok level = absurd (false≢true ok)

  leaf_supplied : (s : Statement) → leaf_ok p s ≡ true → (q : Made) → Ignores p world q.supply q.conditions → IsSupplied p world (in_main entry) s q
  leaf_supplied (Assign (designator line x no_selectors) e) ok q ignores =
      let sorts = same_sorts (sort_of_type p (designator_type p None (designator line x no_selectors))) (expression_sort p None e) (right_true (may_write None (designator line x no_selectors)) _ (right_true (calls_nothing e) _ ok)) in
      assign_supplied line x e sorts.common (declared_as p x sorts.common sorts.left) sorts.right (nothing_called (expression_calls e) (left_true (calls_nothing e) _ ok)) q ignores
  leaf_supplied (Assign (designator line x (at_index t i others)) e) ok q ignores = absurd (false≢true ok)
  leaf_supplied (Assign (designator line x (at_field t f others)) e) ok q ignores = absurd (false≢true ok)
  leaf_supplied (Assign (designator line x (at_cell l t others)) e) ok q ignores = absurd (false≢true ok)
  leaf_supplied _ ok q ignores = absurd (false≢true ok)

  -- ---- variables that are counted

  counted_as : (x : Symbol) → is_sort sort.Int (sort_of_type p (name_type p None x)) ≡ true → Declared p x sort.Int
  counted_as x is = declared_as p x sort.Int (ap (option_map (sort_of p.forms)) (some_of (found p.variables x)) ∙ is_sort-true sort.Int (sort_of_type p (name_type p None x)) is)

  counts_right : (x : Symbol) → Declared p x sort.Int → (state : State) → IsStart p None state → (z : ℤ) → Counts p (in_main entry) x state z
  counts_right x declared state start z = record {
    is_start = start_after p state start x (Number z) declared.type declared.is (ap (fits (shapes p) (Number z)) declared.sort_is);
    shows = ap (now_view p None (put state (variable x) (Number z))) (head_is p x declared.type declared.is) ∙ view-same p state start x (Number z) declared.type declared.is;
    same = λ h differ. view-other p state x (Number z) declared.type declared.is h (ap (head_eq h) (sym (head_is p x declared.type declared.is)) ∙ differ);
  }

  counted_changes : (line : ℕ) (f : Option Annotation) (count : Counting) (s : Statement) → Declared p count.variable sort.Int → may_change p (in_main entry) (For line f count s) (item_head p None (Variable count.variable)) ≡ true
  counted_changes line f count s declared =
      ap (λ h. list_any (head_eq h) (changed_heads p None (For line f count s))) (head_is p count.variable declared.type declared.is)
      ∙ is_kept p (λ root. list_any (same_root root) (changed_roots p None (For line f count s))) count.variable declared.type declared.is.is
      (is_written (Shared (Variable count.variable)) line (annotation_uses (is_own None) f) (expression_uses (is_own None) count.first ++ (expression_uses (is_own None) count.last ++ statement_uses (is_own None) s)) (flat_map (changed_by_call p) (statement_calls (For line f count s))) (eq-eqb count.variable.0 count.variable.0 refl))

  counted_left : (x : Symbol) (s : Statement) → Declared p x sort.Int → not (list_any (same_root (name_root (is_own None) x)) (changed_roots p None s)) ≡ true → may_change p (in_main entry) s (item_head p None (Variable x)) ≡ false
  counted_left x s declared leaves =
      ap (λ h. list_any (head_eq h) (changed_heads p None s)) (head_is p x declared.type declared.is)
      ∙ is_not_kept p (λ root. list_any (same_root root) (changed_roots p None s)) x (sort_of p.forms declared.type) (not_true (list_any (same_root (Shared (Variable x))) (changed_roots p None s)) leaves)
    where
      not_true : (b : Bool) → not b ≡ true → b ≡ false
      not_true true e = absurd (false≢true e)
      not_true false e = refl

  head_of_count : (count : Counting) (s : Statement) → counting_ok p None count s ≡ true → Declared p count.variable sort.Int
  head_of_count count s ok = counted_as count.variable (left_true (is_sort sort.Int (sort_of_type p (name_type p None count.variable))) _ ok)

  left_of_count : (count : Counting) (s : Statement) → counting_ok p None count s ≡ true → not (list_any (same_root (name_root (is_own None) count.variable)) (changed_roots p None s)) ≡ true
  left_of_count count s ok =
      right_true (is_sort sort.Int (expression_sort p None count.last)) _
      (right_true (is_sort sort.Int (expression_sort p None count.first)) _
      (right_true (is_sort sort.Int (sort_of_type p (name_type p None count.variable))) _ ok))

  -- ---- all parts

  test_sort : (e : Expression) → (calls_nothing e && is_some (expression_sort p None e)) ≡ true → SomeSort (expression_sort p None e)
  test_sort e ok = sort_there (expression_sort p None e) (right_true (calls_nothing e) _ ok)

  test_calls : (e : Expression) → (calls_nothing e && is_some (expression_sort p None e)) ≡ true → expression_calls e ≡ []
  test_calls e ok = nothing_called (expression_calls e) (left_true (calls_nothing e) _ ok)

  pub parts_right : PartsAreRight p world all_allowed (in_main entry) (main_parts p)
  parts_right = record {
    faults = record { no_label = refl; out_of_range = refl; no_choice = refl };
    leaf = λ s ok n correct. leaf_right s ok (below p n);
    leaf_supplied = leaf_supplied;
    test = λ e ok n correct. let k = test_sort e ok in test_right e k.sort k.is (test_calls e ok) (below p n);
    test_supplied = λ e ok n. let k = test_sort e ok in test_supplied e k.sort k.is (test_calls e ok) n;
    number = number_worth;
    counts = λ count s ok state start z. counts_right count.variable (head_of_count count s ok) state start z;
    counted = λ line f count s ok. counted_changes line f count s (head_of_count count s ok);
    left_alone = λ count s ok. counted_left count.variable s (head_of_count count s ok) (left_of_count count s ok);
  }
