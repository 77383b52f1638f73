-- The fresh variable of a call takes the value that the function gave.
use Rattle.std.proofs.Common.{◌≡◌, Bool, true, false, cond, List, [], ◌∷◌, refl, sym, ap, ◌∙◌, Option, Some, None}
use Rattle.spv_logic.specs.declared.operators.Head.{Head}
use Rattle.spv_logic.specs.declared.operators.Head.TheVariants as head
use Rattle.spv_logic.specs.Values.{Value}
use Rattle.spv_logic.specs.Terms.{Term, head_eq}
use Rattle.spv_logic.specs.Fits.{fits}
use Rattle.spv_logic.specs.Sorts.{variable_sort}
use Rattle.spv_logic.specs.Conditions.{Meaning, Valuation, IsValuation, View, Shows, Condition}
use Rattle.spv_logic.proofs.Equality.{head_eq-true, head_eq-refl}
use Rattle.spv_program.specs.Programs.{Routine, Program, shapes}
use Rattle.spv_program.specs.Supplies.{Supply, full_supply, fresh_variable}
use Rattle.spv_program.specs.Terms.{alone}
use Rattle.spv_program.specs.Calls.{Argument, exit_at_call}
use Rattle.spv_program.specs.ExpressionTerms.{sort_of_result, result_head}
use Rattle.spv_program.proofs.SortFacts.{some_is}
use Rattle.spv_meaning.specs.Places.{State}
use Rattle.spv_meaning.specs.Levels.{Here}
use Rattle.spv_meaning.specs.Evaluation.{Got}
use Rattle.spv_meaning.specs.Before.{assuming_if_there}
use Rattle.spv_rule_soundness.specs.statements.Truth.{is_new, IsWindow, IsEntry, meaning_in, all_follow, shown, IsTrueFor}
use Rattle.spv_rule_soundness.proofs.statements.Lists.{not_new, assumed}
use Rattle.spv_rule_soundness.proofs.statements.States.{full_first}
use Rattle.spv_rule_soundness.proofs.statements.Views.{shown_wider}
use Rattle.spv_rule_soundness.proofs.statements.Renaming.{fresh_later, fresh_new, fresh_taken, new_differs}
use Rattle.spv_call_evaluation.specs.Known.{Widely, IsWorth}
use Rattle.spv_call_evaluation.specs.Functions.{value_head, IsResult}
use Rattle.spv_call_evaluation.proofs.Windows.{window_shown}

-- a window in which one more variable has a value
abbrev pub with_value : View → Head → Value → View
with_value window y w h = cond (head_eq h y) (Some w) (window h)

pub with_there : (window : View) (y : Head) (w : Value) → with_value window y w y ≡ Some w
with_there window y w = ap (λ b. cond b (Some w) (window y)) (head_eq-refl y)

pub with_else : (window : View) (y : Head) (w : Value) (h : Head) → head_eq h y ≡ false → with_value window y w h ≡ window h
with_else window y w h differ = ap (λ b. cond b (Some w) (window h)) differ

-- what is in it is the new value, or what was there
pub data InWith (window : View) (y : Head) (w : Value) (h : Head) (u : Value) : Type 0 where
  IsNew : h ≡ y → w ≡ u → InWith window y w h u
  WasThere : window h ≡ Some u → InWith window y w h u

in_with : (window : View) (y : Head) (w : Value) (h : Head) (u : Value) → with_value window y w h ≡ Some u → InWith window y w h u
in_with window y w h u e = by_case (head_eq h y) refl e
  where
    by_case : (b : Bool) → head_eq h y ≡ b → cond b (Some w) (window h) ≡ Some u → InWith window y w h u
    by_case true same e = IsNew (head_eq-true h y same) (some_is e)
    by_case false differ e = WasThere e

module _ (p : Program) (world : Meaning) (here : Here) (entry : IsEntry p here.entry) (state : State) (q : Routine) (n : Supply) (window : View) (is : IsWindow p n window) where
  abbrev y : Head
  y = value_head p q n

  abbrev kind : Head
  kind = head.Var q.name (sort_of_result p q) 0

  abbrev after : Supply
  after = (fresh_variable q.name (sort_of_result p q) n).supply

  y_new : is_new n y ≡ true
  y_new = fresh_new kind n refl

  y_fresh : is_new full_supply y ≡ true
  y_fresh = full_first n y y_new

  module _ (w : Value) (fit : fits (shapes p) w (sort_of_result p q) ≡ true) where
    wider : View
    wider = with_value window y w

    keeps : (h : Head) (u : Value) → window h ≡ Some u → with_value window y w h ≡ Some u
    keeps h u e = with_else window y w h (new_differs n h y (is.taken h u e) y_new) ∙ e

    window_with : IsWindow p after (with_value window y w)
    window_with = record {
      fit = λ h u e. by_part h u (in_with window y w h u e);
      taken = λ h u e. taken h u (in_with window y w h u e);
      fresh = λ h u e. fresh h u (in_with window y w h u e);
    }
      where
        by_part : (h : Head) (u : Value) → InWith window y w h u → fits (shapes p) u (variable_sort h) ≡ true
        by_part h u (IsNew same value) = ap (λ k. fits (shapes p) u (variable_sort k)) same ∙ (ap (λ x. fits (shapes p) x (sort_of_result p q)) (sym value) ∙ fit)
        by_part h u (WasThere e) = is.fit h u e

        taken : (h : Head) (u : Value) → InWith window y w h u → is_new after h ≡ false
        taken h u (IsNew same value) = ap (is_new after) same ∙ fresh_taken kind n refl
        taken h u (WasThere e) = not_new n after h (fresh_later kind n) (is.taken h u e)

        fresh : (h : Head) (u : Value) → InWith window y w h u → is_new full_supply h ≡ true
        fresh h u (IsNew same value) = ap (is_new full_supply) same ∙ y_fresh
        fresh h u (WasThere e) = is.fresh h u e

  -- what the function gave is what the variable is worth, and EXIT is known from there on
  pub with_result : (arguments : List Argument) (wanted : List Condition) → IsTrueFor p world (shown p here window state) (assuming_if_there (exit_at_call p q arguments ((result_head p q, alone (value_head p q n)) ∷ [])) wanted) → (got : Got) → IsResult p world here state q n arguments window got
      → Widely p world here state n (fresh_variable q.name (sort_of_result p q) n).supply window wanted Got (IsWorth p (meaning_in p world) here state (alone (value_head p q n))) got
  with_result arguments wanted known got result = record {
    wider = with_value window y got.value;
    widens = record {
      later = fresh_later kind n;
      is_window = window_with got.value result.fit;
      keeps = keeps got.value result.fit;
      adds = λ h old. with_else window y got.value h (new_differs n h y old y_new);
      true_there = λ v val shows. by_exit (exit_at_call p q arguments ((result_head p q, alone y) ∷ [])) refl known v val (λ h u e. shows h u (shown_wider p here window (with_value window y got.value) (keeps got.value result.fit) state h u e)) (shows y got.value (window_shown p here entry after (with_value window y got.value) (window_with got.value result.fit) state y got.value (with_there window y got.value)));
    };
    passes = record {
      state_is = result.state_is;
      worth = λ v knows. knows.shows y got.value (with_there window y got.value);
    };
  }
    where
      by_exit : (o : Option Term) → exit_at_call p q arguments ((result_head p q, alone y) ∷ []) ≡ o → IsTrueFor p world (shown p here window state) (assuming_if_there o wanted) → (v : Valuation) → IsValuation (shapes p) v → Shows (shown p here window state) v → v y ≡ got.value → all_follow (meaning_in p world) v wanted ≡ true
      by_exit None e known v val shows value = known v val shows
      by_exit (Some t) e known v val shows value = assumed (meaning_in p world) v t wanted (result.promised t e v val shows value) (known v val shows)
