-- What is true in one state, and in another one that differs where variables are renamed.
use Rattle.std.proofs.Common.{arith, ◌≡◌, ℕ, zero, suc, Bool, true, false, List, [], refl, sym, ap, ◌∙◌, nat_lt, Option, Some, None, option_map}
use Rattle.std.specs.List.{list_any, list_all}
use Rattle.std.specs.Option.{unwrap_or}
use Rattle.std.proofs.lemmas.Bool.{false≢true}
use Rattle.std.proofs.lemmas.Bool.Decides.{nat_tests}
use Rattle.spv_logic.specs.declared.types.TypeId.{TypeId}
use Rattle.spv_logic.specs.declared.types.Sort.TheVariants as sort
use Rattle.spv_logic.specs.declared.operators.Head.{Head}
use Rattle.spv_logic.specs.declared.operators.Head.TheVariants as head
use Rattle.spv_logic.specs.Values.{Value}
use Rattle.spv_logic.specs.Terms.{head_eq, sort_eq}
use Rattle.spv_logic.specs.Shapes.{shapes_ok}
use Rattle.spv_logic.specs.Fits.{fits}
use Rattle.spv_logic.specs.Sorts.{variable_sort}
use Rattle.spv_logic.specs.Substitution.{value_under, under}
use Rattle.spv_logic.specs.Conditions.{Meaning, Valuation, IsValuation, View, Shows, Condition, both, shown_or}
use Rattle.spv_logic.proofs.Equality.{sort_eq-true}
use Rattle.spv_logic.proofs.Substitution.{worth-variable}
use Rattle.spv_program.specs.declared.types.Item.TheVariants.{Class}
use Rattle.spv_program.specs.Types.{sort_of}
use Rattle.spv_program.specs.Programs.{Program, shapes, routine_in}
use Rattle.spv_program.specs.Supplies.{Supply, full_supply}
use Rattle.spv_program.specs.Calls.{replacing}
use Rattle.spv_program.proofs.SortFacts.{nothing_there, some_is, passed, chosen}
use Rattle.spv_meaning.specs.Places.{State, look}
use Rattle.spv_meaning.specs.Views.{place_of, sees, shown_type, of_sort, class_of, now_view}
use Rattle.spv_meaning.specs.Levels.{Here}
use Rattle.spv_meaning.specs.Starts.{IsStart, is_of_type}
use Rattle.spv_meaning.specs.Before.{renamed, replaced}
use Rattle.spv_meaning.proofs.Heaps.{class_fits}
use Rattle.spv_rule_soundness.specs.statements.Truth.{is_new, IsLater, IsWindow, IsEntry, meaning_in, shown, IsTrueFor, Ignores}
use Rattle.spv_rule_soundness.proofs.statements.Lists.{not_new, follow-replaced}
use Rattle.spv_rule_soundness.proofs.statements.Views.{Part, First, Second, parts, state_old, within, within-there, laid_over}
use Rattle.spv_rule_soundness.proofs.statements.Renaming.{is_name, with_fresh, fresh_else, stands, under_there, under_else, fresh_valuation}

above_zero : (k m : ℕ) → nat_lt k m ≡ true → nat_lt 0 m ≡ true
above_zero k m h = grind (arith, nat_tests)

-- every supply is later than the full one
pub full_first : (n : Supply) → IsLater full_supply n
full_first n (head.Var x s m) new = above_zero (n.names x) m new
full_first n (head.ClassVar t m) new = above_zero (n.classes t) m new
full_first n _ new = absurd (false≢true new)

module _ (p : Program) (ok : shapes_ok (shapes p) ≡ true) (world : Meaning) (here : Here) (entry : IsEntry p here.entry) where
  now_fit : (state : State) → IsStart p here.routine state → (h : Head) (w : Value) → now_view p here.routine state h ≡ Some w → fits (shapes p) w (variable_sort h) ≡ true
  now_fit state start (head.Var x s zero) w e = by_type (shown_type p (routine_in p here.routine) x) refl e
    where
      by_type : (o : Option TypeId) → shown_type p (routine_in p here.routine) x ≡ o → of_sort (option_map (sort_of p.forms) o) s (look state (place_of here.routine state x)) ≡ Some w → fits (shapes p) w s ≡ true
      by_type None is e = absurd (nothing_there e)
      by_type (Some t) is e =
          let same = sort_eq-true (sort_of p.forms t) s (passed (sort_eq (sort_of p.forms t) s) _ w e) in
          let there = chosen (sort_eq (sort_of p.forms t) s) (look state (place_of here.routine state x)) w e in
          let holds = start.names x t is in
          ap (fits (shapes p) w) (sym same) ∙ (ap (is_of_type p t) (sym there) ∙ holds)
  now_fit state start (head.Var x s (suc n)) w e = absurd (nothing_there e)
  now_fit state start (head.ClassVar t zero) w e =
      let is = some_is (chosen (sees (routine_in p here.routine) (Class t)) (Some (class_of (shapes p) state.heap t)) w e) in
      ap (λ c. fits (shapes p) c (sort.Class t)) (sym is) ∙ class_fits p ok state.heap start.heap t
  now_fit state start (head.ClassVar t (suc n)) w e = absurd (nothing_there e)
  now_fit state start (head.Start x s) w e = absurd (nothing_there e)
  now_fit state start _ w e = absurd (nothing_there e)

  pub shown_fit : (n : Supply) (window : View) → IsWindow p n window → (state : State) → IsStart p here.routine state → (h : Head) (w : Value) → shown p here window state h ≡ Some w → fits (shapes p) w (variable_sort h) ≡ true
  shown_fit n window is state start h w e = by_part (parts (both here.entry (now_view p here.routine state) h) (window h) w e)
    where
      by_state : Part (now_view p here.routine state h) (here.entry h) w → fits (shapes p) w (variable_sort h) ≡ true
      by_state (First there) = now_fit state start h w there
      by_state (Second none there) = entry.fit h w there

      by_part : Part (both here.entry (now_view p here.routine state) h) (window h) w → fits (shapes p) w (variable_sort h) ≡ true
      by_part (First there) = by_state (parts (now_view p here.routine state h) (here.entry h) w there)
      by_part (Second none there) = is.fit h w there

  pub shown_taken : (n : Supply) (window : View) → IsWindow p n window → (state : State) (h : Head) (w : Value) → shown p here window state h ≡ Some w → is_new n h ≡ false
  shown_taken n window is state h w e = by_part (parts (both here.entry (now_view p here.routine state) h) (window h) w e)
    where
      by_part : Part (both here.entry (now_view p here.routine state) h) (window h) w → is_new n h ≡ false
      by_part (First there) = not_new full_supply n h (full_first n) (state_old p here entry state h w there)
      by_part (Second none there) = is.taken h w there

  -- what a state shows, and elsewhere what a valuation says
  pub at_state : (window : View) (state : State) → Valuation → Valuation
  at_state window state v = within (shown p here window state) v

  module _ (n : Supply) (window : View) (is : IsWindow p n window) where
    pub at_state-valuation : (state : State) → IsStart p here.routine state → (v : Valuation) → IsValuation (shapes p) v → IsValuation (shapes p) (within (shown p here window state) v)
    at_state-valuation state start v val = laid_over p (shown p here window state) (shown_fit n window is state start) v val

    pub at_state-shows : (state : State) (v : Valuation) → Shows (shown p here window state) (within (shown p here window state) v)
    at_state-shows state v h w e = within-there (shown p here window state) v h w e

    -- what is new shows in no state
    pub new_hidden : (state : State) (v : Valuation) (h : Head) → is_new n h ≡ true → within (shown p here window state) v h ≡ v h
    new_hidden state v h new = by_value (shown p here window state h) refl
      where
        by_value : (o : Option Value) → shown p here window state h ≡ o → unwrap_or o (v h) ≡ v h
        by_value None e = refl
        by_value (Some w) e = absurd (false≢true (sym (shown_taken n window is state h w e) ∙ new))

    -- where two states show the same
    pub same_shown : (one two : State) (v : Valuation) (h : Head) → now_view p here.routine two h ≡ now_view p here.routine one h → Shows (shown p here window two) v → within (shown p here window one) v h ≡ v h
    same_shown one two v h same shows = by_value (shown p here window one h) refl
      where
        by_value : (o : Option Value) → shown p here window one h ≡ o → unwrap_or o (v h) ≡ v h
        by_value None e = refl
        by_value (Some w) e = sym (shows h w (ap (λ o. shown_or (shown_or o (here.entry h)) (window h)) same ∙ e))

    module _ (heads : List Head) (names : list_all is_name heads ≡ true) (conditions : List Condition) (ignores : Ignores p world n conditions) (one two : State) (start : IsStart p here.routine one) (same : (h : Head) → list_any (head_eq h) heads ≡ false → now_view p here.routine two h ≡ now_view p here.routine one h) where
      -- the fresh variables take the values that the names have in another state
      pub renaming : IsTrueFor p world (shown p here window one) (replaced (renamed heads n).pairs conditions) → IsTrueFor p world (shown p here window two) conditions
      renaming true_there v val shows =
          let base = within (shown p here window one) v in
          let w = with_fresh (renamed heads n).pairs v base in
          let under_base = at_state-valuation one start v val in
          let w_shows : Shows (shown p here window one) w
          = λ h u e. fresh_else heads names n v base h (shown_taken n window is one h u e) ∙ at_state-shows one v h u e in
          ignores.alike v (under (meaning_in p world) (replacing (renamed heads n).pairs) w) (λ h variable old. sym (by_place h old (list_any (head_eq h) heads) refl))
          ∙ (sym (follow-replaced (meaning_in p world) w (renamed heads n).pairs conditions) ∙ true_there w (fresh_valuation p heads names n v base val under_base) w_shows)
        where
          by_place : (h : Head) → is_new n h ≡ false → (b : Bool) → list_any (head_eq h) heads ≡ b → under (meaning_in p world) (replacing (renamed heads n).pairs) (with_fresh (renamed heads n).pairs v (within (shown p here window one) v)) h ≡ v h
          by_place h old true there = under_there (meaning_in p world) heads names n v (within (shown p here window one) v) h there
          by_place h old false away =
              under_else (meaning_in p world) heads n (with_fresh (renamed heads n).pairs v (within (shown p here window one) v)) h away
              ∙ (fresh_else heads names n v (within (shown p here window one) v) h old ∙ same_shown one two v h (same h away) shows)

      -- a renamed list is true in both states or in none
      pub persisting : IsTrueFor p world (shown p here window one) (replaced (renamed heads n).pairs conditions) → IsTrueFor p world (shown p here window two) (replaced (renamed heads n).pairs conditions)
      persisting true_there v val shows =
          let base = within (shown p here window one) v in
          follow-replaced (meaning_in p world) v (renamed heads n).pairs conditions
          ∙ (ignores.alike _ _ (λ h variable old. by_place h (list_any (head_eq h) heads) refl)
          ∙ (sym (follow-replaced (meaning_in p world) base (renamed heads n).pairs conditions) ∙ true_there base (at_state-valuation one start v val) (at_state-shows one v)))
        where
          by_place : (h : Head) (b : Bool) → list_any (head_eq h) heads ≡ b → under (meaning_in p world) (replacing (renamed heads n).pairs) v h ≡ under (meaning_in p world) (replacing (renamed heads n).pairs) (within (shown p here window one) v) h
          by_place h true there =
              let s = stands heads names n v v h there in
              let base = within (shown p here window one) v in
              ap (λ o. value_under (meaning_in p world) v o (v h)) s.is
              ∙ (worth-variable (meaning_in p world) v s.variable [] s.name
              ∙ (sym (new_hidden one v s.variable s.new)
              ∙ (sym (worth-variable (meaning_in p world) base s.variable [] s.name) ∙ ap (λ o. value_under (meaning_in p world) base o (base h)) (sym s.is))))
          by_place h false away =
              under_else (meaning_in p world) heads n v h away
              ∙ (sym (same_shown one two v h (same h away) shows) ∙ sym (under_else (meaning_in p world) heads n (within (shown p here window one) v) h away))
