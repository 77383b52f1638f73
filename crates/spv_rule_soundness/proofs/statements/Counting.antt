-- The rule of FOR is right where those of its parts are.
use Rattle.std.proofs.Common.{◌≡◌, Bool, true, false, cond, not, List, [], ◌∷◌, ℤ, pos, ◌+ℤ◌, ◌-ℤ◌, refl, sym, ap, ◌∙◌, Option, Some, None, option_map}
use Rattle.std.specs.List.{list_any, list_all}
use Rattle.std.specs.Option.{unwrap_or}
use Rattle.std.specs.Int.RustNames.{int_lt}
use Rattle.spv_logic.proofs.list.Tests.{left_true}
use Rattle.spv_logic.specs.declared.conditions.Kind.TheVariants as kind
use Rattle.spv_logic.specs.declared.operators.Head.{Head}
use Rattle.spv_logic.specs.Values.{Value, Number, number_of, truth_of}
use Rattle.spv_logic.specs.Terms.{Term, head_eq, eval}
use Rattle.spv_logic.specs.Shapes.{shapes_ok}
use Rattle.spv_logic.specs.Fits.{fits}
use Rattle.spv_logic.specs.Sorts.{variable_sort}
use Rattle.spv_logic.specs.Substitution.{is_variable, substitute, value_under, under}
use Rattle.spv_logic.specs.Conditions.{Meaning, Valuation, IsValuation, View, Shows, Condition, shown_or, holds}
use Rattle.spv_logic.proofs.Equality.{head_eq-true, head_eq-refl}
use Rattle.spv_logic.proofs.Substitution.{worth-variable, eval-substitute}
use Rattle.spv_program.specs.declared.operators.Direction.{Direction}
use Rattle.spv_program.specs.declared.operators.Direction.TheVariants.{Up, Down}
use Rattle.spv_program.specs.declared.types.Item.TheVariants.{Variable}
use Rattle.spv_program.specs.Formulas.{Annotation}
use Rattle.spv_program.specs.Statements.{Counting, Statement}
use Rattle.spv_program.specs.Programs.{Program, shapes, routine_in}
use Rattle.spv_program.specs.Changes.{changed_heads}
use Rattle.spv_program.specs.Supplies.{Supply, Fresh, fresh_like}
use Rattle.spv_program.specs.Terms.{alone, item_head, body_term}
use Rattle.spv_program.specs.Calls.{replacing}
use Rattle.spv_meaning.specs.Places.{State, put}
use Rattle.spv_meaning.specs.Views.{place_of, now_view}
use Rattle.spv_meaning.specs.Levels.{Here}
use Rattle.spv_meaning.specs.Walks.{is_past, next_candidate}
use Rattle.spv_meaning.specs.Starts.{IsStart}
use Rattle.spv_meaning.specs.Before.{Made, Renamed, all_assuming, assuming_if_there, replaced, annotation_term, wanted_if_there, wanted_with, renamed, standing_for, next_term, within_term, past_term, before}
use Rattle.spv_rule_soundness.specs.statements.Truth.{is_new, IsWindow, IsEntry, meaning_in, all_follow, shown, IsTrueFor, Ignores}
use Rattle.spv_rule_soundness.specs.statements.Runs.{may_change}
use Rattle.spv_rule_soundness.proofs.statements.Lists.{follow-replaced, assumed, not_new}
use Rattle.spv_rule_soundness.proofs.statements.Views.{in_first, within, within-there}
use Rattle.spv_rule_soundness.proofs.statements.Renaming.{is_name, stands, with_fresh, fresh_else, fresh_new, fresh_sort, new_differs, renamed_later, under_else, fresh_valuation, value_at, valuation_from}
use Rattle.spv_rule_soundness.proofs.statements.States.{full_first, shown_taken, at_state-valuation, at_state-shows}
use Rattle.spv_rule_soundness.proofs.statements.Annotations.{annotation_ignores}
use Rattle.spv_rule_soundness.proofs.statements.Supplied.{fresh_not_changed, changed_are_names, fresh_pairs}

-- ---- the parts of the rule

abbrev pub counter : Program → Here → Counting → Head
counter p here count = item_head p (routine_in p here.routine) (Variable count.variable)

abbrev pub turn_of : Program → Here → Option Annotation → Counting → Statement → Supply → Made
turn_of p here f count s n =
    before p here.routine s (record { conditions = wanted_with p here.routine kind.Preserved (counter p here count) (next_term count.direction (alone (counter p here count))) f; supply = n })

abbrev pub fresh_of : Program → Here → Statement → Supply → Renamed
fresh_of p here w n = renamed (changed_heads p (routine_in p here.routine) w) n

abbrev pub last_of : Program → Here → Counting → Statement → Supply → Fresh
last_of p here count w n = fresh_like (counter p here count) (fresh_of p here w n).supply

-- under the INVARIANT with fresh variables, and under a relation of the counter and the end
abbrev pub under_invariant : Program → Here → Option Annotation → List (Head × Term) → Term → List Condition → List Condition
under_invariant p here f pairs relation conditions =
    assuming_if_there (option_map (substitute (replacing pairs)) (annotation_term p here.routine f)) (all_assuming relation conditions)

-- the value of the last fresh variable, and under it those of the others
abbrev pub instanced : List (Head × Term) → Head → Value → Valuation → Valuation → Valuation
instanced pairs last u source base h = cond (head_eq h last) u (with_fresh pairs source base h)

abbrev pub candidate : Here → State → Counting → ℤ → State
candidate here state count c = put state (place_of here.routine state count.variable) (Number c)

-- a valuation of the first state in which the fresh variables have the values of the candidate's state
pub record Instance (p : Program) (world : Meaning) (here : Here) (w : Statement) (count : Counting) (n : Supply) (window : View) (first_state two : State) (v : Valuation) : Type 0 where
  pub valuation : Valuation
  pub is_valuation : IsValuation (shapes p) valuation
  pub shows_first : Shows (shown p here window first_state) valuation
  pub under_is : (h : Head) → is_new n h ≡ false → under (meaning_in p world) (replacing (fresh_of p here w n).pairs) valuation h ≡ within (shown p here window two) v h
  pub counter_is : under (meaning_in p world) (replacing (fresh_of p here w n).pairs) valuation (counter p here count) ≡ within (shown p here window two) v (counter p here count)
  pub last_is : under (meaning_in p world) (replacing (fresh_of p here w n).pairs) valuation (last_of p here count w n).head ≡ v (counter p here count)

module _ (p : Program) (world : Meaning) (ok : shapes_ok (shapes p) ≡ true) (here : Here) (entry : IsEntry p here.entry) (w : Statement) (count : Counting) (n : Supply) (window : View) (is : IsWindow p n window) (one two : State) (begun : IsStart p here.routine one) (start : IsStart p here.routine two) (same : (h : Head) → may_change p here w h ≡ false → now_view p here.routine two h ≡ now_view p here.routine one h) (there : may_change p here w (counter p here count) ≡ true) (v : Valuation) (val : IsValuation (shapes p) v) where
  last_new : is_new (fresh_of p here w n).supply (last_of p here count w n).head ≡ true
  last_new = fresh_new (counter p here count) (fresh_of p here w n).supply refl

  last_new_here : is_new n (last_of p here count w n).head ≡ true
  last_new_here = renamed_later (changed_heads p (routine_in p here.routine) w) n (last_of p here count w n).head last_new

  names : list_all is_name (changed_heads p (routine_in p here.routine) w) ≡ true
  names = changed_are_names p (routine_in p here.routine) w

  source_valuation : IsValuation (shapes p) (within (shown p here window two) v)
  source_valuation = at_state-valuation p ok world here entry n window is two start v val

  base_valuation : IsValuation (shapes p) (within (shown p here window one) v)
  base_valuation = at_state-valuation p ok world here entry n window is one begun v val

  fresh_fit : (h : Head) → is_variable h ≡ true → fits (shapes p) (instanced (fresh_of p here w n).pairs (last_of p here count w n).head (v (counter p here count)) (within (shown p here window two) v) (within (shown p here window one) v) h) (variable_sort h) ≡ true
  fresh_fit h variable =
      by_case (head_eq h (last_of p here count w n).head) refl (value_at p _ (fresh_valuation p (changed_heads p (routine_in p here.routine) w) names n (within (shown p here window two) v) (within (shown p here window one) v) source_valuation base_valuation) h variable)
    where
      by_case : (b : Bool) → head_eq h (last_of p here count w n).head ≡ b → fits (shapes p) (with_fresh (fresh_of p here w n).pairs (within (shown p here window two) v) (within (shown p here window one) v) h) (variable_sort h) ≡ true → fits (shapes p) (cond b (v (counter p here count)) (with_fresh (fresh_of p here w n).pairs (within (shown p here window two) v) (within (shown p here window one) v) h)) (variable_sort h) ≡ true
      by_case true e other =
          ap (fits (shapes p) (v (counter p here count))) (ap variable_sort (head_eq-true h (last_of p here count w n).head e) ∙ fresh_sort (counter p here count) (fresh_of p here w n).supply) ∙ value_at p v val (counter p here count) refl
      by_case false e other = other

  -- beside the last variable, the instance is what the others make
  instanced_else : (h : Head) → is_new (fresh_of p here w n).supply h ≡ false → instanced (fresh_of p here w n).pairs (last_of p here count w n).head (v (counter p here count)) (within (shown p here window two) v) (within (shown p here window one) v) h ≡ with_fresh (fresh_of p here w n).pairs (within (shown p here window two) v) (within (shown p here window one) v) h
  instanced_else h old =
      ap (λ b. cond b (v (counter p here count)) (with_fresh (fresh_of p here w n).pairs (within (shown p here window two) v) (within (shown p here window one) v) h)) (new_differs (fresh_of p here w n).supply h (last_of p here count w n).head old last_new)

  old_in : (h : Head) → is_new n h ≡ false → instanced (fresh_of p here w n).pairs (last_of p here count w n).head (v (counter p here count)) (within (shown p here window two) v) (within (shown p here window one) v) h ≡ within (shown p here window one) v h
  old_in h old =
      instanced_else h (not_new n (fresh_of p here w n).supply h (renamed_later (changed_heads p (routine_in p here.routine) w) n) old)
      ∙ fresh_else (changed_heads p (routine_in p here.routine) w) names n (within (shown p here window two) v) (within (shown p here window one) v) h old

  in_place : (h : Head) → list_any (head_eq h) (changed_heads p (routine_in p here.routine) w) ≡ true → under (meaning_in p world) (replacing (fresh_of p here w n).pairs) (instanced (fresh_of p here w n).pairs (last_of p here count w n).head (v (counter p here count)) (within (shown p here window two) v) (within (shown p here window one) v)) h ≡ within (shown p here window two) v h
  in_place h changed =
      let pairs = (fresh_of p here w n).pairs in
      let source = within (shown p here window two) v in
      let base = within (shown p here window one) v in
      let whole = instanced pairs (last_of p here count w n).head (v (counter p here count)) source base in
      let others = with_fresh pairs source base in
      let found = stands (changed_heads p (routine_in p here.routine) w) names n source base h changed in
      let are = fresh_pairs p world (changed_heads p (routine_in p here.routine) w) names n (fresh_of p here w n).supply (λ k new. new) in
      ap (λ o. value_under (meaning_in p world) whole o (whole h)) found.is
      ∙ ((are.each h (alone found.variable) found.is).alike whole others (λ k variable old. instanced_else k old)
      ∙ (worth-variable (meaning_in p world) others found.variable [] found.name ∙ found.value))

  pub instance : Instance p world here w count n window one two v
  instance = record {
    valuation = instanced (fresh_of p here w n).pairs (last_of p here count w n).head (v (counter p here count)) (within (shown p here window two) v) (within (shown p here window one) v);
    is_valuation = valuation_from p _ fresh_fit;
    shows_first = λ h u e. old_in h (shown_taken p ok world here entry n window is one h u e) ∙ at_state-shows p ok world here entry n window is one v h u e;
    under_is = λ h old. by_place h old (list_any (head_eq h) (changed_heads p (routine_in p here.routine) w)) refl;
    counter_is = in_place (counter p here count) there;
    last_is =
        under_else (meaning_in p world) (changed_heads p (routine_in p here.routine) w) n _ (last_of p here count w n).head (fresh_not_changed p (routine_in p here.routine) w (last_of p here count w n).head (full_first n (last_of p here count w n).head last_new_here))
        ∙ ap (λ b. cond b (v (counter p here count)) (with_fresh (fresh_of p here w n).pairs (within (shown p here window two) v) (within (shown p here window one) v) (last_of p here count w n).head)) (head_eq-refl (last_of p here count w n).head);
  }
    where
      by_place : (h : Head) → is_new n h ≡ false → (b : Bool) → list_any (head_eq h) (changed_heads p (routine_in p here.routine) w) ≡ b → under (meaning_in p world) (replacing (fresh_of p here w n).pairs) (instanced (fresh_of p here w n).pairs (last_of p here count w n).head (v (counter p here count)) (within (shown p here window two) v) (within (shown p here window one) v)) h ≡ within (shown p here window two) v h
      by_place h old true changed = in_place h changed
      by_place h old false away =
          under_else (meaning_in p world) (changed_heads p (routine_in p here.routine) w) n _ h away
          ∙ (old_in h old ∙ ap (λ o. unwrap_or (shown_or (shown_or o (here.entry h)) (window h)) (v h)) (sym (same h away)))

-- ---- relations of the counter and the end

module _ (symbols : Meaning) (v : Valuation) where
  standing-under : (pairs : List (Head × Term)) (h : Head) → is_variable h ≡ true → eval symbols v (standing_for pairs h) ≡ under symbols (replacing pairs) v h
  standing-under pairs h variable = by_term (replacing pairs h)
    where
      by_term : (o : Option Term) → eval symbols v (unwrap_or o (alone h)) ≡ value_under symbols v o (v h)
      by_term None = worth-variable symbols v h [] variable
      by_term (Some t) = refl

  pub past-holds : (d : Direction) (x end : Term) (c e : ℤ) → eval symbols v x ≡ Number c → number_of (eval symbols v end) ≡ e → holds symbols v (past_term d x end) ≡ is_past d e c
  past-holds Up x end c e is end_is = ap (λ y. int_lt y (number_of (eval symbols v x))) end_is ∙ ap (λ w. int_lt e (number_of w)) is
  past-holds Down x end c e is end_is = ap (λ y. int_lt (number_of (eval symbols v x)) y) end_is ∙ ap (λ w. int_lt (number_of w) e) is

  pub within-holds : (d : Direction) (x end : Term) (c e : ℤ) → eval symbols v x ≡ Number c → number_of (eval symbols v end) ≡ e → holds symbols v (within_term d x end) ≡ not (is_past d e c)
  within-holds Up x end c e is end_is = ap not (ap (λ y. int_lt y (number_of (eval symbols v x))) end_is ∙ ap (λ w. int_lt e (number_of w)) is)
  within-holds Down x end c e is end_is = ap not (ap (λ y. int_lt (number_of (eval symbols v x)) y) end_is ∙ ap (λ w. int_lt (number_of w) e) is)

  pub next-is : (d : Direction) (x : Head) (c : ℤ) → is_variable x ≡ true → v x ≡ Number c → eval symbols v (next_term d (alone x)) ≡ Number (next_candidate d c)
  next-is Up x c variable is = ap (λ w. Number (number_of w +ℤ pos 1)) (worth-variable symbols v x [] variable ∙ is)
  next-is Down x c variable is = ap (λ w. Number (number_of w -ℤ pos 1)) (worth-variable symbols v x [] variable ∙ is)

-- ---- lists under an instance

module _ (p : Program) (world : Meaning) (here : Here) (f : Option Annotation) (w : Statement) (count : Counting) (n : Supply) (window : View) (one two : State) (v : Valuation) (i : Instance p world here w count n window one two v) (valuation_two : IsValuation (shapes p) (within (shown p here window two) v)) (known : IsTrueFor p world (shown p here window two) (wanted_if_there p here.routine kind.Invariant f)) where
  -- the renamed INVARIANT is true there
  pub under_known : (relation : Term) (conditions : List Condition) → holds (meaning_in p world) i.valuation relation ≡ true → all_follow (meaning_in p world) i.valuation (under_invariant p here f (fresh_of p here w n).pairs relation conditions) ≡ true → all_follow (meaning_in p world) i.valuation conditions ≡ true
  under_known relation conditions related is = assumed (meaning_in p world) i.valuation relation conditions related (by_annotation f known is)
    where
      by_annotation : (g : Option Annotation) → IsTrueFor p world (shown p here window two) (wanted_if_there p here.routine kind.Invariant g) → all_follow (meaning_in p world) i.valuation (assuming_if_there (option_map (substitute (replacing (fresh_of p here w n).pairs)) (annotation_term p here.routine g)) (all_assuming relation conditions)) ≡ true → all_follow (meaning_in p world) i.valuation (all_assuming relation conditions) ≡ true
      by_annotation None known is = is
      by_annotation (Some a) known is =
          let t = body_term p (routine_in p here.routine) a in
          let at_two = within (shown p here window two) v in
          assumed (meaning_in p world) i.valuation (substitute (replacing (fresh_of p here w n).pairs) t) (all_assuming relation conditions)
          (ap truth_of (eval-substitute (meaning_in p world) (replacing (fresh_of p here w n).pairs) i.valuation t ∙ (annotation_ignores p world n (routine_in p here.routine) a).alike _ at_two (λ h variable old. i.under_is h old))
          ∙ left_true (holds (meaning_in p world) at_two t) true (known at_two valuation_two (λ h u e. within-there (shown p here window two) v h u e)))
          is

  pub counter_now : (c : ℤ) → now_view p here.routine two (counter p here count) ≡ Some (Number c) → eval (meaning_in p world) i.valuation (standing_for (fresh_of p here w n).pairs (counter p here count)) ≡ Number c
  counter_now c e =
      standing-under (meaning_in p world) i.valuation (fresh_of p here w n).pairs (counter p here count) refl
      ∙ (i.counter_is ∙ within-there (shown p here window two) v (counter p here count) (Number c) (in_first _ (window (counter p here count)) (Number c) (in_first _ (here.entry (counter p here count)) (Number c) e)))

  -- what is renamed is true in the candidate's state
  pub turn_true : (conditions : List Condition) → Ignores p world n conditions → Shows (shown p here window two) v → all_follow (meaning_in p world) i.valuation (replaced (fresh_of p here w n).pairs conditions) ≡ true → all_follow (meaning_in p world) v conditions ≡ true
  turn_true conditions ignores shows is =
      ignores.alike v _ (λ h variable old. sym (i.under_is h old ∙ by_value h (shown p here window two h) refl))
      ∙ (sym (follow-replaced (meaning_in p world) i.valuation (fresh_of p here w n).pairs conditions) ∙ is)
    where
      by_value : (h : Head) (o : Option Value) → shown p here window two h ≡ o → unwrap_or o (v h) ≡ v h
      by_value h None e = refl
      by_value h (Some u) e = sym (shows h u e)

  -- and with a last value of the counter in the state behind the loop
  pub exit_true : (conditions : List Condition) → Ignores p world n conditions → (after : State) → Shows (shown p here window after) v → ((h : Head) → head_eq h (counter p here count) ≡ false → within (shown p here window two) v h ≡ v h) → all_follow (meaning_in p world) i.valuation (replaced (fresh_of p here w n).pairs (replaced ((counter p here count, alone (last_of p here count w n).head) ∷ []) conditions)) ≡ true → all_follow (meaning_in p world) v conditions ≡ true
  exit_true conditions ignores after shows same is =
      let x = counter p here count in
      let last = (last_of p here count w n).head in
      let renamed_v = under (meaning_in p world) (replacing (fresh_of p here w n).pairs) i.valuation in
      ignores.alike v (under (meaning_in p world) (replacing ((x, alone last) ∷ [])) renamed_v) (λ h variable old. sym (by_head h old (head_eq h x) refl))
      ∙ (sym (follow-replaced (meaning_in p world) renamed_v ((x, alone last) ∷ []) conditions)
      ∙ (sym (follow-replaced (meaning_in p world) i.valuation (fresh_of p here w n).pairs (replaced ((x, alone last) ∷ []) conditions)) ∙ is))
    where
      by_head : (h : Head) → is_new n h ≡ false → (b : Bool) → head_eq h (counter p here count) ≡ b → value_under (meaning_in p world) (under (meaning_in p world) (replacing (fresh_of p here w n).pairs) i.valuation) (cond b (Some (alone (last_of p here count w n).head)) None) (under (meaning_in p world) (replacing (fresh_of p here w n).pairs) i.valuation h) ≡ v h
      by_head h old true e =
          worth-variable (meaning_in p world) (under (meaning_in p world) (replacing (fresh_of p here w n).pairs) i.valuation) (last_of p here count w n).head [] refl ∙ (i.last_is ∙ ap v (sym (head_eq-true h (counter p here count) e)))
      by_head h old false e = i.under_is h old ∙ same h e
