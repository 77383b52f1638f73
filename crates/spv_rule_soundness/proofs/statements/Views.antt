-- Valuations that show a state, with fresh variables of which some have fixed values.
use Rattle.std.proofs.Common.{◌≡◌, zero, suc, true, false, List, refl, sym, ap, ◌∙◌, Option, Some, None}
use Rattle.std.specs.Option.{unwrap_or}
use Rattle.std.proofs.lemmas.Bool.{false≢true}
use Rattle.spv_logic.specs.declared.operators.Head.{Head}
use Rattle.spv_logic.specs.declared.operators.Head.TheVariants as head
use Rattle.spv_logic.specs.Values.{Value}
use Rattle.spv_logic.specs.Fits.{fits}
use Rattle.spv_logic.specs.Sorts.{variable_sort}
use Rattle.spv_logic.specs.Conditions.{Meaning, Valuation, IsValuation, View, Shows, Condition, both, shown_or}
use Rattle.spv_program.specs.Programs.{Program, shapes}
use Rattle.spv_program.specs.Supplies.{Supply, full_supply}
use Rattle.spv_program.proofs.SortFacts.{nothing_there}
use Rattle.spv_meaning.specs.Places.{State}
use Rattle.spv_meaning.specs.Views.{now_view}
use Rattle.spv_meaning.specs.Levels.{Here}
use Rattle.spv_rule_soundness.specs.statements.Truth.{is_new, IsWindow, IsEntry, shown, IsTrueFor, Ignores}

-- ---- what shows

-- only program names, classes and what showed at the entry: no fresh variable
pub now_old : (p : Program) (here : Here) (state : State) (h : Head) (w : Value) → now_view p here.routine state h ≡ Some w → is_new full_supply h ≡ false
now_old p here state (head.Var x s zero) w e = refl
now_old p here state (head.Var x s (suc n)) w e = absurd (nothing_there e)
now_old p here state (head.ClassVar t zero) w e = refl
now_old p here state (head.ClassVar t (suc n)) w e = absurd (nothing_there e)
now_old p here state (head.Start x s) w e = refl
now_old p here state _ w e = absurd (nothing_there e)

-- the two parts of what is shown
pub data Part (first second : Option Value) (w : Value) : Type 0 where
  First : first ≡ Some w → Part first second w
  Second : first ≡ None → second ≡ Some w → Part first second w

pub parts : (first second : Option Value) (w : Value) → shown_or first second ≡ Some w → Part first second w
parts (Some u) second w e = First e
parts None second w e = Second refl e

pub in_first : (first second : Option Value) (w : Value) → first ≡ Some w → shown_or first second ≡ Some w
in_first (Some u) second w e = e
in_first None second w e = absurd (nothing_there e)

pub state_old : (p : Program) (here : Here) → IsEntry p here.entry → (state : State) (h : Head) (w : Value) → both here.entry (now_view p here.routine state) h ≡ Some w → is_new full_supply h ≡ false
state_old p here entry state h w e = by_part (parts (now_view p here.routine state h) (here.entry h) w e)
  where
    by_part : Part (now_view p here.routine state h) (here.entry h) w → is_new full_supply h ≡ false
    by_part (First is) = now_old p here state h w is
    by_part (Second none is) = entry.old h w is

-- a window that has more shows more
pub shown_wider : (p : Program) (here : Here) (window wider : View) → ((h : Head) (w : Value) → window h ≡ Some w → wider h ≡ Some w) → (state : State) (h : Head) (w : Value) → shown p here window state h ≡ Some w → shown p here wider state h ≡ Some w
shown_wider p here window wider keeps state h w e = by_part (parts (both here.entry (now_view p here.routine state) h) (window h) w e)
  where
    by_part : Part (both here.entry (now_view p here.routine state) h) (window h) w → shown p here wider state h ≡ Some w
    by_part (First there) = in_first _ (wider h) w there
    by_part (Second none there) = ap (λ o. shown_or o (wider h)) none ∙ keeps h w there

-- ---- valuations with a window

abbrev pub within : View → Valuation → Valuation
within window v h = unwrap_or (window h) (v h)

pub within-there : (window : View) (v : Valuation) (h : Head) (w : Value) → window h ≡ Some w → within window v h ≡ w
within-there window v h w e = ap (λ o. unwrap_or o (v h)) e

pub within-none : (window : View) (v : Valuation) (h : Head) → window h ≡ None → within window v h ≡ v h
within-none window v h e = ap (λ o. unwrap_or o (v h)) e

-- a valuation over which values of their sorts are laid
pub laid_over : (p : Program) (view : View) → ((h : Head) (w : Value) → view h ≡ Some w → fits (shapes p) w (variable_sort h) ≡ true) → (v : Valuation) → IsValuation (shapes p) v → IsValuation (shapes p) (within view v)
laid_over p view fit v val = record {
  variables = λ x s n. by_value (head.Var x s n) (view (head.Var x s n)) refl (val.variables x s n);
  classes = λ t n. by_value (head.ClassVar t n) (view (head.ClassVar t n)) refl (val.classes t n);
  starts = λ x s. by_value (head.Start x s) (view (head.Start x s)) refl (val.starts x s);
}
  where
    by_value : (h : Head) (o : Option Value) → view h ≡ o → fits (shapes p) (v h) (variable_sort h) ≡ true → fits (shapes p) (unwrap_or o (v h)) (variable_sort h) ≡ true
    by_value h None e under = under
    by_value h (Some w) e under = fit h w e

module _ (p : Program) (here : Here) (entry : IsEntry p here.entry) where
  -- what shows of a state stays under a window, since it is of no fresh variable
  pub old_stays : (n : Supply) (window : View) → IsWindow p n window → (v : Valuation) (state : State) (h : Head) (w : Value) → both here.entry (now_view p here.routine state) h ≡ Some w → within window v h ≡ v h
  old_stays n window is v state h w e = by_value (window h) refl
    where
      by_value : (o : Option Value) → window h ≡ o → unwrap_or o (v h) ≡ v h
      by_value None none = refl
      by_value (Some u) there = absurd (false≢true (sym (state_old p here entry state h w e) ∙ is.fresh h u there))

  pub shows_wider : (n : Supply) (window wider : View) → IsWindow p n wider → (v : Valuation) (state : State) → Shows (shown p here window state) v → Shows (shown p here wider state) (within wider v)
  shows_wider n window wider is v state shows h w e = by_part (parts (both here.entry (now_view p here.routine state) h) (wider h) w e)
    where
      by_part : Part (both here.entry (now_view p here.routine state) h) (wider h) w → within wider v h ≡ w
      by_part (First there) = old_stays n wider is v state h w there ∙ shows h w (in_first _ (window h) w there)
      by_part (Second none there) = within-there wider v h w there

  -- a list that ignores what the window adds is true without it
  pub narrow : (world : Meaning) (n m : Supply) (window wider : View) → IsWindow p n window → IsWindow p m wider → ((h : Head) → is_new n h ≡ false → wider h ≡ window h) → (conditions : List Condition) → Ignores p world n conditions → (state : State) → IsTrueFor p world (shown p here wider state) conditions → IsTrueFor p world (shown p here window state) conditions
  narrow world n m window wider small large adds conditions ignores state is v val shows =
      let w = within wider v in
      let same : (h : Head) → is_new n h ≡ false → v h ≡ w h = λ h old. by_value h (window h) refl (adds h old) in
      ignores.alike v w (λ h variable old. same h old) ∙ is w (laid_over p wider large.fit v val) (shows_wider m window wider large v state shows)
    where
      hidden : (h : Head) (u : Value) → window h ≡ Some u → both here.entry (now_view p here.routine state) h ≡ None
      hidden h u there = by_shown (both here.entry (now_view p here.routine state) h) refl
        where
          by_shown : (o : Option Value) → both here.entry (now_view p here.routine state) h ≡ o → o ≡ None
          by_shown None e = refl
          by_shown (Some w) e = absurd (false≢true (sym (state_old p here entry state h w e) ∙ small.fresh h u there))

      by_value : (h : Head) (o : Option Value) → window h ≡ o → wider h ≡ window h → v h ≡ within wider v h
      by_value h None none adds = sym (within-none wider v h (adds ∙ none))
      by_value h (Some u) there adds =
          shows h u (ap (λ o. shown_or o (window h)) (hidden h u there) ∙ there) ∙ sym (within-there wider v h u (adds ∙ there))
