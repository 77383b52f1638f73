-- FOR, by induction on its turns.
use Rattle.std.proofs.Common.{◌≡◌, ℕ, Bool, true, false, cond, not, ◌&&◌, ◌||◌, List, [], ◌∷◌, ℤ, refl, sym, ap, subst, ◌∙◌, Option, Some, None}
use Rattle.std.proofs.lemmas.Bool.{false≢true}
use Rattle.spv_logic.specs.declared.conditions.Kind.{Kind}
use Rattle.spv_logic.specs.declared.conditions.Kind.TheVariants as kind
use Rattle.spv_logic.specs.declared.types.Sort.TheVariants as sort
use Rattle.spv_logic.specs.declared.operators.Head.{Head}
use Rattle.spv_logic.specs.Values.{Value, Number, Truth, Pointer, ArrayOf, RecordOf, ClassOf, AtomOf, PairOf, number_of, truth_of}
use Rattle.spv_logic.specs.Terms.{Term, head_eq, eval}
use Rattle.spv_logic.specs.Shapes.{shapes_ok}
use Rattle.spv_logic.specs.Fits.{fits}
use Rattle.spv_logic.specs.Substitution.{value_under, under}
use Rattle.spv_logic.specs.Conditions.{Meaning, Valuation, IsValuation, View, Shows}
use Rattle.spv_logic.proofs.Equality.{head_eq-true}
use Rattle.spv_logic.proofs.Substitution.{eval-substitute, eval-same}
use Rattle.spv_program.specs.Formulas.{Annotation}
use Rattle.spv_program.specs.Statements.{Counting, Statement, For}
use Rattle.spv_program.specs.Programs.{Program, shapes, routine_in}
use Rattle.spv_program.specs.Supplies.{Supply}
use Rattle.spv_program.specs.Terms.{alone, body_term}
use Rattle.spv_program.specs.Calls.{replacing}
use Rattle.spv_meaning.specs.declared.faults.Fault.TheVariants as fault
use Rattle.spv_meaning.specs.Places.{State, put}
use Rattle.spv_meaning.specs.Views.{place_of, now_view}
use Rattle.spv_meaning.specs.Outcomes.{ends, stops, stops_unless, and_then, take_choice}
use Rattle.spv_meaning.specs.Levels.{Here, Run, Level}
use Rattle.spv_meaning.specs.Walks.{is_past, next_candidate, reaches, count_on, counter_takes}
use Rattle.spv_meaning.specs.Starts.{IsStart}
use Rattle.spv_meaning.specs.Before.{Made, replaced, wanted_if_there, wanted_with, standing_for, next_term, within_term, past_term}
use Rattle.spv_rule_soundness.specs.statements.Truth.{IsLater, IsWindow, IsEntry, meaning_in, all_follow, shown, IsTrueFor, Ignores}
use Rattle.spv_rule_soundness.specs.statements.Runs.{Allowed, Reaches, EndsWell, IsRight, IsSupplied, may_change}
use Rattle.spv_rule_soundness.specs.statements.Parts.{Passing, parts_pass}
use Rattle.spv_rule_soundness.specs.statements.Laws.{Counts, PartsAreRight}
use Rattle.spv_rule_soundness.proofs.statements.Lists.{later_after, ignores_later}
use Rattle.spv_rule_soundness.proofs.statements.Views.{in_first, within}
use Rattle.spv_rule_soundness.proofs.statements.States.{at_state-valuation, at_state-shows, same_shown}
use Rattle.spv_rule_soundness.proofs.statements.Annotations.{wanted_with_ignores}
use Rattle.spv_rule_soundness.proofs.statements.Supplied.{next_ignores, counter_ignores, supplied}
use Rattle.spv_rule_soundness.proofs.statements.Changing.{part_of_for}
use Rattle.spv_rule_soundness.proofs.statements.Reaching.{reach_then, reach_ends, reach_stops, reach_going, reach_unless}
use Rattle.spv_rule_soundness.proofs.statements.Control.{choose, truth_not, window_later, reach_invariant}
use Rattle.spv_rule_soundness.proofs.statements.Counting.{counter, turn_of, fresh_of, last_of, under_invariant, candidate, instance, past-holds, within-holds, next-is, under_known, counter_now, turn_true, exit_true}

-- a choice of a number is a number
pub number_fits : (p : Program) (v : Value) → fits (shapes p) v sort.Int ≡ true → v ≡ Number (number_of v)
number_fits p (Number z) h = refl
number_fits p (Truth b) h = absurd (false≢true h)
number_fits p (Pointer q) h = absurd (false≢true h)
number_fits p (ArrayOf d rows) h = absurd (false≢true h)
number_fits p (RecordOf rows) h = absurd (false≢true h)
number_fits p (ClassOf cells d rows) h = absurd (false≢true h)
number_fits p (AtomOf z) h = absurd (false≢true h)
number_fits p (PairOf a b) h = absurd (false≢true h)

reach_number : (p : Program) (world : Meaning) (allowed : Allowed) → allowed.fault fault.Choice ≡ true → (choices : List Value) → Reaches p world allowed Value (λ v. v ≡ Number (number_of v)) (take_choice (shapes p) sort.Int choices)
reach_number p world allowed may [] = reach_stops p world allowed _ fault.Choice [] may
reach_number p world allowed may (v ∷ rest) = by_case (fits (shapes p) v sort.Int) refl
  where
    by_case : (b : Bool) → fits (shapes p) v sort.Int ≡ b → Reaches p world allowed Value (λ v. v ≡ Number (number_of v)) (cond b (ends v rest) (stops fault.Choice (v ∷ rest)))
    by_case true h = reach_ends p world allowed _ v rest (number_fits p v h)
    by_case false h = reach_stops p world allowed _ fault.Choice (v ∷ rest) may

module _ (p : Program) (world : Meaning) (allowed : Allowed) (ok : shapes_ok (shapes p) ≡ true) (here : Here) (entry : IsEntry p here.entry) (passing : Passing) (right : PartsAreRight p world allowed here passing) (line : ℕ) (f : Option Annotation) (count : Counting) (s : Statement) (counted : passing.count count s ≡ true) where
  -- a wanted formula with a term for the counter is the formula where the counter has the term's value
  pub with_counter : (k : Kind) (window : View) (n : Supply) (is : IsWindow p n window) (t : Term) (c : ℤ) (state : State) → IsStart p here.routine state
      → ((v : Valuation) → IsValuation (shapes p) v → Shows (shown p here window state) v → eval (meaning_in p world) v t ≡ Number c)
      → IsTrueFor p world (shown p here window state) (wanted_with p here.routine k (counter p here count) t f)
      → IsTrueFor p world (shown p here window (candidate here state count c)) (wanted_if_there p here.routine kind.Invariant f)
  with_counter k window n is t c state start worth true_there v val shows = by_annotation f true_there
    where
      counts : Counts p here count.variable state c
      counts = right.counts count s counted state start c

      by_annotation : (g : Option Annotation) → IsTrueFor p world (shown p here window state) (wanted_with p here.routine k (counter p here count) t g) → all_follow (meaning_in p world) v (wanted_if_there p here.routine kind.Invariant g) ≡ true
      by_annotation None known = refl
      by_annotation (Some a) known =
          let x = counter p here count in
          let base = within (shown p here window state) v in
          let val_base = at_state-valuation p ok world here entry n window is state start v val in
          let shows_base = at_state-shows p ok world here entry n window is state v in
          let formula = body_term p (routine_in p here.routine) a in
          ap (λ w. (not true || truth_of w) && true)
          (eval-same (meaning_in p world) v (under (meaning_in p world) (replacing ((x, t) ∷ [])) base) formula (λ h variable. by_head h (head_eq h x) refl (worth base val_base shows_base))
          ∙ sym (eval-substitute (meaning_in p world) (replacing ((x, t) ∷ [])) base formula))
          ∙ known base val_base shows_base
        where
          by_head : (h : Head) (b : Bool) → head_eq h (counter p here count) ≡ b → eval (meaning_in p world) (within (shown p here window state) v) t ≡ Number c → v h ≡ value_under (meaning_in p world) (within (shown p here window state) v) (cond b (Some t) None) (within (shown p here window state) v h)
          by_head h true e is_c =
              ap v (head_eq-true h (counter p here count) e)
              ∙ (shows (counter p here count) (Number c) (in_first _ (window (counter p here count)) (Number c) (in_first _ (here.entry (counter p here count)) (Number c) counts.shows)) ∙ sym is_c)
          by_head h false e is_c = sym (same_shown p ok world here entry n window is state (candidate here state count c) v h (counts.same h e) shows)

  -- ---- the lists of the loop, true in its first state, with the end's value

  module _ (q : Made) (ignores : Ignores p world q.supply q.conditions) (n : Supply) (to_n : IsLater q.supply n) (pass_s : parts_pass passing s ≡ true) (window : View) (is : IsWindow p n window) (first_state : State) (begun : IsStart p here.routine first_state) (end : Term) (e : ℤ)
      (end_is : (v : Valuation) → IsValuation (shapes p) v → Shows (shown p here window first_state) v → number_of (eval (meaning_in p world) v end) ≡ e)
      (turn_list : IsTrueFor p world (shown p here window first_state) (under_invariant p here f (fresh_of p here (For line f count s) (turn_of p here f count s n).supply).pairs (within_term count.direction (standing_for (fresh_of p here (For line f count s) (turn_of p here f count s n).supply).pairs (counter p here count)) end) (replaced (fresh_of p here (For line f count s) (turn_of p here f count s n).supply).pairs (turn_of p here f count s n).conditions)))
      (exit_list : IsTrueFor p world (shown p here window first_state) (under_invariant p here f (fresh_of p here (For line f count s) (turn_of p here f count s n).supply).pairs (past_term count.direction (standing_for (fresh_of p here (For line f count s) (turn_of p here f count s n).supply).pairs (counter p here count)) end) (replaced (fresh_of p here (For line f count s) (turn_of p here f count s n).supply).pairs (replaced ((counter p here count, alone (last_of p here count (For line f count s) (turn_of p here f count s n).supply).head) ∷ []) q.conditions)))) where
    again_ignores : Ignores p world n (wanted_with p here.routine kind.Preserved (counter p here count) (next_term count.direction (alone (counter p here count))) f)
    again_ignores =
        wanted_with_ignores p world n here.routine kind.Preserved (counter p here count) (next_term count.direction (alone (counter p here count))) (next_ignores p world n count.direction (alone (counter p here count)) (counter_ignores p world n (routine_in p here.routine) count.variable)) f

    in_body : IsSupplied p world here s (record { conditions = wanted_with p here.routine kind.Preserved (counter p here count) (next_term count.direction (alone (counter p here count))) f; supply = n })
    in_body = supplied p world allowed here passing right s pass_s (record { conditions = wanted_with p here.routine kind.Preserved (counter p here count) (next_term count.direction (alone (counter p here count))) f; supply = n }) again_ignores

    is_turn : IsWindow p (turn_of p here f count s n).supply window
    is_turn = window_later p n (turn_of p here f count s n).supply window in_body.later is

    there : may_change p here (For line f count s) (counter p here count) ≡ true
    there = right.counted line f count s counted

    away_differs : (h : Head) → may_change p here (For line f count s) h ≡ false → head_eq h (counter p here count) ≡ false
    away_differs h away = by_case (head_eq h (counter p here count)) refl
      where
        by_case : (b : Bool) → head_eq h (counter p here count) ≡ b → b ≡ false
        by_case true is = absurd (false≢true (sym away ∙ (ap (may_change p here (For line f count s)) (head_eq-true h (counter p here count) is) ∙ there)))
        by_case false is = refl

    -- a FOR goes on from a candidate
    abbrev pub GoesOn : (ℤ → Run) → Type 0
    GoesOn run = (c : ℤ) (state : State) → IsStart p here.routine state → ((h : Head) → may_change p here (For line f count s) h ≡ false → now_view p here.routine state h ≡ now_view p here.routine first_state h)
        → IsTrueFor p world (shown p here window (candidate here state count c)) (wanted_if_there p here.routine kind.Invariant f) → (choices : List Value)
        → Reaches p world allowed State (EndsWell p world here window (may_change p here (For line f count s)) q.conditions first_state) (run c state choices)

    -- past the end the counter takes any value
    finished : (c : ℤ) (state : State) → IsStart p here.routine state → ((h : Head) → may_change p here (For line f count s) h ≡ false → now_view p here.routine state h ≡ now_view p here.routine first_state h)
        → IsTrueFor p world (shown p here window (candidate here state count c)) (wanted_if_there p here.routine kind.Invariant f) → is_past count.direction e c ≡ true → (z : ℤ) → EndsWell p world here window (may_change p here (For line f count s)) q.conditions first_state (candidate here state count z)
    finished c state start same known past z =
        let w = For line f count s in
        let m = (turn_of p here f count s n).supply in
        let at_c = right.counts count s counted state start c in
        let at_z = right.counts count s counted state start z in
        let same_c : (h : Head) → may_change p here w h ≡ false → now_view p here.routine (candidate here state count c) h ≡ now_view p here.routine first_state h = λ h away. at_c.same h (away_differs h away) ∙ same h away in
        record {
          is_start = at_z.is_start;
          true_there = λ v val shows.
              let i = instance p world ok here entry w count m window is_turn first_state (candidate here state count c) begun at_c.is_start same_c there v val in
              let val_c = at_state-valuation p ok world here entry m window is_turn (candidate here state count c) at_c.is_start v val in
              let now = counter_now p world here f w count m window first_state (candidate here state count c) v i val_c known c at_c.shows in
              exit_true p world here f w count m window first_state (candidate here state count c) v i val_c known q.conditions (ignores_later p world q.supply m q.conditions (later_after q.supply n m to_n in_body.later) ignores) (candidate here state count z) shows
              (λ h other. same_shown p ok world here entry m window is_turn (candidate here state count c) (candidate here state count z) v h (at_z.same h other ∙ sym (at_c.same h other)) shows)
              (under_known p world here f w count m window first_state (candidate here state count c) v i val_c known _ _ (past-holds (meaning_in p world) i.valuation count.direction (standing_for (fresh_of p here w m).pairs (counter p here count)) end c e now (end_is i.valuation i.is_valuation i.shows_first) ∙ past) (exit_list i.valuation i.is_valuation i.shows_first));
          same = λ h away. at_z.same h (away_differs h away) ∙ same h away;
        }

    -- within it the body runs, with the candidate in the counter
    pub within_turn : (c : ℤ) (state : State) → IsStart p here.routine state → ((h : Head) → may_change p here (For line f count s) h ≡ false → now_view p here.routine state h ≡ now_view p here.routine first_state h)
        → IsTrueFor p world (shown p here window (candidate here state count c)) (wanted_if_there p here.routine kind.Invariant f) → is_past count.direction e c ≡ false → IsTrueFor p world (shown p here window (candidate here state count c)) (turn_of p here f count s n).conditions
    within_turn c state start same known past v val shows =
        let w = For line f count s in
        let m = (turn_of p here f count s n).supply in
        let at_c = right.counts count s counted state start c in
        let same_c : (h : Head) → may_change p here w h ≡ false → now_view p here.routine (candidate here state count c) h ≡ now_view p here.routine first_state h = λ h away. at_c.same h (away_differs h away) ∙ same h away in
        let i = instance p world ok here entry w count m window is_turn first_state (candidate here state count c) begun at_c.is_start same_c there v val in
        let val_c = at_state-valuation p ok world here entry m window is_turn (candidate here state count c) at_c.is_start v val in
        let now = counter_now p world here f w count m window first_state (candidate here state count c) v i val_c known c at_c.shows in
        turn_true p world here f w count m window first_state (candidate here state count c) v i val_c known (turn_of p here f count s n).conditions in_body.ignores shows
        (under_known p world here f w count m window first_state (candidate here state count c) v i val_c known _ _ (within-holds (meaning_in p world) i.valuation count.direction (standing_for (fresh_of p here w m).pairs (counter p here count)) end c e now (end_is i.valuation i.is_valuation i.shows_first) ∙ truth_not (is_past count.direction e c) past) (turn_list i.valuation i.is_valuation i.shows_first))

    -- ---- candidates

    pub none_goes_on : GoesOn (count_on p None here (record { invariant = f; count = count; body = s }) e)
    none_goes_on c state start same known choices = reach_going p world allowed _ choices

    turn_goes_on : (level : Level) → IsRight p world allowed here s (level.run here s) → GoesOn (level.next here (record { invariant = f; count = count; body = s }) e) → (c : ℤ) (state : State) → IsStart p here.routine state → ((h : Head) → may_change p here (For line f count s) h ≡ false → now_view p here.routine state h ≡ now_view p here.routine first_state h)
        → IsTrueFor p world (shown p here window (candidate here state count c)) (wanted_if_there p here.routine kind.Invariant f) → is_past count.direction e c ≡ false → (more : List Value)
        → Reaches p world allowed State (EndsWell p world here window (may_change p here (For line f count s)) q.conditions first_state) (and_then (level.run here s (candidate here state count c) more) (λ after last. level.next here (record { invariant = f; count = count; body = s }) e (next_candidate count.direction c) after last))
    turn_goes_on level body next c state start same known past more =
        let at_c = right.counts count s counted state start c in
        reach_then p world allowed _ _ (level.run here s (candidate here state count c) more) _
        (body (record { conditions = wanted_with p here.routine kind.Preserved (counter p here count) (next_term count.direction (alone (counter p here count))) f; supply = n }) again_ignores window is (candidate here state count c) at_c.is_start (within_turn c state start same known past) more)
        (λ after x last.
        let shows_c : now_view p here.routine after (counter p here count) ≡ Some (Number c) = x.same (counter p here count) (right.left_alone count s counted) ∙ at_c.shows in
        next (next_candidate count.direction c) after x.is_start (λ h away. x.same h (part_of_for p here line f count s h away) ∙ (at_c.same h (away_differs h away) ∙ same h away))
        (with_counter kind.Preserved window n is (next_term count.direction (alone (counter p here count))) (next_candidate count.direction c) after x.is_start
        (λ v val shows. next-is (meaning_in p world) v count.direction (counter p here count) c refl (shows (counter p here count) (Number c) (in_first _ (window (counter p here count)) (Number c) (in_first _ (here.entry (counter p here count)) (Number c) shows_c))))
        x.true_there) last)

    pub some_goes_on : (level : Level) → IsRight p world allowed here s (level.run here s) → GoesOn (level.next here (record { invariant = f; count = count; body = s }) e) → GoesOn (count_on p (Some level) here (record { invariant = f; count = count; body = s }) e)
    some_goes_on level body next c state start same known choices =
        let at_c = right.counts count s counted state start c in
        reach_then p world allowed _ _ (reaches p here f (candidate here state count c) state choices) _
        (reach_invariant p world allowed ok here entry passing right State f n window is (candidate here state count c) at_c.is_start known state choices)
        (λ now at rest. subst (λ (x : State). Reaches p world allowed State (EndsWell p world here window (may_change p here (For line f count s)) q.conditions first_state) (cond (is_past count.direction e c) (and_then (take_choice (shapes p) sort.Int rest) (λ v last. ends (put x (place_of here.routine x count.variable) v) last)) (and_then (stops_unless (counter_takes p here (record { invariant = f; count = count; body = s }) c) fault.Range (put x (place_of here.routine x count.variable) (Number c)) rest) (λ set more. and_then (level.run here s set more) (λ after last. level.next here (record { invariant = f; count = count; body = s }) e (next_candidate count.direction c) after last))))) (sym at)
        (choose (Reaches p world allowed State (EndsWell p world here window (may_change p here (For line f count s)) q.conditions first_state)) (is_past count.direction e c) _ _
        (λ past. reach_then p world allowed _ _ (take_choice (shapes p) sort.Int rest) _ (reach_number p world allowed right.faults.no_choice rest)
        (λ v number last. reach_ends p world allowed _ (put state (place_of here.routine state count.variable) v) last
        (subst (λ (u : Value). EndsWell p world here window (may_change p here (For line f count s)) q.conditions first_state (put state (place_of here.routine state count.variable) u)) (sym number) (finished c state start same known past (number_of v)))))
        (λ within. reach_then p world allowed _ _ (stops_unless (counter_takes p here (record { invariant = f; count = count; body = s }) c) fault.Range (candidate here state count c) rest) _
        (reach_unless p world allowed (λ x. x ≡ candidate here state count c) (counter_takes p here (record { invariant = f; count = count; body = s }) c) fault.Range (candidate here state count c) rest right.faults.out_of_range refl)
        (λ set at more. subst (λ (x : State). Reaches p world allowed State (EndsWell p world here window (may_change p here (For line f count s)) q.conditions first_state) (and_then (level.run here s x more) (λ after last. level.next here (record { invariant = f; count = count; body = s }) e (next_candidate count.direction c) after last))) (sym at)
        (turn_goes_on level body next c state start same known within more)))))
