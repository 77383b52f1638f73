-- Assignments are right.
use Rattle.std.proofs.Common.{◌≡◌, ℕ, zero, suc, Bool, true, false, cond, not, ◌&&◌, ◌||◌, List, [], ◌∷◌, ◌++◌, map, refl, sym, ap, subst, ◌∙◌, Option, Some, None}
use Rattle.std.specs.Option.{unwrap_or}
use Rattle.std.specs.Cmp.Derive.{both_true}
use Rattle.std.proofs.lemmas.Bool.{false≢true}
use Rattle.spv_logic.proofs.list.Tests.{right_true}
use Rattle.spv_logic.specs.declared.types.TypeId.{TypeId}
use Rattle.spv_logic.specs.declared.types.Sort.{Sort}
use Rattle.spv_logic.specs.declared.operators.Head.{Head}
use Rattle.spv_logic.specs.Values.{Value}
use Rattle.spv_logic.specs.Terms.{Term, head_eq, eval}
use Rattle.spv_logic.specs.Fits.{fits}
use Rattle.spv_logic.specs.Substitution.{value_under, under}
use Rattle.spv_logic.specs.Conditions.{Meaning, Valuation, View, Shows, both, shown_or}
use Rattle.spv_logic.proofs.Equality.{head_eq-true}
use Rattle.spv_program.specs.Types.{sort_of, takes_value}
use Rattle.spv_program.specs.Expressions.{Expression, Designator}
use Rattle.spv_program.specs.Statements.{Assign}
use Rattle.spv_program.specs.Programs.{Routine, Program, shapes, routine_in}
use Rattle.spv_program.specs.Scopes.{is_own}
use Rattle.spv_program.specs.Uses.{Root, expression_uses, designator_uses, expression_calls, designator_calls}
use Rattle.spv_program.specs.Frames.{root_of, arguments_apart}
use Rattle.spv_program.specs.Changes.{changed_roots}
use Rattle.spv_program.specs.ExpressionTypes.{may_write, sort_of_type, expression_sort, designator_type}
use Rattle.spv_program.specs.Places.{Step, Target, base, present, changed_part, in_root, whole_with}
use Rattle.spv_program.specs.Calls.{replacing}
use Rattle.spv_program.specs.ExpressionTerms.{valued, placed}
use Rattle.spv_program.specs.Typing.{statement_ok}
use Rattle.spv_program.proofs.ExpressionSorting.{mapped}
use Rattle.spv_meaning.specs.declared.faults.Fault.TheVariants as fault
use Rattle.spv_meaning.specs.Places.{PathStep, Place, State, CellOf, look, put}
use Rattle.spv_meaning.specs.Views.{now_view}
use Rattle.spv_meaning.specs.Outcomes.{Ended}
use Rattle.spv_meaning.specs.Levels.{Here}
use Rattle.spv_meaning.specs.Evaluation.{Got, Fixed, fix, evaluate}
use Rattle.spv_meaning.specs.Walks.{walk, assign}
use Rattle.spv_meaning.specs.FrameTypes.{place_sort}
use Rattle.spv_meaning.specs.Starts.{IsStart, At, CellsOf, same_root, overlap}
use Rattle.spv_meaning.specs.Correct.{CorrectBelow}
use Rattle.spv_meaning.specs.Before.{Made, before_calls, replaced}
use Rattle.spv_meaning.proofs.AssignedPrograms.{same_sorts}
use Rattle.spv_preservation.specs.facts.Places.{IsPlace}
use Rattle.spv_preservation.proofs.facts.Places.{put_found}
use Rattle.spv_preservation.proofs.Roots.{place_there}
use Rattle.spv_preservation.proofs.Frames.{leaves_now}
use Rattle.spv_preservation.proofs.Calls.{FixedRight}
use Rattle.spv_preservation.proofs.Expressions.{evaluates, fixes}
use Rattle.spv_rule_soundness.specs.evaluation.Laws.{uses_seen}
use Rattle.spv_rule_soundness.specs.statements.Truth.{is_new, IsWindow, IsEntry, meaning_in, shown, IsTrueFor, Ignores}
use Rattle.spv_rule_soundness.specs.statements.Runs.{all_allowed, Reaches, may_change, EndsWell, IsRight}
use Rattle.spv_rule_soundness.specs.statements.Laws.{below}
use Rattle.spv_rule_soundness.proofs.evaluation.Settings.{forms_right}
use Rattle.spv_rule_soundness.proofs.evaluation.Values.{seen_left, seen_right}
use Rattle.spv_rule_soundness.proofs.statements.Lists.{not_new, follow-replaced}
use Rattle.spv_rule_soundness.proofs.statements.Views.{in_first, within}
use Rattle.spv_rule_soundness.proofs.statements.States.{at_state-valuation, at_state-shows, same_shown}
use Rattle.spv_rule_soundness.proofs.statements.Reaching.{reach_then}
use Rattle.spv_writes.specs.Writes.{Writes, part_of, is_below, is_in, is_in_one}
use Rattle.spv_writes.proofs.Lists.{all_left, all_right, any_left, or_left}
use Rattle.spv_writes.proofs.Places.{root_itself, below_itself}
use Rattle.spv_writes.proofs.Kept.{one_put}
use Rattle.spv_frame_law.specs.Frames.{root_areas, areas_of, call_shown}
use Rattle.spv_frame_law.specs.Laws.{IsFramed, below_turns}
use Rattle.spv_frame_law.proofs.Levels.{below_keeps, place_fixed}
use Rattle.spv_frame_law.proofs.Records.{changes_itself, is_among, use_kept}
use Rattle.spv_frame_law.proofs.Starts.{start_stays}
use Rattle.spv_frame_law.proofs.Uses.{written_root}
use Rattle.spv_call_evaluation.specs.Known.{Knows, Widely, IsWorth}
use Rattle.spv_call_evaluation.specs.Lying.{step_at, BeginsAt, IsFixedAt}
use Rattle.spv_call_evaluation.specs.Functions.{calls_shown}
use Rattle.spv_call_evaluation.specs.Laws.{IsReady}
use Rattle.spv_call_evaluation.proofs.Windows.{reach_with, knows_shown, narrower, first_calls, behind_them, checked}
use Rattle.spv_call_evaluation.proofs.Evaluating.{evaluated, fixed_at}
use Rattle.spv_call_evaluation.proofs.Functions.{functions_give}
use Rattle.spv_program_soundness.proofs.Roots.{IsRootOf, root_is}
use Rattle.spv_program_soundness.proofs.Kept.{root_kept}
use Rattle.spv_program_soundness.proofs.Staying.{NoRoots, OneRoot, else_stays}
use Rattle.spv_program_soundness.proofs.Written.{OnlyThere, root_after}

pub below_same : (p : Program) (turns : ℕ) → below p turns ≡ below_turns p turns
below_same p zero = refl
below_same p (suc n) = refl

-- ---- a put, and what shows

module _ (p : Program) (f : IsFramed p) (here : Here) (state : State) (start : IsStart p here.routine state) (root : Root) (h : Head) (is_root : IsRootOf p (routine_in p here.routine) root h) (a : Place) (s : Sort) (w : Value) (place : IsPlace (shapes p) state a s) (fit : fits (shapes p) w s ≡ true) (inside : is_in_one state.heap (root_areas state.frames root) a ≡ true) where
  abbrev r : Option Routine
  r = routine_in p here.routine

  writes : Writes p (areas_of state.frames (root ∷ [])) state (put state a w)
  writes = one_put p (areas_of state.frames (root ∷ [])) state a s w place fit (any_left (is_in state.heap a) (root_areas state.frames root) [] inside)

  pub after_start : IsStart p here.routine (put state a w)
  after_start = start_stays p here.routine state start (areas_of state.frames (root ∷ [])) (put state a w) writes

  -- all else shows what it did
  pub same_else : (k : Head) → head_eq k h ≡ false → now_view p here.routine (put state a w) k ≡ now_view p here.routine state k
  same_else k other = else_stays p here state start (root ∷ []) (h ∷ []) (OneRoot root h is_root [] [] NoRoots) (put state a w) writes k (ap (λ b. b || false) other)

  -- ---- the root

  module _ (world : Meaning) (window : View) (u : Valuation) (knows : Knows p (meaning_in p world) here state window u) (shows : Shows (now_view p here.routine state) u) (t : Term) (worth : eval (meaning_in p world) u t ≡ w) where
    -- the place alone is written
    only_there : (k : Head) (beginning : Place) (path : List PathStep) → a ≡ part_of beginning path → OnlyThere state.heap (At a ∷ []) k beginning path
    only_there k beginning path is = record {
      below = either (overlap state.heap (At a) (At beginning)) (ap (is_below a) (sym is) ∙ below_itself a);
      cell = λ c cell class there. either (overlap state.heap (At a) (CellsOf c)) (both_true (ap (λ (b : Place). same_root (CellOf cell) b.root) is ∙ (ap (λ (b : Place). same_root (CellOf cell) b.root) there ∙ root_itself (CellOf cell))) refl);
    }
      where
        either : (b : Bool) → {c : Bool} → c ≡ true → ((not b || c) && true) ≡ true
        either true h = ap (λ c. c && true) h
        either false h = refl

    pub root_at : (k : Head) (pointer : Option Term) (path : List Step) (beginning : Place) → BeginsAt p (meaning_in p world) u here state k pointer beginning → a ≡ part_of beginning (map (step_at (meaning_in p world) u) path) → (y : Value) → look state a ≡ Some y
        → now_view p here.routine (put state a w) k ≡ Some (eval (meaning_in p world) u (in_root k pointer (changed_part (base k pointer) path t)))
    root_at k pointer path beginning begins is y holds =
        let areas = At a ∷ [] in
        let wrote = one_put p areas state a s w place fit (or_left _ false (below_itself a)) in
        root_after p f here state start areas (put state a w) wrote a s place w (put_found (shapes p) state a s place w) world window u knows shows t worth k pointer path beginning begins is (only_there k beginning (map (step_at (meaning_in p world) u) path) is) y holds

-- ---- assignments

module _ (p : Program) (f : IsFramed p) (world : Meaning) (here : Here) (entry : IsEntry p here.entry) (d : Designator) (e : Expression) (ok : statement_ok p (routine_in p here.routine) (Assign d e) ≡ true)
    (calls : calls_shown p (routine_in p here.routine) (designator_calls d ++ expression_calls e) ≡ true) (uses : uses_seen (routine_in p here.routine) (designator_uses (is_own (routine_in p here.routine)) true d ++ expression_uses (is_own (routine_in p here.routine)) e) ≡ true)
    (turns : ℕ) (correct : CorrectBelow p world turns) where
  abbrev r' : Option Routine
  r' = routine_in p here.routine

  -- the type of the place, and the sort of both sides
  record Sides : Type 0 where
    type : TypeId
    is : designator_type p (routine_in p here.routine) d ≡ Some type
    value : expression_sort p (routine_in p here.routine) e ≡ Some (sort_of p.forms type)

  both_sides : Sides
  both_sides =
      let sorts = same_sorts (sort_of_type p (designator_type p (routine_in p here.routine) d)) (expression_sort p (routine_in p here.routine) e) (right_true (may_write (routine_in p here.routine) d) _ ok) in
      let t = mapped (sort_of p.forms) (designator_type p (routine_in p here.routine) d) sorts.common sorts.left in
      record { type = t.item; is = t.is; value = sorts.right ∙ sym t.gives }

  place_uses : uses_seen (routine_in p here.routine) (designator_uses (is_own (routine_in p here.routine)) true d) ≡ true
  place_uses = seen_left (routine_in p here.routine) (designator_uses (is_own (routine_in p here.routine)) true d) _ uses

  value_uses : uses_seen (routine_in p here.routine) (expression_uses (is_own (routine_in p here.routine)) e) ≡ true
  value_uses = seen_right (routine_in p here.routine) (designator_uses (is_own (routine_in p here.routine)) true d) _ uses

  place_calls : calls_shown p (routine_in p here.routine) (designator_calls d) ≡ true
  place_calls = all_left (λ c. arguments_apart p (routine_in p here.routine) c && call_shown p (routine_in p here.routine) c) (designator_calls d) (expression_calls e) calls

  value_calls : calls_shown p (routine_in p here.routine) (expression_calls e) ≡ true
  value_calls = all_right (λ c. arguments_apart p (routine_in p here.routine) c && call_shown p (routine_in p here.routine) c) (designator_calls d) (expression_calls e) calls

  module _ (q : Made) (ignores : Ignores p world q.supply q.conditions) (window : View) (is : IsWindow p q.supply window) (state : State) (start : IsStart p here.routine state) where
    ready : IsReady p world here (below p turns) state
    ready = record { typed = f.typed; entry = entry; start = start; functions = functions_give p f world here entry turns correct state start }

    -- the root is among what may change
    root_changes : may_change p here (Assign d e) (placed p (routine_in p here.routine) q.supply d).target.root ≡ true
    root_changes =
        let k = both_sides in
        let roots = changed_roots p (routine_in p here.routine) (Assign d e) in
        let own = is_own (routine_in p here.routine) in
        root_kept p f.typed (routine_in p here.routine) (is_among roots) (root_of own d) (placed p (routine_in p here.routine) q.supply d).target.root (root_is p f.typed (routine_in p here.routine) d k.type k.is true place_uses q.supply)
        (written_root (is_among roots) own d (all_left (use_kept (is_among roots)) (designator_uses own true d) (expression_uses own e) (changes_itself p (routine_in p here.routine) (Assign d e)).uses))

    module _ (choices : List Value) (fixed : Fixed) (fix_ended : (fix p (below p turns) here d state choices).end ≡ Ended fixed)
        (at : Widely p world here state q.supply (placed p (routine_in p here.routine) q.supply d).supply window (before_calls here.routine (valued p (routine_in p here.routine) (placed p (routine_in p here.routine) q.supply d).supply e).calls (replaced (((placed p (routine_in p here.routine) q.supply d).target.root, whole_with (placed p (routine_in p here.routine) q.supply d).target (valued p (routine_in p here.routine) (placed p (routine_in p here.routine) q.supply d).supply e).term) ∷ []) q.conditions)) Fixed (IsFixedAt p (meaning_in p world) here state (placed p (routine_in p here.routine) q.supply d).target both_sides.type) fixed)
        (rest : List Value) (got : Got) (value_ended : (evaluate p (below p turns) here e fixed.state rest).end ≡ Ended got)
        (gave : Widely p world here state (placed p (routine_in p here.routine) q.supply d).supply (valued p (routine_in p here.routine) (placed p (routine_in p here.routine) q.supply d).supply e).supply at.wider (replaced (((placed p (routine_in p here.routine) q.supply d).target.root, whole_with (placed p (routine_in p here.routine) q.supply d).target (valued p (routine_in p here.routine) (placed p (routine_in p here.routine) q.supply d).supply e).term) ∷ []) q.conditions) Got (IsWorth p (meaning_in p world) here state (valued p (routine_in p here.routine) (placed p (routine_in p here.routine) q.supply d).supply e).term) got) where
      t : TypeId
      t = both_sides.type

      target : Target
      target = (placed p (routine_in p here.routine) q.supply d).target

      fixed_right : FixedRight p start.right.types state.heap both_sides.type fixed
      fixed_right =
          (fixes p f.typed (below_turns p turns) (below_keeps p f.typed turns) here start.right.types start.right.inside d both_sides.type both_sides.is state.heap state (leaves_now p start.right.types state start.right.right) choices).holds fixed
          (subst (λ b. (fix p b here d state choices).end ≡ Ended fixed) (below_same p turns) fix_ended)

      place : IsPlace (shapes p) state fixed.place (sort_of p.forms both_sides.type)
      place =
          place_there p start.right.types state start.right.right fixed.place (sort_of p.forms both_sides.type)
          (ap (λ (x : State). place_sort p start.right.types x.heap fixed.place) (sym at.passes.state_is) ∙ fixed_right.place)

      inside : is_in_one state.heap (root_areas state.frames (root_of (is_own (routine_in p here.routine)) d)) fixed.place ≡ true
      inside =
          (place_fixed p f here start.right.types start.right.inside d both_sides.type both_sides.is state start.right.right turns choices fixed
          (subst (λ b. (fix p b here d state choices).end ≡ Ended fixed) (below_same p turns) fix_ended)).inside

      fit : fits (shapes p) got.value (sort_of p.forms both_sides.type) ≡ true
      fit =
          ((evaluates p f.typed (below_turns p turns) (below_keeps p f.typed turns) here start.right.types start.right.inside e (sort_of p.forms both_sides.type) both_sides.value state.heap fixed.state fixed_right.leaves rest).holds got
          (subst (λ b. (evaluate p b here e fixed.state rest).end ≡ Ended got) (below_same p turns) value_ended)).fit

      is_root : IsRootOf p (routine_in p here.routine) (root_of (is_own (routine_in p here.routine)) d) (placed p (routine_in p here.routine) q.supply d).target.root
      is_root = root_is p f.typed (routine_in p here.routine) d both_sides.type both_sides.is true place_uses q.supply

      else_same : (k : Head) → head_eq k (placed p (routine_in p here.routine) q.supply d).target.root ≡ false → now_view p here.routine (put state fixed.place got.value) k ≡ now_view p here.routine state k
      else_same k other =
          same_else p f here state start (root_of (is_own (routine_in p here.routine)) d) (placed p (routine_in p here.routine) q.supply d).target.root is_root fixed.place (sort_of p.forms both_sides.type) got.value place fit inside k other

      ended_true : IsTrueFor p world (shown p here window (put state fixed.place got.value)) q.conditions
      ended_true v val shows =
          let target = (placed p (routine_in p here.routine) q.supply d).target in
          let value = valued p (routine_in p here.routine) (placed p (routine_in p here.routine) q.supply d).supply e in
          let pairs = (target.root, whole_with target value.term) ∷ [] in
          let m = meaning_in p world in
          let ok_forms = forms_right p f.typed in
          let window2 = gave.wider in
          let is2 = gave.widens.is_window in
          let u = within (shown p here window2 state) v in
          let u_val = at_state-valuation p ok_forms world here entry value.supply window2 is2 state start v val in
          let u_shows = at_state-shows p ok_forms world here entry value.supply window2 is2 state v in
          let knows = knows_shown p f.typed world here entry value.supply window2 is2 state start u u_val u_shows in
          let lies = at.passes.lies u (narrower p m here state at.wider window2 gave.widens.keeps u knows) in
          let shows_now : Shows (now_view p here.routine state) u = λ k w e. u_shows k w (in_first _ (window2 k) w (in_first _ (here.entry k) w e)) in
          let root_now = root_at p f here state start (root_of (is_own (routine_in p here.routine)) d) target.root is_root fixed.place (sort_of p.forms both_sides.type) got.value place fit inside world window2 u knows shows_now value.term (gave.passes.worth u knows) target.root target.pointer target.path lies.beginning lies.begins (λ i. record { root = lies.root i; path = lies.path i }) (eval m u (present target)) lies.holds in
          ignores.alike v (under m (replacing pairs) u) (λ k variable old. by_head k old (head_eq k target.root) refl root_now)
          ∙ (sym (follow-replaced m u pairs q.conditions) ∙ gave.widens.true_there u u_val u_shows)
        where
          whole_term : Term
          whole_term = whole_with (placed p (routine_in p here.routine) q.supply d).target (valued p (routine_in p here.routine) (placed p (routine_in p here.routine) q.supply d).supply e).term

          by_head : (k : Head) → is_new q.supply k ≡ false → (b : Bool) → head_eq k (placed p (routine_in p here.routine) q.supply d).target.root ≡ b
              → now_view p here.routine (put state fixed.place got.value) (placed p (routine_in p here.routine) q.supply d).target.root ≡ Some (eval (meaning_in p world) (within (shown p here gave.wider state) v) whole_term)
              → v k ≡ value_under (meaning_in p world) (within (shown p here gave.wider state) v) (cond b (Some whole_term) None) (within (shown p here gave.wider state) v k)
          by_head k old true same root_now =
              let root = (placed p (routine_in p here.routine) q.supply d).target.root in
              ap v (head_eq-true k root same)
              ∙ shows root (eval (meaning_in p world) (within (shown p here gave.wider state) v) whole_term) (in_first _ (window root) _ (in_first _ (here.entry root) _ root_now))
          by_head k old false other root_now =
              let added : gave.wider k ≡ window k = gave.widens.adds k (not_new q.supply (placed p (routine_in p here.routine) q.supply d).supply k at.widens.later old) ∙ at.widens.adds k old in
              sym (ap (λ o. unwrap_or (shown_or (both here.entry (now_view p here.routine state) k) o) (v k)) added
              ∙ same_shown p (forms_right p f.typed) world here entry q.supply window is state (put state fixed.place got.value) v k (else_same k other) shows)

      ends_well : EndsWell p world here window (may_change p here (Assign d e)) q.conditions state (put state fixed.place got.value)
      ends_well = record {
        is_start = after_start p f here state start (root_of (is_own (routine_in p here.routine)) d) (placed p (routine_in p here.routine) q.supply d).target.root is_root fixed.place (sort_of p.forms both_sides.type) got.value place fit inside;
        true_there = ended_true;
        same = λ k leaves. by_head k leaves (head_eq k (placed p (routine_in p here.routine) q.supply d).target.root) refl;
      }
        where
          by_head : (k : Head) → may_change p here (Assign d e) k ≡ false → (b : Bool) → head_eq k (placed p (routine_in p here.routine) q.supply d).target.root ≡ b → now_view p here.routine (put state fixed.place got.value) k ≡ now_view p here.routine state k
          by_head k leaves true same = absurd (false≢true (sym leaves ∙ (ap (may_change p here (Assign d e)) (head_eq-true k _ same) ∙ root_changes)))
          by_head k leaves false other = else_same k other

  pub assign_right : IsRight p world all_allowed here (Assign d e) (walk p (below p turns) here (Assign d e))
  assign_right q ignores window is state start from choices =
      let place = placed p (routine_in p here.routine) q.supply d in
      let value = valued p (routine_in p here.routine) place.supply e in
      let wanted = replaced ((place.target.root, whole_with place.target value.term) ∷ []) q.conditions in
      let k = both_sides in
      reach_then p world all_allowed _ _ (fix p (below p turns) here d state choices) _
      (reach_with p world _ (fix p (below p turns) here d state choices)
      (fixed_at p world here (below p turns) state (ready q ignores window is state start) d k.type k.is place_calls true place_uses q.supply window (before_calls here.routine value.calls wanted) (first_calls p world here state q.supply window place.calls value.calls wanted (record { is_window = is; true_there = from })) state refl choices))
      (λ fixed given rest.
      let at = given.passes in
      reach_then p world all_allowed _ _ (evaluate p (below p turns) here e fixed.state rest) _
      (reach_with p world _ (evaluate p (below p turns) here e fixed.state rest)
      (evaluated p world here (below p turns) state (ready q ignores window is state start) e (sort_of p.forms k.type) k.value value_calls value_uses place.supply at.wider wanted (behind_them p world here state q.supply place.supply window at.wider value.calls wanted at.widens) fixed.state at.passes.state_is rest))
      (λ got gave last.
      subst (λ (s : State). Reaches p world all_allowed State (EndsWell p world here window (may_change p here (Assign d e)) q.conditions state) (assign p fixed got.value s last)) (sym gave.passes.passes.state_is)
      (checked p world _ (takes_value p.forms fixed.type got.value) fault.Range (put state fixed.place got.value) last
      (λ passes. ends_well q ignores window is state start choices fixed given.ended at rest got gave.ended gave.passes))))
