-- The rules of sequences, IF, CASE, WHILE, REPEAT and ASSERT are right where those of their parts are.
use Rattle.std.proofs.Common.{◌≡◌, ℕ, Bool, true, false, cond, not, ◌||◌, List, [], ◌∷◌, ◌++◌, fold, ℤ, refl, sym, ap, subst, ◌∙◌, Option, Some, None, option_map}
use Rattle.std.specs.List.{list_any}
use Rattle.std.specs.Ordering.{int_eq}
use Rattle.std.specs.Cmp.Derive.{both_true}
use Rattle.std.proofs.lemmas.Bool.{false≢true}
use Rattle.spv_logic.specs.declared.conditions.Kind.TheVariants as kind
use Rattle.spv_logic.specs.declared.operators.Head.{Head}
use Rattle.spv_logic.specs.declared.operators.Head.TheVariants as head
use Rattle.spv_logic.specs.Values.{Value, Number, number_of, truth_of, value_eq}
use Rattle.spv_logic.specs.Terms.{Term, eval}
use Rattle.spv_logic.specs.Shapes.{shapes_ok}
use Rattle.spv_logic.specs.Conditions.{Meaning, Valuation, View, Condition, holds}
use Rattle.spv_program.specs.Expressions.{Expression}
use Rattle.spv_program.specs.Formulas.{Annotation}
use Rattle.spv_program.specs.Statements.{Statement, Sequence, If, While, Repeat, Assert}
use Rattle.spv_program.specs.Programs.{Program, shapes, routine_in}
use Rattle.spv_program.specs.Scopes.{is_own}
use Rattle.spv_program.specs.Uses.{statement_uses, statement_calls, annotation_uses, expression_uses, expression_calls}
use Rattle.spv_program.specs.Changes.{changed_heads}
use Rattle.spv_program.specs.Supplies.{Supply}
use Rattle.spv_program.specs.Terms.{binary, numeral, body_term}
use Rattle.spv_program.specs.ExpressionTerms.{valued}
use Rattle.spv_meaning.specs.Places.{State}
use Rattle.spv_meaning.specs.Views.{now_view}
use Rattle.spv_meaning.specs.Outcomes.{Outcome, ends, and_then}
use Rattle.spv_meaning.specs.Levels.{Here, Run, Level, reached_in_body}
use Rattle.spv_meaning.specs.Evaluation.{Got, evaluate}
use Rattle.spv_meaning.specs.Walks.{walk, reaches}
use Rattle.spv_meaning.specs.Starts.{IsStart}
use Rattle.spv_meaning.specs.Before.{Made, all_assuming, assuming_if_there, replaced, wanted, negated, annotation_term, wanted_if_there, before_calls, renamed, before}
use Rattle.spv_rule_soundness.specs.statements.Truth.{IsLater, IsWindow, IsEntry, meaning_in, shown, IsTrueFor, Ignores}
use Rattle.spv_rule_soundness.specs.statements.Runs.{Allowed, Reaches, EndsWell, IsRight, GivesWell, IsRightTest, may_change}
use Rattle.spv_rule_soundness.specs.statements.Parts.{Passing, parts_pass}
use Rattle.spv_rule_soundness.specs.statements.Laws.{PartsAreRight}
use Rattle.spv_rule_soundness.proofs.statements.Lists.{follow-append, not_new, later_after, ignores_later, ignores_both, ignores_assuming}
use Rattle.spv_rule_soundness.proofs.statements.Views.{shown_wider, narrow}
use Rattle.spv_rule_soundness.proofs.statements.States.{renaming, persisting}
use Rattle.spv_rule_soundness.proofs.statements.Annotations.{negated_ignores, later_term, wanted_there_ignores}
use Rattle.spv_rule_soundness.proofs.statements.Supplied.{changed_are_names, assuming_there_ignores, annotation_there, supplied}
use Rattle.spv_rule_soundness.proofs.statements.Changing.{within_left, within_right, within_then, part_leaves}
use Rattle.spv_rule_soundness.proofs.statements.Reaching.{reach_then, reach_ends, reach_as, reach_meets, true_first, true_second, true_assumed, wanted_holds, true_under, reached_holds}

-- a window goes on being one as more is taken from the supply
pub window_later : (p : Program) (n m : Supply) (window : View) → IsLater n m → IsWindow p n window → IsWindow p m window
window_later p n m window later is = record { fit = is.fit; taken = λ h w e. not_new n m h later (is.taken h w e); fresh = is.fresh }

pub choose : {A : Type 0} (P : A → Type 0) (t : Bool) (x y : A) → (t ≡ true → P x) → (t ≡ false → P y) → P (cond t x y)
choose P true x y first second = first refl
choose P false x y first second = second refl

pub truth_not : (b : Bool) → b ≡ false → not b ≡ true
truth_not true e = absurd (false≢true (sym e))
truth_not false e = refl

module _ (p : Program) (world : Meaning) (here : Here) where
  -- ends that begin where something else ended
  pub ends_from : (window : View) (changes : Head → Bool) (wanted : List Condition) (one two after : State) → ((h : Head) → changes h ≡ false → now_view p here.routine two h ≡ now_view p here.routine one h) → EndsWell p world here window changes wanted two after → EndsWell p world here window changes wanted one after
  ends_from window changes wanted one two after same e = record {
    is_start = e.is_start;
    true_there = e.true_there;
    same = λ h leaves. e.same h leaves ∙ same h leaves;
  }

  pub ends_wider : (window : View) (small large : Head → Bool) (wanted : List Condition) (one after : State) → ((h : Head) → large h ≡ false → small h ≡ false) → EndsWell p world here window small wanted one after → EndsWell p world here window large wanted one after
  ends_wider window small large wanted one after leaves e = record {
    is_start = e.is_start;
    true_there = e.true_there;
    same = λ h l. e.same h (leaves h l);
  }

module _ (p : Program) (world : Meaning) (allowed : Allowed) (ok : shapes_ok (shapes p) ≡ true) (here : Here) (entry : IsEntry p here.entry) (passing : Passing) (right : PartsAreRight p world allowed here passing) where
  -- the window of a test taken away again
  pub ends_narrow : (e : Expression) (n : Supply) (window : View) (is : IsWindow p n window) (conditions wanted : List Condition) (start : State) (got : Got) → Ignores p world n conditions → (g : GivesWell p world here e n window wanted start got) → (changes : Head → Bool) (after : State) → EndsWell p world here g.wider changes conditions start after → EndsWell p world here window changes conditions start after
  ends_narrow e n window is conditions wanted start got ignores g changes after ends = record {
    is_start = ends.is_start;
    true_there = narrow p here entry world n (valued p (routine_in p here.routine) n e).supply window g.wider is g.is_window g.adds conditions ignores after ends.true_there;
    same = ends.same;
  }

  -- a test in front of a run: the run goes on in the state as it was, with what the calls' variables are
  pub tested : (below : Option Level) (e : Expression) → IsRightTest p world allowed here below e → (q : Made) → Ignores p world q.supply q.conditions → (window : View) → IsWindow p q.supply window → (uses : List Condition) (state : State) → IsStart p here.routine state
      → IsTrueFor p world (shown p here window state) (before_calls here.routine (valued p (routine_in p here.routine) q.supply e).calls uses)
      → (changes : Head → Bool) (start : State) → ((h : Head) → changes h ≡ false → now_view p here.routine state h ≡ now_view p here.routine start h) → (choices : List Value) (next : Got → List Value → Outcome State)
      → ((got : Got) (g : GivesWell p world here e q.supply window uses state got) (rest : List Value) → Reaches p world allowed State (EndsWell p world here g.wider changes q.conditions state) (next (record { value = got.value; state = state }) rest))
      → Reaches p world allowed State (EndsWell p world here window changes q.conditions start) (and_then (evaluate p below here e state choices) next)
  tested below e test q ignores window is uses state begun true_there changes start same choices next later =
      reach_then p world allowed _ _ (evaluate p below here e state choices) next (test q.supply window is uses state begun true_there choices)
      (λ got g rest. moved got g rest
      (reach_as p world allowed _ _ (next (record { value = got.value; state = state }) rest)
      (λ after ends. ends_from p world here window changes q.conditions start state after same (ends_narrow e q.supply window is q.conditions uses state got ignores g changes after ends)) (later got g rest)))
    where
      moved : (got : Got) (g : GivesWell p world here e q.supply window uses state got) (rest : List Value) → Reaches p world allowed State (EndsWell p world here window changes q.conditions start) (next (record { value = got.value; state = state }) rest) → Reaches p world allowed State (EndsWell p world here window changes q.conditions start) (next got rest)
      moved got g rest r = subst (λ (x : State). Reaches p world allowed State (EndsWell p world here window changes q.conditions start) (next (record { value = got.value; state = x }) rest)) (sym g.state_is) r

  -- what is wanted where a test is true, and where it is not
  pub where_true : (e : Expression) (n : Supply) (window : View) (uses : List Condition) (state : State) (got : Got) (g : GivesWell p world here e n window uses state got) (conditions : List Condition) → truth_of got.value ≡ true → IsTrueFor p world (shown p here g.wider state) (all_assuming (valued p (routine_in p here.routine) n e).term conditions) → IsTrueFor p world (shown p here g.wider state) conditions
  where_true e n window uses state got g conditions is known =
      true_assumed p world (shown p here g.wider state) (valued p (routine_in p here.routine) n e).term conditions (λ v val shows. ap truth_of (g.worth v val shows) ∙ is) known

  pub where_false : (e : Expression) (n : Supply) (window : View) (uses : List Condition) (state : State) (got : Got) (g : GivesWell p world here e n window uses state got) (conditions : List Condition) → truth_of got.value ≡ false → IsTrueFor p world (shown p here g.wider state) (all_assuming (negated (valued p (routine_in p here.routine) n e).term) conditions) → IsTrueFor p world (shown p here g.wider state) conditions
  where_false e n window uses state got g conditions is known =
      true_assumed p world (shown p here g.wider state) (negated (valued p (routine_in p here.routine) n e).term) conditions (λ v val shows. truth_not _ (ap truth_of (g.worth v val shows) ∙ is)) known

  -- an INVARIANT that is reached
  pub reach_invariant : (A : Type 0) (f : Option Annotation) (n : Supply) (window : View) → IsWindow p n window → (showing : State) → IsStart p here.routine showing → IsTrueFor p world (shown p here window showing) (wanted_if_there p here.routine kind.Invariant f) → (state : State) (rest : List Value) → Reaches p world allowed State (λ x. x ≡ state) (reaches p here f showing state rest)
  reach_invariant A f n window is showing start known state rest =
      reach_meets p world allowed _ (option_map (reached_in_body p here kind.Invariant showing) f) state rest (reached_holds p world ok here entry n window is showing start f kind.Invariant kind.Invariant known) refl

  -- ---- sequences, IF, ASSERT

  pub sequence_right : (a b : Statement) (first second : Run) → IsRight p world allowed here a first → IsRight p world allowed here b second → ((q : Made) → Ignores p world q.supply q.conditions → Ignores p world (before p here.routine b q).supply (before p here.routine b q).conditions) → ((q : Made) → Ignores p world q.supply q.conditions → IsLater q.supply (before p here.routine b q).supply) → IsRight p world allowed here (Sequence a b) (λ state choices. and_then (first state choices) (λ after rest. second after rest))
  sequence_right a b first second one two ignored later q ignores window is state start true_there choices =
      let middle = before p here.routine b q in
      let own = is_own (routine_in p here.routine) in
      let in_a = part_leaves p here a (Sequence a b) (within_left (statement_uses own a) (statement_uses own b)) (within_left (statement_calls a) (statement_calls b)) in
      let in_b = part_leaves p here b (Sequence a b) (within_right (statement_uses own a) (statement_uses own b)) (within_right (statement_calls a) (statement_calls b)) in
      reach_then p world allowed _ _ (first state choices) _
      (one middle (ignored q ignores) window (window_later p q.supply middle.supply window (later q ignores) is) state start true_there choices)
      (λ after e rest. reach_as p world allowed _ _ (second after rest)
      (λ last f. ends_from p world here window (may_change p here (Sequence a b)) q.conditions state after last (λ h leaves. e.same h (in_a h leaves)) (ends_wider p world here window (may_change p here b) (may_change p here (Sequence a b)) q.conditions after last in_b f))
      (two q ignores window is after e.is_start e.true_there rest))

  pub assert_right : (a : Annotation) (below : Option Level) → IsRight p world allowed here (Assert a) (walk p below here (Assert a))
  assert_right a below q ignores window is state start true_there choices =
      let t = body_term p (routine_in p here.routine) a in
      let view = shown p here window state in
      let first = true_first p world view (wanted here.routine kind.Assert a.line t ∷ []) (all_assuming t q.conditions) true_there in
      let second = true_second p world view (wanted here.routine kind.Assert a.line t ∷ []) (all_assuming t q.conditions) true_there in
      reach_meets p world allowed _ (Some (reached_in_body p here kind.Assert state a)) state choices (reached_holds p world ok here entry q.supply window is state start (Some a) kind.Assert kind.Assert first)
      (record {
        is_start = start;
        true_there = true_assumed p world view t q.conditions (wanted_holds p world view here.routine kind.Assert a.line t first) second;
        same = λ h leaves. refl;
      })

  pub if_right : (line : ℕ) (e : Expression) (a b : Statement) (below : Option Level) → passing.test e ≡ true → IsRightTest p world allowed here below e → parts_pass passing a ≡ true → IsRight p world allowed here a (walk p below here a) → IsRight p world allowed here b (walk p below here b) → IsRight p world allowed here (If line e a b) (walk p below here (If line e a b))
  if_right line e a b below pass test pass_a one two q ignores window is state start true_there choices =
      let r = routine_in p here.routine in
      let own = is_own r in
      let v = valued p r q.supply e in
      let at_test = right.test_supplied e pass q.supply in
      let later = at_test.later in
      let for_a : Made = record { conditions = q.conditions; supply = v.supply } in
      let first = before p here.routine a for_a in
      let in_first = supplied p world allowed here passing right a pass_a for_a (ignores_later p world q.supply v.supply q.conditions later ignores) in
      let for_b : Made = record { conditions = q.conditions; supply = first.supply } in
      let second = before p here.routine b for_b in
      let uses_a = within_then (statement_uses own a) (statement_uses own a ++ statement_uses own b) (statement_uses own (If line e a b)) (within_left (statement_uses own a) (statement_uses own b)) (within_right (expression_uses own e) _) in
      let calls_a = within_then (statement_calls a) (statement_calls a ++ statement_calls b) (statement_calls (If line e a b)) (within_left (statement_calls a) (statement_calls b)) (within_right (expression_calls e) _) in
      let uses_b = within_then (statement_uses own b) (statement_uses own a ++ statement_uses own b) (statement_uses own (If line e a b)) (within_right (statement_uses own a) (statement_uses own b)) (within_right (expression_uses own e) _) in
      let calls_b = within_then (statement_calls b) (statement_calls a ++ statement_calls b) (statement_calls (If line e a b)) (within_right (statement_calls a) (statement_calls b)) (within_right (expression_calls e) _) in
      let uses = all_assuming v.term first.conditions ++ all_assuming (negated v.term) second.conditions in
      tested below e test q ignores window is uses state start true_there (may_change p here (If line e a b)) state (λ h leaves. refl) choices _
      (λ got g rest. choose (Reaches p world allowed State (EndsWell p world here g.wider (may_change p here (If line e a b)) q.conditions state)) (truth_of got.value) (walk p below here a state rest) (walk p below here b state rest)
      (λ is_true. reach_as p world allowed _ _ (walk p below here a state rest) (λ after f. ends_wider p world here g.wider (may_change p here a) (may_change p here (If line e a b)) q.conditions state after (part_leaves p here a (If line e a b) uses_a calls_a) f)
      (one for_a (ignores_later p world q.supply v.supply q.conditions later ignores) g.wider g.is_window state start
      (where_true e q.supply window uses state got g first.conditions is_true (true_first p world (shown p here g.wider state) (all_assuming v.term first.conditions) (all_assuming (negated v.term) second.conditions) g.true_there)) rest))
      (λ is_false. reach_as p world allowed _ _ (walk p below here b state rest) (λ after f. ends_wider p world here g.wider (may_change p here b) (may_change p here (If line e a b)) q.conditions state after (part_leaves p here b (If line e a b) uses_b calls_b) f)
      (two for_b (ignores_later p world q.supply first.supply q.conditions (later_after q.supply v.supply first.supply later in_first.later) ignores) g.wider (window_later p v.supply first.supply g.wider in_first.later g.is_window) state start
      (where_false e q.supply window uses state got g second.conditions is_false (true_second p world (shown p here g.wider state) (all_assuming v.term first.conditions) (all_assuming (negated v.term) second.conditions) g.true_there)) rest)))

  -- ---- loops

  -- what is true without the calls' variables is true with them
  pub ends_in_wider : (window wider : View) → ((h : Head) (w : Value) → window h ≡ Some w → wider h ≡ Some w) → (changes : Head → Bool) (conditions : List Condition) (start after : State) → EndsWell p world here window changes conditions start after → EndsWell p world here wider changes conditions start after
  ends_in_wider window wider keeps changes conditions start after e = record {
    is_start = e.is_start;
    true_there = λ v val shows. e.true_there v val (λ h w is. shows h w (shown_wider p here window wider keeps after h w is));
    same = e.same;
  }

  -- what every loop keeps: its INVARIANT is wanted, and its list is renamed
  pub loop_parts : (f : Option Annotation) (window : View) (state : State) (renamed_list : List Condition) → IsTrueFor p world (shown p here window state) (wanted_if_there p here.routine kind.Invariant f ++ renamed_list) → IsTrueFor p world (shown p here window state) (wanted_if_there p here.routine kind.Invariant f) × IsTrueFor p world (shown p here window state) renamed_list
  loop_parts f window state list is =
      (true_first p world (shown p here window state) (wanted_if_there p here.routine kind.Invariant f) list is, true_second p world (shown p here window state) (wanted_if_there p here.routine kind.Invariant f) list is)

  pub joined : (f : Option Annotation) (window : View) (state : State) (list : List Condition) → IsTrueFor p world (shown p here window state) (wanted_if_there p here.routine kind.Invariant f) → IsTrueFor p world (shown p here window state) list → IsTrueFor p world (shown p here window state) (wanted_if_there p here.routine kind.Invariant f ++ list)
  joined f window state list first second v val shows =
      follow-append (meaning_in p world) v (wanted_if_there p here.routine kind.Invariant f) list ∙ both_true (first v val shows) (second v val shows)

  -- the INVARIANT that is wanted after a turn is the one that is wanted before the next
  pub preserved : (f : Option Annotation) (view : View) → IsTrueFor p world view (wanted_if_there p here.routine kind.Preserved f) → IsTrueFor p world view (wanted_if_there p here.routine kind.Invariant f)
  preserved None view is = is
  preserved (Some a) view is = is

  pub while_right : (line : ℕ) (f : Option Annotation) (e : Expression) (s : Statement) (level : Level) → passing.test e ≡ true → IsRightTest p world allowed here (Some level) e → parts_pass passing s ≡ true → IsRight p world allowed here s (level.run here s) → IsRight p world allowed here (While line f e s) (level.run here (While line f e s)) → IsRight p world allowed here (While line f e s) (walk p (Some level) here (While line f e s))
  while_right line f e s level pass test pass_s body again q ignores window is state start true_there choices =
      let w = While line f e s in
      let r = routine_in p here.routine in
      let own = is_own r in
      let v = valued p r q.supply e in
      let later = (right.test_supplied e pass q.supply).later in
      let for_body : Made = record { conditions = wanted_if_there p here.routine kind.Preserved f; supply = v.supply } in
      let in_body = supplied p world allowed here passing right s pass_s for_body (wanted_there_ignores p world v.supply here.routine kind.Preserved f) in
      let turn = before p here.routine s for_body in
      let uses = all_assuming v.term turn.conditions ++ all_assuming (negated v.term) q.conditions in
      let calls = before_calls here.routine v.calls uses in
      let list = assuming_if_there (annotation_term p here.routine f) calls in
      let heads = changed_heads p r w in
      let names = changed_are_names p r w in
      let n = turn.supply in
      let to_n = later_after q.supply v.supply n later in_body.later in
      let window_n = window_later p q.supply n window to_n is in
      let term = later_term p world v.supply n v.term in_body.later (right.test_supplied e pass q.supply).term in
      let calls_ignore = (right.test_supplied e pass q.supply).calls n in_body.later uses
      (ignores_both p world n (all_assuming v.term turn.conditions) (all_assuming (negated v.term) q.conditions)
      (ignores_assuming p world n v.term turn.conditions term in_body.ignores)
      (ignores_assuming p world n (negated v.term) q.conditions (negated_ignores p world n v.term term) (ignores_later p world q.supply n q.conditions to_n ignores))) in
      let list_ignores = assuming_there_ignores p world n (annotation_term p here.routine f) (annotation_there p world allowed here passing right n f) calls calls_ignore in
      let parts = loop_parts f window state (replaced (renamed heads n).pairs list) true_there in
      let here_list = renaming p ok world here entry n window window_n heads names list list_ignores state state start (λ h away. refl) (parts.1) in
      let here_calls = true_under p world here (shown p here window state) f kind.Invariant calls (parts.0) here_list in
      let uses_s = within_then (statement_uses own s) (expression_uses own e ++ statement_uses own s) (statement_uses own w) (within_right (expression_uses own e) (statement_uses own s)) (within_right (annotation_uses own f) _) in
      let calls_s = within_right (expression_calls e) (statement_calls s) in
      let leaves = part_leaves p here s w uses_s calls_s in
      reach_then p world allowed _ _ (reaches p here f state state choices) _
      (reach_invariant State f q.supply window is state start (parts.0) state choices)
      (λ now at rest. subst (λ (x : State). Reaches p world allowed State (EndsWell p world here window (may_change p here w) q.conditions state) (and_then (evaluate p (Some level) here e x rest) (λ got more. cond (truth_of got.value) (and_then (level.run here s got.state more) (λ after last. level.run here w after last)) (ends got.state more)))) (sym at)
      (tested (Some level) e test q ignores window is uses state start here_calls (may_change p here w) state (λ h l. refl) rest _
      (λ got g more. choose (Reaches p world allowed State (EndsWell p world here g.wider (may_change p here w) q.conditions state)) (truth_of got.value) (and_then (level.run here s state more) (λ after last. level.run here w after last)) (ends state more)
      (λ is_true. reach_then p world allowed _ _ (level.run here s state more) _
      (body for_body (wanted_there_ignores p world v.supply here.routine kind.Preserved f) g.wider g.is_window state start (where_true e q.supply window uses state got g turn.conditions is_true (true_first p world (shown p here g.wider state) (all_assuming v.term turn.conditions) (all_assuming (negated v.term) q.conditions) g.true_there)) more)
      (λ after x last.
      let same : (h : Head) → may_change p here w h ≡ false → now_view p here.routine after h ≡ now_view p here.routine state h = λ h l. x.same h (leaves h l) in
      let invariant = narrow p here entry world q.supply v.supply window g.wider is g.is_window g.adds (wanted_if_there p here.routine kind.Invariant f) (wanted_there_ignores p world q.supply here.routine kind.Invariant f) after (preserved f (shown p here g.wider after) x.true_there) in
      reach_as p world allowed _ _ (level.run here w after last)
      (λ final ending. ends_from p world here g.wider (may_change p here w) q.conditions state after final same (ends_in_wider window g.wider g.keeps (may_change p here w) q.conditions after final ending))
      (again q ignores window is after x.is_start (joined f window after (replaced (renamed heads n).pairs list) invariant (persisting p ok world here entry n window window_n heads names list list_ignores state after start same (parts.1))) last)))
      (λ is_false. reach_ends p world allowed _ state more (record {
        is_start = start;
        true_there = where_false e q.supply window uses state got g q.conditions is_false (true_second p world (shown p here g.wider state) (all_assuming v.term turn.conditions) (all_assuming (negated v.term) q.conditions) g.true_there);
        same = λ h l. refl;
      })))))

  pub repeat_right : (line : ℕ) (f : Option Annotation) (s : Statement) (e : Expression) (level : Level) → passing.test e ≡ true → IsRightTest p world allowed here (Some level) e → parts_pass passing s ≡ true → IsRight p world allowed here s (level.run here s) → IsRight p world allowed here (Repeat line f s e) (level.run here (Repeat line f s e)) → IsRight p world allowed here (Repeat line f s e) (walk p (Some level) here (Repeat line f s e))
  repeat_right line f s e level pass test pass_s body again q ignores window is state start true_there choices =
      let w = Repeat line f s e in
      let r = routine_in p here.routine in
      let own = is_own r in
      let v = valued p r q.supply e in
      let at_test = right.test_supplied e pass q.supply in
      let later = at_test.later in
      let uses = all_assuming (negated v.term) (wanted_if_there p here.routine kind.Preserved f) ++ all_assuming v.term q.conditions in
      let calls = before_calls here.routine v.calls uses in
      let for_body : Made = record { conditions = calls; supply = v.supply } in
      let uses_ignore = ignores_both p world v.supply (all_assuming (negated v.term) (wanted_if_there p here.routine kind.Preserved f)) (all_assuming v.term q.conditions)
      (ignores_assuming p world v.supply (negated v.term) (wanted_if_there p here.routine kind.Preserved f) (negated_ignores p world v.supply v.term at_test.term) (wanted_there_ignores p world v.supply here.routine kind.Preserved f))
      (ignores_assuming p world v.supply v.term q.conditions at_test.term (ignores_later p world q.supply v.supply q.conditions later ignores)) in
      let calls_ignore = at_test.calls v.supply (λ h new. new) uses uses_ignore in
      let in_body = supplied p world allowed here passing right s pass_s for_body calls_ignore in
      let turn = before p here.routine s for_body in
      let list = assuming_if_there (annotation_term p here.routine f) turn.conditions in
      let heads = changed_heads p r w in
      let names = changed_are_names p r w in
      let n = turn.supply in
      let to_n = later_after q.supply v.supply n later in_body.later in
      let window_n = window_later p q.supply n window to_n is in
      let list_ignores = assuming_there_ignores p world n (annotation_term p here.routine f) (annotation_there p world allowed here passing right n f) turn.conditions in_body.ignores in
      let parts = loop_parts f window state (replaced (renamed heads n).pairs list) true_there in
      let here_list = renaming p ok world here entry n window window_n heads names list list_ignores state state start (λ h away. refl) (parts.1) in
      let here_turn = true_under p world here (shown p here window state) f kind.Invariant turn.conditions (parts.0) here_list in
      let uses_s = within_then (statement_uses own s) (statement_uses own s ++ expression_uses own e) (statement_uses own w) (within_left (statement_uses own s) (expression_uses own e)) (within_right (annotation_uses own f) _) in
      let leaves = part_leaves p here s w uses_s (within_left (statement_calls s) (expression_calls e)) in
      reach_then p world allowed _ _ (reaches p here f state state choices) _
      (reach_invariant State f q.supply window is state start (parts.0) state choices)
      (λ now at rest. subst (λ (x : State). Reaches p world allowed State (EndsWell p world here window (may_change p here w) q.conditions state) (and_then (level.run here s x rest) (λ after more. and_then (evaluate p (Some level) here e after more) (λ got last. cond (truth_of got.value) (ends got.state last) (level.run here w got.state last))))) (sym at)
      (reach_then p world allowed _ _ (level.run here s state rest) _
      (body for_body calls_ignore window (window_later p q.supply v.supply window later is) state start here_turn rest)
      (λ after x more.
      let same : (h : Head) → may_change p here w h ≡ false → now_view p here.routine after h ≡ now_view p here.routine state h = λ h l. x.same h (leaves h l) in
      tested (Some level) e test q ignores window is uses after x.is_start x.true_there (may_change p here w) state same more _
      (λ got g last. choose (Reaches p world allowed State (EndsWell p world here g.wider (may_change p here w) q.conditions after)) (truth_of got.value) (ends after last) (level.run here w after last)
      (λ is_true. reach_ends p world allowed _ after last (record {
        is_start = x.is_start;
        true_there = where_true e q.supply window uses after got g q.conditions is_true (true_second p world (shown p here g.wider after) (all_assuming (negated v.term) (wanted_if_there p here.routine kind.Preserved f)) (all_assuming v.term q.conditions) g.true_there);
        same = λ h l. refl;
      }))
      (λ is_false.
      let known = where_false e q.supply window uses after got g (wanted_if_there p here.routine kind.Preserved f) is_false (true_first p world (shown p here g.wider after) (all_assuming (negated v.term) (wanted_if_there p here.routine kind.Preserved f)) (all_assuming v.term q.conditions) g.true_there) in
      let invariant = narrow p here entry world q.supply v.supply window g.wider is g.is_window g.adds (wanted_if_there p here.routine kind.Invariant f) (wanted_there_ignores p world q.supply here.routine kind.Invariant f) after (preserved f (shown p here g.wider after) known) in
      reach_as p world allowed _ _ (level.run here w after last)
      (λ final ending. ends_in_wider window g.wider g.keeps (may_change p here w) q.conditions after final ending)
      (again q ignores window is after x.is_start (joined f window after (replaced (renamed heads n).pairs list) invariant (persisting p ok world here entry n window window_n heads names list list_ignores state after start same (parts.1))) last))))))

  -- ---- CASE

  pub labels_hold : (v : Valuation) (t : Term) (z : ℤ) → number_of (eval (meaning_in p world) v t) ≡ z → eval (meaning_in p world) v t ≡ Number (number_of (eval (meaning_in p world) v t)) → (y : Term) (labels : List ℤ) → (holds (meaning_in p world) v y || list_any (int_eq z) labels) ≡ true → holds (meaning_in p world) v (fold (λ s x. binary head.Or s (binary head.Eq t (numeral x))) y labels) ≡ true
  labels_hold v t z is number y [] e = or_none (holds (meaning_in p world) v y) e
    where
      or_none : (b : Bool) → (b || false) ≡ true → b ≡ true
      or_none true e = refl
      or_none false e = e
  labels_hold v t z is number y (x ∷ labels) e =
      labels_hold v t z is number (binary head.Or y (binary head.Eq t (numeral x))) labels
      (ap (λ b. (holds (meaning_in p world) v y || b) || list_any (int_eq z) labels) (equal x) ∙ (or_turned (holds (meaning_in p world) v y) (int_eq z x) (list_any (int_eq z) labels) ∙ e))
    where
      or_turned : (a b c : Bool) → ((a || b) || c) ≡ (a || (b || c))
      or_turned true b c = refl
      or_turned false b c = refl

      equal : (x : ℤ) → value_eq (eval (meaning_in p world) v t) (Number x) ≡ int_eq z x
      equal x = ap (λ w. value_eq w (Number x)) number ∙ ap (λ y. int_eq y x) is
