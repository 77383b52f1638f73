-- Every statement is right, by induction on its turns and its parts.
use Rattle.std.proofs.Common.{◌≡◌, arith, ℕ, zero, suc, true, ◌||◌, List, [], ◌∷◌, ◌++◌, ℤ, refl, sym, ap, subst, ◌∙◌, Option, Some, None}
use Rattle.std.specs.List.{list_any}
use Rattle.std.specs.Ordering.{int_eq}
use Rattle.std.proofs.lemmas.Bool.{false≢true}
use Rattle.spv_logic.specs.declared.conditions.Kind.TheVariants as kind
use Rattle.spv_logic.specs.declared.operators.Head.TheVariants as head
use Rattle.spv_logic.specs.Values.{Value, Number, number_of, value_eq}
use Rattle.spv_logic.specs.Terms.{Term, eval}
use Rattle.spv_logic.specs.Shapes.{shapes_ok}
use Rattle.spv_logic.specs.Conditions.{Meaning, Valuation, IsValuation, View, Shows, holds}
use Rattle.spv_logic.proofs.list.Tests.{left_true, right_true}
use Rattle.spv_program.specs.Expressions.{Expression}
use Rattle.spv_program.specs.Formulas.{Annotation}
use Rattle.spv_program.specs.Statements.{Counting, Statement, Arms, Empty, Assign, Perform, New, Sequence, If, Case, While, Repeat, For, Assert, no_arms, arm}
use Rattle.spv_program.specs.Programs.{Program, shapes, routine_in}
use Rattle.spv_program.specs.Scopes.{is_own}
use Rattle.spv_program.specs.Uses.{statement_uses, statement_calls, expression_uses, expression_calls, arms_uses, arms_calls}
use Rattle.spv_program.specs.Supplies.{Supply}
use Rattle.spv_program.specs.Terms.{alone, binary, numeral}
use Rattle.spv_program.specs.ExpressionTerms.{valued}
use Rattle.spv_program.proofs.SortFacts.{nothing_there, some_is}
use Rattle.spv_meaning.specs.declared.faults.Fault.TheVariants as fault
use Rattle.spv_meaning.specs.Places.{State}
use Rattle.spv_meaning.specs.Levels.{Here, Run, Loop, Level}
use Rattle.spv_meaning.specs.Walks.{walk, walk_arms, count_on, level, run}
use Rattle.spv_meaning.specs.Starts.{IsStart}
use Rattle.spv_meaning.specs.Correct.{CorrectBelow}
use Rattle.spv_meaning.specs.Before.{Made, all_assuming, replaced, wanted_with, before_calls, standing_for, within_term, past_term, is_label, before, before_arms}
use Rattle.spv_rule_soundness.specs.statements.Truth.{IsLater, IsWindow, IsEntry, meaning_in, shown, IsTrueFor, Ignores}
use Rattle.spv_rule_soundness.specs.statements.Runs.{Allowed, Reaches, EndsWell, IsRight, IsRightTest, may_change}
use Rattle.spv_rule_soundness.specs.statements.Parts.{Passing, parts_pass, arms_pass}
use Rattle.spv_rule_soundness.specs.statements.Laws.{PartsAreRight}
use Rattle.spv_rule_soundness.proofs.statements.Lists.{later_after, ignores_later}
use Rattle.spv_rule_soundness.proofs.statements.Views.{shown_wider}
use Rattle.spv_rule_soundness.proofs.statements.Supplied.{calls-append, supplied}
use Rattle.spv_rule_soundness.proofs.statements.Changing.{Within, within_left, within_right, within_then, part_leaves}
use Rattle.spv_rule_soundness.proofs.statements.Reaching.{reach_ends, reach_stops, reach_going, reach_as, true_first, true_second, true_assumed}
use Rattle.spv_rule_soundness.proofs.statements.Control.{choose, window_later, ends_wider, tested, sequence_right, assert_right, if_right, while_right, repeat_right, labels_hold}
use Rattle.spv_rule_soundness.proofs.statements.Counting.{counter, turn_of, fresh_of, last_of, under_invariant}
use Rattle.spv_rule_soundness.proofs.statements.Loops.{with_counter, GoesOn, none_goes_on, some_goes_on}

module _ (p : Program) (world : Meaning) (allowed : Allowed) (ok : shapes_ok (shapes p) ≡ true) (here : Here) (entry : IsEntry p here.entry) (passing : Passing) (right : PartsAreRight p world allowed here passing) where
  -- every FOR goes on from its candidates as it should
  abbrev pub AllGoOn : (Loop → ℤ → ℤ → Run) → Type 0
  AllGoOn next = (line : ℕ) (f : Option Annotation) (count : Counting) (s : Statement) (counted : passing.count count s ≡ true) (q : Made) (ignores : Ignores p world q.supply q.conditions) (n : Supply) (to_n : IsLater q.supply n) (pass_s : parts_pass passing s ≡ true) (window : View) (is : IsWindow p n window) (first_state : State) (begun : IsStart p here.routine first_state) (end : Term) (e : ℤ)
      (end_is : (v : Valuation) → IsValuation (shapes p) v → Shows (shown p here window first_state) v → number_of (eval (meaning_in p world) v end) ≡ e)
      (turn_list : IsTrueFor p world (shown p here window first_state) (under_invariant p here f (fresh_of p here (For line f count s) (turn_of p here f count s n).supply).pairs (within_term count.direction (standing_for (fresh_of p here (For line f count s) (turn_of p here f count s n).supply).pairs (counter p here count)) end) (replaced (fresh_of p here (For line f count s) (turn_of p here f count s n).supply).pairs (turn_of p here f count s n).conditions)))
      (exit_list : IsTrueFor p world (shown p here window first_state) (under_invariant p here f (fresh_of p here (For line f count s) (turn_of p here f count s n).supply).pairs (past_term count.direction (standing_for (fresh_of p here (For line f count s) (turn_of p here f count s n).supply).pairs (counter p here count)) end) (replaced (fresh_of p here (For line f count s) (turn_of p here f count s n).supply).pairs (replaced ((counter p here count, alone (last_of p here count (For line f count s) (turn_of p here f count s n).supply).head) ∷ []) q.conditions))))
      → GoesOn p world allowed ok here entry passing right line f count s counted q ignores n to_n pass_s window is first_state begun end e end_is turn_list exit_list (next (record { invariant = f; count = count; body = s }) e)

  -- a level on which every statement is right
  pub record RightLevel (l : Level) : Type 0 where
    pub statements : (s : Statement) → parts_pass passing s ≡ true → IsRight p world allowed here s (l.run here s)
    pub counts : AllGoOn (l.next here)

  -- FOR, where it goes on from its candidates as it should
  for_right : (line : ℕ) (f : Option Annotation) (count : Counting) (s : Statement) (b : Option Level) → passing.count count s ≡ true → passing.test count.first ≡ true → passing.test count.last ≡ true → passing.number count.first ≡ true → parts_pass passing s ≡ true → IsRightTest p world allowed here b count.first → IsRightTest p world allowed here b count.last → AllGoOn (count_on p b here) → IsRight p world allowed here (For line f count s) (walk p b here (For line f count s))
  for_right line f count s b counted pass_first pass_last number pass_s first_right last_right goes q ignores window is state start true_there choices =
      let w = For line f count s in
      let r = routine_in p here.routine in
      let x = counter p here count in
      let first = valued p r q.supply count.first in
      let end = valued p r first.supply count.last in
      let to_first = (right.test_supplied count.first pass_first q.supply).later in
      let to_end = later_after q.supply first.supply end.supply to_first (right.test_supplied count.last pass_last first.supply).later in
      let turn = turn_of p here f count s end.supply in
      let pairs = (fresh_of p here w turn.supply).pairs in
      let last = last_of p here count w turn.supply in
      let entering = wanted_with p here.routine kind.Invariant x first.term f in
      let turns = under_invariant p here f pairs (within_term count.direction (standing_for pairs x) end.term) (replaced pairs turn.conditions) in
      let exits = under_invariant p here f pairs (past_term count.direction (standing_for pairs x) end.term) (replaced pairs (replaced ((x, alone last.head) ∷ []) q.conditions)) in
      let lists = entering ++ (turns ++ exits) in
      let split = subst (IsTrueFor p world (shown p here window state)) (calls-append here.routine first.calls end.calls lists) true_there in
      tested p world allowed ok here entry passing right b count.first first_right q ignores window is (before_calls here.routine end.calls lists) state start split (may_change p here w) state (λ h away. refl) choices _
      (λ got g rest.
      tested p world allowed ok here entry passing right b count.last last_right (record { conditions = q.conditions; supply = first.supply }) (ignores_later p world q.supply first.supply q.conditions to_first ignores) g.wider g.is_window lists state start g.true_there (may_change p here w) state (λ h away. refl) rest _
      (λ last_got k more.
      let view = shown p here k.wider state in
      let enters = true_first p world view entering (turns ++ exits) k.true_there in
      let goes_on = true_second p world view entering (turns ++ exits) k.true_there in
      goes line f count s counted q ignores end.supply to_end pass_s k.wider k.is_window state start end.term (number_of last_got.value)
      (λ v val shows. ap number_of (k.worth v val shows))
      (true_first p world view turns exits goes_on) (true_second p world view turns exits goes_on)
      (number_of got.value) state start (λ h away. refl)
      (with_counter p world allowed ok here entry passing right line f count s counted kind.Invariant k.wider end.supply k.is_window first.term (number_of got.value) state start
      (λ v val shows. right.number count.first number q.supply v val ∙ ap (λ u. Number (number_of u)) (g.worth v val (λ h u at. shows h u (shown_wider p here g.wider k.wider k.keeps state h u at))))
      enters) more))

  -- CASE: the arm with the value's label
  abbrev ArmsRight : (w : Statement) (t : Term) (z : ℤ) (arms : Arms) (run : Run) → Type 0
  ArmsRight w t z arms run = (q : Made) → Ignores p world q.supply q.conditions → (window : View) → IsWindow p q.supply window → (state : State) → IsStart p here.routine state
      → ((v : Valuation) → IsValuation (shapes p) v → Shows (shown p here window state) v → eval (meaning_in p world) v t ≡ Number z)
      → IsTrueFor p world (shown p here window state) (before_arms p here.routine t arms q).conditions → (choices : List Value)
      → Reaches p world allowed State (EndsWell p world here window (may_change p here w) q.conditions state) (run state choices)

  label_holds : (v : Valuation) (t : Term) (z : ℤ) → eval (meaning_in p world) v t ≡ Number z → (labels : List ℤ) → list_any (int_eq z) labels ≡ true → holds (meaning_in p world) v (is_label t labels) ≡ true
  label_holds v t z is [] there = absurd (false≢true there)
  label_holds v t z is (x ∷ labels) there =
      labels_hold p world allowed ok here entry passing right v t z (ap number_of is) (is ∙ ap (λ u. Number (number_of u)) (sym is)) (binary head.Eq t (numeral x)) labels
      (ap (λ u. value_eq u (Number x) || list_any (int_eq z) labels) is ∙ there)

  mutual
    structural : (b : Option Level) → ((s : Statement) → passing.leaf s ≡ true → IsRight p world allowed here s (walk p b here s)) → ((e : Expression) → passing.test e ≡ true → IsRightTest p world allowed here b e) → AllGoOn (count_on p b here) → ((l : Level) → b ≡ Some l → RightLevel l) → (s : Statement) → parts_pass passing s ≡ true → IsRight p world allowed here s (walk p b here s)
    structural b leaf test goes lower Empty passes = λ q ignores window is state start true_there choices.
        reach_ends p world allowed _ state choices (record { is_start = start; true_there = true_there; same = λ h away. refl })
    structural b leaf test goes lower (Assign d e) passes = leaf (Assign d e) passes
    structural b leaf test goes lower (Perform c) passes = leaf (Perform c) passes
    structural b leaf test goes lower (New line d t) passes = leaf (New line d t) passes
    structural b leaf test goes lower (Sequence a c) passes =
        let pass_a = left_true (parts_pass passing a) _ passes in
        let pass_c = right_true (parts_pass passing a) _ passes in
        sequence_right p world allowed ok here entry passing right a c (walk p b here a) (walk p b here c) (structural b leaf test goes lower a pass_a) (structural b leaf test goes lower c pass_c)
        (λ q ignores. (supplied p world allowed here passing right c pass_c q ignores).ignores) (λ q ignores. (supplied p world allowed here passing right c pass_c q ignores).later)
    structural b leaf test goes lower (If line e a c) passes =
        let parts = right_true (passing.test e) _ passes in
        let pass_e = left_true (passing.test e) _ passes in
        let pass_a = left_true (parts_pass passing a) _ parts in
        if_right p world allowed ok here entry passing right line e a c b pass_e (test e pass_e) pass_a (structural b leaf test goes lower a pass_a) (structural b leaf test goes lower c (right_true (parts_pass passing a) _ parts))
    structural b leaf test goes lower (Case line e arms) passes = λ q ignores window is state start true_there choices.
        let w = Case line e arms in
        let v = valued p (routine_in p here.routine) q.supply e in
        let pass_e = left_true (passing.test e) _ passes in
        let rest = right_true (passing.test e) _ passes in
        let pass_number = left_true (passing.number e) _ rest in
        let for_arms : Made = record { conditions = q.conditions; supply = v.supply } in
        let later = (right.test_supplied e pass_e q.supply).later in
        tested p world allowed ok here entry passing right b e (test e pass_e) q ignores window is (before_arms p here.routine v.term arms for_arms).conditions state start true_there (may_change p here w) state (λ h away. refl) choices _
        (λ got g more.
        arms_right b leaf test goes lower w v.term (number_of got.value) arms (right_true (passing.number e) _ rest) (within_right (expression_uses (is_own (routine_in p here.routine)) e) (arms_uses (is_own (routine_in p here.routine)) arms)) (within_right (expression_calls e) (arms_calls arms))
        for_arms (ignores_later p world q.supply v.supply q.conditions later ignores) g.wider g.is_window state start
        (λ u val shows. right.number e pass_number q.supply u val ∙ ap (λ x. Number (number_of x)) (g.worth u val shows)) g.true_there more)
    structural None leaf test goes lower (While line f e s) passes = λ q ignores window is state start true_there choices. reach_going p world allowed _ choices
    structural (Some l) leaf test goes lower (While line f e s) passes =
        let pass_e = left_true (passing.test e) _ passes in
        let pass_s = right_true (passing.test e) _ passes in
        while_right p world allowed ok here entry passing right line f e s l pass_e (test e pass_e) pass_s ((lower l refl).statements s pass_s) ((lower l refl).statements (While line f e s) passes)
    structural None leaf test goes lower (Repeat line f s e) passes = λ q ignores window is state start true_there choices. reach_going p world allowed _ choices
    structural (Some l) leaf test goes lower (Repeat line f s e) passes =
        let pass_e = left_true (passing.test e) _ passes in
        let pass_s = right_true (passing.test e) _ passes in
        repeat_right p world allowed ok here entry passing right line f s e l pass_e (test e pass_e) pass_s ((lower l refl).statements s pass_s) ((lower l refl).statements (Repeat line f s e) passes)
    structural b leaf test goes lower (For line f count s) passes =
        let counted = left_true (passing.count count s) _ passes in
        let one = right_true (passing.count count s) _ passes in
        let pass_first = left_true (passing.test count.first) _ one in
        let two = right_true (passing.test count.first) _ one in
        let pass_last = left_true (passing.test count.last) _ two in
        let three = right_true (passing.test count.last) _ two in
        for_right line f count s b counted pass_first pass_last (left_true (passing.number count.first) _ three) (right_true (passing.number count.first) _ three) (test count.first pass_first) (test count.last pass_last) goes
    structural b leaf test goes lower (Assert a) passes = assert_right p world allowed ok here entry passing right a b

    arms_right : (b : Option Level) → ((s : Statement) → passing.leaf s ≡ true → IsRight p world allowed here s (walk p b here s)) → ((e : Expression) → passing.test e ≡ true → IsRightTest p world allowed here b e) → AllGoOn (count_on p b here) → ((l : Level) → b ≡ Some l → RightLevel l) → (w : Statement) (t : Term) (z : ℤ) (arms : Arms) → arms_pass passing arms ≡ true → Within (arms_uses (is_own (routine_in p here.routine)) arms) (statement_uses (is_own (routine_in p here.routine)) w) → Within (arms_calls arms) (statement_calls w) → ArmsRight w t z arms (walk_arms p b here z arms)
    arms_right b leaf test goes lower w t z no_arms passes uses calls q ignores window is state start worth true_there choices = reach_stops p world allowed _ fault.Case choices right.faults.no_label
    arms_right b leaf test goes lower w t z (arm labels s others) passes uses calls q ignores window is state start worth true_there choices =
        let own = is_own (routine_in p here.routine) in
        let pass_s = left_true (parts_pass passing s) _ passes in
        let first = before p here.routine s q in
        let in_first = supplied p world allowed here passing right s pass_s q ignores in
        let rest : Made = record { conditions = q.conditions; supply = first.supply } in
        let second = before_arms p here.routine t others rest in
        let view = shown p here window state in
        let uses_s = within_then (statement_uses own s) (statement_uses own s ++ arms_uses own others) (statement_uses own w) (within_left (statement_uses own s) (arms_uses own others)) uses in
        let calls_s = within_then (statement_calls s) (statement_calls s ++ arms_calls others) (statement_calls w) (within_left (statement_calls s) (arms_calls others)) calls in
        let uses_o = within_then (arms_uses own others) (statement_uses own s ++ arms_uses own others) (statement_uses own w) (within_right (statement_uses own s) (arms_uses own others)) uses in
        let calls_o = within_then (arms_calls others) (statement_calls s ++ arms_calls others) (statement_calls w) (within_right (statement_calls s) (arms_calls others)) calls in
        choose (Reaches p world allowed State (EndsWell p world here window (may_change p here w) q.conditions state)) (list_any (int_eq z) labels) (walk p b here s state choices) (walk_arms p b here z others state choices)
        (λ chosen. reach_as p world allowed _ _ (walk p b here s state choices) (λ after ending. ends_wider p world here window (may_change p here s) (may_change p here w) q.conditions state after (part_leaves p here s w uses_s calls_s) ending)
        (structural b leaf test goes lower s pass_s q ignores window is state start
        (true_assumed p world view (is_label t labels) first.conditions (λ v val shows. label_holds v t z (worth v val shows) labels chosen) (true_first p world view (all_assuming (is_label t labels) first.conditions) second.conditions true_there)) choices))
        (λ other. arms_right b leaf test goes lower w t z others (right_true (parts_pass passing s) _ passes) uses_o calls_o rest (ignores_later p world q.supply first.supply q.conditions in_first.later ignores) window (window_later p q.supply first.supply window in_first.later is) state start worth
        (true_second p world view (all_assuming (is_label t labels) first.conditions) second.conditions true_there) choices)

  -- ---- all levels

  no_level : (l : Level) → None ≡ Some l → ⊥
  no_level l e = nothing_there e

  fewer : (n : ℕ) → CorrectBelow p world (suc n) → CorrectBelow p world n
  fewer n correct = record { each = λ here there turns less. correct.each here there turns (omega (arith, less)) }

  pub right_level : (n : ℕ) → CorrectBelow p world n → RightLevel (level p n)
  right_level zero correct =
      let goes : AllGoOn (count_on p None here)
      = λ line f count s counted q ignores n to_n pass_s window is first_state begun end e end_is turn_list exit_list. none_goes_on p world allowed ok here entry passing right line f count s counted q ignores n to_n pass_s window is first_state begun end e end_is turn_list exit_list in
      record {
        statements = structural None (λ s pass. right.leaf s pass 0 correct) (λ e pass. right.test e pass 0 correct) goes (λ l e. absurd (no_level l e));
        counts = goes;
      }
  right_level (suc n) correct =
      let lower = right_level n (fewer n correct) in
      let goes : AllGoOn (count_on p (Some (level p n)) here)
      = λ line f count s counted q ignores m to_m pass_s window is first_state begun end e end_is turn_list exit_list. some_goes_on p world allowed ok here entry passing right line f count s counted q ignores m to_m pass_s window is first_state begun end e end_is turn_list exit_list (level p n) (lower.statements s pass_s) (lower.counts line f count s counted q ignores m to_m pass_s window is first_state begun end e end_is turn_list exit_list) in
      record {
        statements = structural (Some (level p n)) (λ s pass. right.leaf s pass (suc n) correct) (λ e pass. right.test e pass (suc n) correct) goes (λ l e. subst RightLevel (some_is e) lower);
        counts = goes;
      }
