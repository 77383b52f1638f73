-- The conditions before a statement have formulas of sort Bool where those after it have.
use Rattle.std.proofs.Common.{◌≡◌, ℕ, true, List, [], ◌∷◌, ◌++◌, fold, ℤ, pos, Option, Some, None, option_map, refl, sym, ap, subst, ◌∙◌}
use Rattle.std.specs.List.{list_all}
use Rattle.std.specs.Ordering.{int_eq}
use Rattle.std.proofs.lemmas.Bool.{false≢true}
use Rattle.spv_logic.proofs.list.Tests.{left_true, right_true}
use Rattle.spv_logic.specs.declared.names.names.Symbol.{Symbol}
use Rattle.spv_logic.specs.declared.types.Sort.{Sort}
use Rattle.spv_logic.specs.declared.types.Sort.TheVariants as sort
use Rattle.spv_logic.specs.declared.conditions.Kind.{Kind}
use Rattle.spv_logic.specs.declared.conditions.Kind.TheVariants as kind
use Rattle.spv_logic.specs.declared.operators.Head.{Head}
use Rattle.spv_logic.specs.declared.operators.Head.TheVariants as head
use Rattle.spv_logic.specs.Terms.{Term}
use Rattle.spv_logic.specs.Sorts.{variable_sort}
use Rattle.spv_logic.specs.Substitution.{substitute}
use Rattle.spv_logic.specs.Conditions.{Condition}
use Rattle.spv_program.specs.declared.operators.Direction.{Direction}
use Rattle.spv_program.specs.declared.operators.Direction.TheVariants.{Up, Down}
use Rattle.spv_program.specs.declared.types.Item.TheVariants.{Variable}
use Rattle.spv_program.specs.Lists.{all_differ}
use Rattle.spv_program.specs.Types.{sort_of}
use Rattle.spv_program.specs.Formulas.{Annotation}
use Rattle.spv_program.specs.Expressions.{Expression, designator, no_selectors, at_index, at_field, at_cell}
use Rattle.spv_program.specs.Statements.{Counting, Statement, Arms, Empty, Assign, Perform, New, Sequence, If, Case, While, Repeat, For, Assert, no_arms, arm}
use Rattle.spv_program.specs.Programs.{Routine, Program, shapes}
use Rattle.spv_program.specs.Scopes.{name_type, body_scope, sort_or_int}
use Rattle.spv_program.specs.Uses.{expression_calls}
use Rattle.spv_program.specs.Changes.{changed_heads}
use Rattle.spv_program.specs.FormulaTypes.{is_sort, annotation_ok}
use Rattle.spv_program.specs.ExpressionTypes.{expression_sort, designator_type, sort_of_type, may_write}
use Rattle.spv_program.specs.Typing.{labels_in, may_count, counting_ok, statement_ok, arms_ok, declarations_ok, routine_ok, main_ok, well_typed}
use Rattle.spv_program.specs.Laws.{HasSort}
use Rattle.spv_program.specs.Supplies.{Supply, fresh_like, full_supply}
use Rattle.spv_program.specs.Terms.{alone, binary, numeral, item_head, body_term}
use Rattle.spv_program.specs.Calls.{replacing}
use Rattle.spv_program.specs.ExpressionTerms.{Called, valued}
use Rattle.spv_program.proofs.SortFacts.{sort_one, sort_two, equation_sort, is_sort-true, some_is}
use Rattle.spv_program.proofs.FormulaSorting.{scope_sorted}
use Rattle.spv_program.proofs.ExpressionSorting.{mapped, value_sorted, place_sorted}
use Rattle.spv_meaning.specs.Assignments.{has_no_routines}
use Rattle.spv_meaning.specs.Before.{Made, assuming_if_there, all_assuming, replaced, annotation_term, wanted, wanted_if_there, wanted_with, before_calls, negated, renamed, standing_for, next_term, within_term, past_term, is_label, before, before_arms}
use Rattle.spv_meaning.specs.ProgramConditions.{main_conditions, conditions_from, conditions_of}
use Rattle.spv_meaning.proofs.AssignedPrograms.{same_sorts}
use Rattle.spv_rule_soundness.specs.control.Blocks.{calls_nothing, is_control, arms_control, only_control}
use Rattle.spv_rule_soundness.specs.condition_sorts.Sorted.{IsTruth, AreSorted}
use Rattle.spv_rule_soundness.proofs.condition_sorts.Calls.{nothing_called, uncalled}
use Rattle.spv_rule_soundness.proofs.condition_sorts.Substituted.{AllKeep, substituted, pairs_keep}
use Rattle.spv_rule_soundness.proofs.condition_sorts.Lists.{IfTruth, appended, assumed, assumed_there, all_replaced}
use Rattle.spv_rule_soundness.proofs.condition_sorts.Heads.{sort_alone, sort_fresh, renamed_keep, standing_sort, changed_variables}

module _ (p : Program) where
  -- ---- expressions and annotations

  test_sort : (s : Sort) (e : Expression) (n : Supply) → is_sort s (expression_sort p None e) ≡ true → HasSort p (valued p None n e).term s
  test_sort s e n h = value_sorted p None n e s (is_sort-true s _ h)

  not_sort : (t : Term) → IsTruth p t → IsTruth p (negated t)
  not_sort t h = sort_one (shapes p) p.symbols head.Not t sort.Bool sort.Bool h refl

  -- an expression without calls adds nothing in front
  no_calls : (e : Expression) → calls_nothing e ≡ true → (n : Supply) (cs : List Condition) → AreSorted p cs → AreSorted p (before_calls None (valued p None n e).calls cs)
  no_calls e h n cs all =
      subst (λ (calls : List Called). AreSorted p (before_calls None calls cs)) (sym (uncalled p None e (nothing_called (expression_calls e) h) n)) all

  two_calls : (a b : Expression) → calls_nothing a ≡ true → calls_nothing b ≡ true → (n : Supply) (cs : List Condition) → AreSorted p cs → AreSorted p (before_calls None ((valued p None n a).calls ++ (valued p None (valued p None n a).supply b).calls) cs)
  two_calls a b h k n cs all =
      subst (λ (calls : List Called). AreSorted p (before_calls None (calls ++ (valued p None (valued p None n a).supply b).calls) cs)) (sym (uncalled p None a (nothing_called (expression_calls a) h) n))
      (no_calls b k (valued p None n a).supply cs all)

  noted : (a : Annotation) → annotation_ok p (body_scope p None) (Some a) ≡ true → IsTruth p (body_term p None a)
  noted a h = scope_sorted p (body_scope p None) a.formula sort.Bool (is_sort-true sort.Bool _ h)

  noted_there : (f : Option Annotation) → annotation_ok p (body_scope p None) f ≡ true → IfTruth p (annotation_term p None f)
  noted_there None h = tt
  noted_there (Some a) h = noted a h

  one_wanted : (k : Kind) (line : ℕ) (t : Term) → IsTruth p t → AreSorted p (wanted None k line t ∷ [])
  one_wanted k line t h = (record { given = tt; goal = h }, tt)

  wanted_there : (k : Kind) (f : Option Annotation) → annotation_ok p (body_scope p None) f ≡ true → AreSorted p (wanted_if_there p None k f)
  wanted_there k None h = tt
  wanted_there k (Some a) h = one_wanted k a.line (body_term p None a) (noted a h)

  wanted_placed : (k : Kind) (v : Head) (t : Term) (f : Option Annotation) → HasSort p t (variable_sort v) → annotation_ok p (body_scope p None) f ≡ true → AreSorted p (wanted_with p None k v t f)
  wanted_placed k v t None sorted h = tt
  wanted_placed k v t (Some a) sorted h =
      one_wanted k a.line (substitute (replacing ((v, t) ∷ [])) (body_term p None a))
      (substituted p (replacing ((v, t) ∷ [])) (pairs_keep p ((v, t) ∷ []) (sorted, tt)) (body_term p None a) sort.Bool (noted a h))

  invariant_there : (pairs : List (Head × Term)) (f : Option Annotation) → AllKeep p pairs → annotation_ok p (body_scope p None) f ≡ true → IfTruth p (option_map (substitute (replacing pairs)) (annotation_term p None f))
  invariant_there pairs None keep h = tt
  invariant_there pairs (Some a) keep h = substituted p (replacing pairs) (pairs_keep p pairs keep) (body_term p None a) sort.Bool (noted a h)

  -- ---- assignments

  -- a variable has the sort of its type
  place_is : (line : ℕ) (x : Symbol) (s : Sort) → sort_of_type p (designator_type p None (designator line x no_selectors)) ≡ Some s → variable_sort (item_head p None (Variable x)) ≡ s
  place_is line x s e =
      let k = mapped (sort_of p.forms) (designator_type p None (designator line x no_selectors)) s e in
      some_is (place_sorted p None full_supply (designator line x no_selectors) k.item k.is ∙ k.gives)

  assigned : (line : ℕ) (x : Symbol) (e : Expression) → calls_nothing e ≡ true → statement_ok p None (Assign (designator line x no_selectors) e) ≡ true → (q : Made) → AreSorted p q.conditions
      → AreSorted p (before p None (Assign (designator line x no_selectors) e) q).conditions
  assigned line x e calls ok q all =
      let d = designator line x no_selectors in
      let sorts = same_sorts (sort_of_type p (designator_type p None d)) (expression_sort p None e) (right_true (may_write None d) _ ok) in
      let v = valued p None q.supply e in
      let kept : HasSort p v.term (variable_sort (item_head p None (Variable x))) = value_sorted p None q.supply e sorts.common sorts.right ∙ ap Some (sym (place_is line x sorts.common sorts.left)) in
      no_calls e calls q.supply (replaced ((item_head p None (Variable x), v.term) ∷ []) q.conditions)
      (all_replaced p ((item_head p None (Variable x), v.term) ∷ []) q.conditions (kept, tt) all)

  -- ---- FOR

  next_sort : (d : Direction) (t : Term) → HasSort p t sort.Int → HasSort p (next_term d t) sort.Int
  next_sort Up t h = sort_two (shapes p) p.symbols head.Add t (numeral (pos 1)) sort.Int sort.Int sort.Int h refl refl
  next_sort Down t h = sort_two (shapes p) p.symbols head.Sub t (numeral (pos 1)) sort.Int sort.Int sort.Int h refl refl

  within_sort : (d : Direction) (t end : Term) → HasSort p t sort.Int → HasSort p end sort.Int → IsTruth p (within_term d t end)
  within_sort Up t end h k = sort_two (shapes p) p.symbols head.Le t end sort.Int sort.Int sort.Bool h k refl
  within_sort Down t end h k = sort_two (shapes p) p.symbols head.Le end t sort.Int sort.Int sort.Bool k h refl

  past_sort : (d : Direction) (t end : Term) → HasSort p t sort.Int → HasSort p end sort.Int → IsTruth p (past_term d t end)
  past_sort Up t end h k = sort_two (shapes p) p.symbols head.Lt end t sort.Int sort.Int sort.Bool k h refl
  past_sort Down t end h k = sort_two (shapes p) p.symbols head.Lt t end sort.Int sort.Int sort.Bool h k refl

  -- what counts is a number
  counted : (x : Symbol) → is_sort sort.Int (sort_of_type p (name_type p None x)) ≡ true → variable_sort (item_head p None (Variable x)) ≡ sort.Int
  counted x h = ap sort_or_int (is_sort-true sort.Int (sort_of_type p (name_type p None x)) h)

  -- ---- CASE

  joined_labels : (t : Term) → HasSort p t sort.Int → (labels : List ℤ) (s : Term) → IsTruth p s → IsTruth p (fold (λ s y. binary head.Or s (binary head.Eq t (numeral y))) s labels)
  joined_labels t h [] s k = k
  joined_labels t h (y ∷ labels) s k =
      joined_labels t h labels (binary head.Or s (binary head.Eq t (numeral y)))
      (sort_two (shapes p) p.symbols head.Or s (binary head.Eq t (numeral y)) sort.Bool sort.Bool sort.Bool k (equation_sort (shapes p) p.symbols t (numeral y) sort.Int h refl) refl)

  label_sort : (t : Term) (labels : List ℤ) → HasSort p t sort.Int → IsTruth p (is_label t labels)
  label_sort t [] h = refl
  label_sort t (z ∷ labels) h = joined_labels t h labels (binary head.Eq t (numeral z)) (equation_sort (shapes p) p.symbols t (numeral z) sort.Int h refl)

  -- ---- statements

  counting_sorted : (line : ℕ) (f : Option Annotation) (count : Counting) (s : Statement) → is_control (For line f count s) ≡ true → statement_ok p None (For line f count s) ≡ true
      → ((q : Made) → AreSorted p q.conditions → AreSorted p (before p None s q).conditions) → (q : Made) → AreSorted p q.conditions
      → AreSorted p (before p None (For line f count s) q).conditions
  counting_sorted line f count s control ok inside q all =
      let rest = right_true (calls_nothing count.first) _ control in
      let note = left_true (annotation_ok p (body_scope p None) f) _ ok in
      let typed = right_true (annotation_ok p (body_scope p None) f) _ ok in
      let counting = right_true (may_count None count.variable) _ (left_true (counting_ok p None count s) _ typed) in
      let ends = right_true (is_sort sort.Int (sort_of_type p (name_type p None count.variable))) _ counting in
      let number = counted count.variable (left_true _ _ counting) in
      let first = valued p None q.supply count.first in
      let end = valued p None first.supply count.last in
      let first_sort = test_sort sort.Int count.first q.supply (left_true _ _ ends) in
      let end_sort = test_sort sort.Int count.last first.supply (left_true _ _ (right_true (is_sort sort.Int (expression_sort p None count.first)) _ ends)) in
      let v = item_head p None (Variable count.variable) in
      let alone_sort : HasSort p (alone v) sort.Int = sort_alone p v refl ∙ ap Some number in
      let preserved = wanted_with p None kind.Preserved v (next_term count.direction (alone v)) f in
      let before_turn : Made = record { conditions = preserved; supply = end.supply } in
      let turn = before p None s before_turn in
      let heads = changed_heads p None (For line f count s) in
      let fresh = renamed heads turn.supply in
      let keep = renamed_keep p heads turn.supply (changed_variables p (For line f count s)) in
      let last = fresh_like v fresh.supply in
      let invariant = option_map (substitute (replacing fresh.pairs)) (annotation_term p None f) in
      let now = standing_for fresh.pairs v in
      let now_sort : HasSort p now sort.Int = standing_sort p fresh.pairs v keep refl ∙ ap Some number in
      let invariant_is = invariant_there fresh.pairs f keep note in
      let turn_sorted = inside before_turn
      (wanted_placed kind.Preserved v (next_term count.direction (alone v)) f (next_sort count.direction (alone v) alone_sort ∙ ap Some (sym number)) note) in
      let at_first = wanted_with p None kind.Invariant v first.term f in
      let turns = all_assuming (within_term count.direction now end.term) (replaced fresh.pairs turn.conditions) in
      let behind = all_assuming (past_term count.direction now end.term) (replaced fresh.pairs (replaced ((v, alone last.head) ∷ []) q.conditions)) in
      let turns_sorted = assumed p (within_term count.direction now end.term) (replaced fresh.pairs turn.conditions) (within_sort count.direction now end.term now_sort end_sort)
      (all_replaced p fresh.pairs turn.conditions keep turn_sorted) in
      let behind_sorted = assumed p (past_term count.direction now end.term) (replaced fresh.pairs (replaced ((v, alone last.head) ∷ []) q.conditions)) (past_sort count.direction now end.term now_sort end_sort)
      (all_replaced p fresh.pairs (replaced ((v, alone last.head) ∷ []) q.conditions) keep (all_replaced p ((v, alone last.head) ∷ []) q.conditions (sort_fresh p v fresh.supply refl, tt) all)) in
      let made = at_first ++ (assuming_if_there invariant turns ++ assuming_if_there invariant behind) in
      let made_sorted = appended p at_first (assuming_if_there invariant turns ++ assuming_if_there invariant behind)
      (wanted_placed kind.Invariant v first.term f (first_sort ∙ ap Some (sym number)) note)
      (appended p (assuming_if_there invariant turns) (assuming_if_there invariant behind) (assumed_there p invariant turns invariant_is turns_sorted) (assumed_there p invariant behind invariant_is behind_sorted)) in
      two_calls count.first count.last (left_true _ _ control) (left_true _ _ rest) q.supply made made_sorted

  mutual
    pub sorted : (s : Statement) → is_control s ≡ true → statement_ok p None s ≡ true → (q : Made) → AreSorted p q.conditions → AreSorted p (before p None s q).conditions
    sorted Empty control ok q all = all
    sorted (Assign (designator line x no_selectors) e) control ok q all = assigned line x e control ok q all
    sorted (Assign (designator line x (at_index t i others)) e) control ok q all = absurd (false≢true control)
    sorted (Assign (designator line x (at_field t f others)) e) control ok q all = absurd (false≢true control)
    sorted (Assign (designator line x (at_cell l t others)) e) control ok q all = absurd (false≢true control)
    sorted (Perform c) control ok q all = absurd (false≢true control)
    sorted (New line d t) control ok q all = absurd (false≢true control)
    sorted (Sequence a b) control ok q all =
        sorted a (left_true _ _ control) (left_true _ _ ok) (before p None b q)
        (sorted b (right_true (is_control a) _ control) (right_true (statement_ok p None a) _ ok) q all)
    sorted (If line e a b) control ok q all =
        let v = valued p None q.supply e in
        let ways = right_true (calls_nothing e) _ control in
        let typed = right_true (is_sort sort.Bool (expression_sort p None e)) _ ok in
        let test = test_sort sort.Bool e q.supply (left_true _ _ ok) in
        let before_first : Made = record { conditions = q.conditions; supply = v.supply } in
        let first = before p None a before_first in
        let before_second : Made = record { conditions = q.conditions; supply = first.supply } in
        let second = before p None b before_second in
        no_calls e (left_true _ _ control) q.supply (all_assuming v.term first.conditions ++ all_assuming (negated v.term) second.conditions)
        (appended p (all_assuming v.term first.conditions) (all_assuming (negated v.term) second.conditions)
        (assumed p v.term first.conditions test (sorted a (left_true _ _ ways) (left_true _ _ typed) before_first all))
        (assumed p (negated v.term) second.conditions (not_sort v.term test) (sorted b (right_true (is_control a) _ ways) (right_true (statement_ok p None a) _ typed) before_second all)))
    sorted (Case line e arms) control ok q all =
        let v = valued p None q.supply e in
        let made = before_arms p None v.term arms (record { conditions = q.conditions; supply = v.supply }) in
        no_calls e (left_true _ _ control) q.supply made.conditions
        (arms_sorted v.term (test_sort sort.Int e q.supply (left_true _ _ ok)) arms (right_true (calls_nothing e) _ control)
        (right_true (all_differ int_eq (labels_in arms)) _ (right_true (is_sort sort.Int (expression_sort p None e)) _ ok)) (record { conditions = q.conditions; supply = v.supply }) all)
    sorted (While line f e s) control ok q all =
        let v = valued p None q.supply e in
        let note = left_true (annotation_ok p (body_scope p None) f) _ ok in
        let typed = right_true (annotation_ok p (body_scope p None) f) _ ok in
        let test = test_sort sort.Bool e q.supply (left_true _ _ typed) in
        let before_turn : Made = record { conditions = wanted_if_there p None kind.Preserved f; supply = v.supply } in
        let turn = before p None s before_turn in
        let fresh = renamed (changed_heads p None (While line f e s)) turn.supply in
        let uses = all_assuming v.term turn.conditions ++ all_assuming (negated v.term) q.conditions in
        let inside = before_calls None v.calls uses in
        appended p (wanted_if_there p None kind.Invariant f) (replaced fresh.pairs (assuming_if_there (annotation_term p None f) inside)) (wanted_there kind.Invariant f note)
        (all_replaced p fresh.pairs (assuming_if_there (annotation_term p None f) inside) (renamed_keep p (changed_heads p None (While line f e s)) turn.supply (changed_variables p (While line f e s)))
        (assumed_there p (annotation_term p None f) inside (noted_there f note)
        (no_calls e (left_true _ _ control) q.supply uses
        (appended p (all_assuming v.term turn.conditions) (all_assuming (negated v.term) q.conditions)
        (assumed p v.term turn.conditions test (sorted s (right_true (calls_nothing e) _ control) (right_true (is_sort sort.Bool (expression_sort p None e)) _ typed) before_turn (wanted_there kind.Preserved f note)))
        (assumed p (negated v.term) q.conditions (not_sort v.term test) all)))))
    sorted (Repeat line f s e) control ok q all =
        let v = valued p None q.supply e in
        let note = left_true (annotation_ok p (body_scope p None) f) _ ok in
        let typed = right_true (annotation_ok p (body_scope p None) f) _ ok in
        let test = test_sort sort.Bool e q.supply (left_true _ _ typed) in
        let again = wanted_if_there p None kind.Preserved f in
        let uses = all_assuming (negated v.term) again ++ all_assuming v.term q.conditions in
        let before_turn : Made = record { conditions = before_calls None v.calls uses; supply = v.supply } in
        let turn = before p None s before_turn in
        let fresh = renamed (changed_heads p None (Repeat line f s e)) turn.supply in
        appended p (wanted_if_there p None kind.Invariant f) (replaced fresh.pairs (assuming_if_there (annotation_term p None f) turn.conditions)) (wanted_there kind.Invariant f note)
        (all_replaced p fresh.pairs (assuming_if_there (annotation_term p None f) turn.conditions) (renamed_keep p (changed_heads p None (Repeat line f s e)) turn.supply (changed_variables p (Repeat line f s e)))
        (assumed_there p (annotation_term p None f) turn.conditions (noted_there f note)
        (sorted s (right_true (calls_nothing e) _ control) (right_true (is_sort sort.Bool (expression_sort p None e)) _ typed) before_turn
        (no_calls e (left_true _ _ control) q.supply uses
        (appended p (all_assuming (negated v.term) again) (all_assuming v.term q.conditions)
        (assumed p (negated v.term) again (not_sort v.term test) (wanted_there kind.Preserved f note))
        (assumed p v.term q.conditions test all))))))
    sorted (For line f count s) control ok q all =
        counting_sorted line f count s control ok
        (sorted s (right_true (calls_nothing count.last) _ (right_true (calls_nothing count.first) _ control)) (right_true (counting_ok p None count s) _ (right_true (annotation_ok p (body_scope p None) f) _ ok))) q all
    sorted (Assert a) control ok q all = (record { given = tt; goal = noted a ok }, assumed p (body_term p None a) q.conditions (noted a ok) all)

    arms_sorted : (t : Term) → HasSort p t sort.Int → (arms : Arms) → arms_control arms ≡ true → arms_ok p None arms ≡ true → (q : Made) → AreSorted p q.conditions → AreSorted p (before_arms p None t arms q).conditions
    arms_sorted t h no_arms control ok q all = tt
    arms_sorted t h (arm labels s others) control ok q all =
        let first = before p None s q in
        let before_others : Made = record { conditions = q.conditions; supply = first.supply } in
        let second = before_arms p None t others before_others in
        appended p (all_assuming (is_label t labels) first.conditions) second.conditions
        (assumed p (is_label t labels) first.conditions (label_sort t labels h) (sorted s (left_true _ _ control) (left_true _ _ ok) q all))
        (arms_sorted t h others (right_true (is_control s) _ control) (right_true (statement_ok p None s) _ ok) before_others all)

  -- ---- programs

  main_sorted : is_control p.main.body ≡ true → main_ok p p.main ≡ true → (n : Supply) → AreSorted p (main_conditions p n)
  main_sorted control ok n =
      let inside = right_true (annotation_ok p (body_scope p None) p.main.entry) _ ok in
      let exit : Made = record { conditions = wanted_if_there p None kind.Exit p.main.exit; supply = n } in
      assumed_there p (annotation_term p None p.main.entry) (before p None p.main.body exit).conditions (noted_there p.main.entry (left_true _ _ ok))
      (sorted p.main.body control (right_true (annotation_ok p (body_scope p None) p.main.exit) _ inside) exit (wanted_there kind.Exit p.main.exit (left_true _ _ inside)))

pub all_sorted : (p : Program) → well_typed p ≡ true → only_control p ≡ true → AreSorted p (conditions_of p)
all_sorted p typed covered = by p.routines refl
  where
    control : is_control p.main.body ≡ true
    control = right_true (has_no_routines p.routines) _ covered

    main : main_ok p p.main ≡ true
    main = right_true (list_all (routine_ok p) p.routines) _ (right_true (declarations_ok p) _ typed)

    by : (rs : List Routine) → p.routines ≡ rs → AreSorted p (conditions_from p 0 p.routines full_supply)
    by [] e = subst (λ (routines : List Routine). AreSorted p (conditions_from p 0 routines full_supply)) (sym e) (main_sorted p control main full_supply)
    by (r ∷ rs) e = absurd (false≢true (sym (ap has_no_routines e) ∙ left_true _ _ covered))
