-- The conditions before a statement have formulas of sort Bool where those after it have; so all conditions of a program have.
use Rattle.std.proofs.Common.{◌≡◌, ℕ, true, List, [], ◌∷◌, ◌++◌, fold, ℤ, pos, Option, Some, None, option_map, refl, sym, ap, subst, ◌∙◌}
use Rattle.std.specs.List.{list_all}
use Rattle.std.specs.Ordering.{int_eq}
use Rattle.std.proofs.Common.{Bool, false, filter, not, cond, map, suc, ◌+◌, arith}
use Rattle.spv_logic.specs.declared.names.names.Symbol.{Symbol}
use Rattle.spv_logic.specs.declared.types.TypeId.{TypeId}
use Rattle.spv_logic.specs.declared.conditions.RoutineId.{RoutineId}
use Rattle.spv_program.specs.declared.types.Item.{Item}
use Rattle.spv_program.specs.Lists.{item_at}
use Rattle.spv_program.specs.Expressions.{Designator, Call, call}
use Rattle.spv_program.specs.Programs.{Formal, routine_at, routine_in}
use Rattle.spv_program.specs.Scopes.{entry_scope, exit_scope, item_sort}
use Rattle.spv_program.specs.Supplies.{fresh_variable}
use Rattle.spv_program.specs.Places.{whole_with}
use Rattle.spv_program.specs.Terms.{ternary, entry_term}
use Rattle.spv_program.specs.Calls.{formal_head}
use Rattle.spv_program.specs.ExpressionTerms.{placed, argued}
use Rattle.spv_meaning.specs.Before.{before_entering, first_name, title_of}
use Rattle.spv_meaning.specs.ProgramConditions.{initial_pairs, start_pairs, wanted_exit, routine_conditions}
use Rattle.spv_flow_parts.proofs.calls.Wholes.{whole_sorted}
use Rattle.spv_conditions.proofs.condition_sorts.Called.{RoutineRight, right_at, calls_both, calls_in_front, both_keep, item_sorted, entry_truth, exit_truth, fitting, arguments_sorted, value_calls, place_calls, argument_calls}
use Rattle.spv_conditions.proofs.condition_sorts.Entering.{rooted, arguments_rooted, entering_sorted, procedure_of, led, membership_sort, extended_sort}
use Rattle.spv_logic.proofs.list.Tests.{left_true, right_true}
use Rattle.spv_logic.specs.declared.names.names.Symbol.{Symbol}
use Rattle.spv_logic.specs.declared.types.Sort.{Sort}
use Rattle.spv_logic.specs.declared.types.Sort.TheVariants as sort
use Rattle.spv_logic.specs.declared.conditions.Kind.{Kind}
use Rattle.spv_logic.specs.declared.conditions.Kind.TheVariants as kind
use Rattle.spv_logic.specs.declared.operators.Head.{Head}
use Rattle.spv_logic.specs.declared.operators.Head.TheVariants as head
use Rattle.spv_logic.specs.Terms.{Term}
use Rattle.spv_logic.specs.Sorts.{variable_sort}
use Rattle.spv_logic.specs.Substitution.{substitute}
use Rattle.spv_logic.specs.Conditions.{Condition}
use Rattle.spv_program.specs.declared.operators.Direction.{Direction}
use Rattle.spv_program.specs.declared.operators.Direction.TheVariants.{Up, Down}
use Rattle.spv_program.specs.declared.types.Item.TheVariants.{Variable}
use Rattle.spv_program.specs.Lists.{all_differ}
use Rattle.spv_program.specs.Types.{sort_of}
use Rattle.spv_program.specs.Formulas.{Annotation}
use Rattle.spv_program.specs.Expressions.{Expression}
use Rattle.spv_program.specs.Statements.{Counting, Statement, Arms, Empty, Assign, Perform, New, Sequence, If, Case, While, Repeat, For, Assert, no_arms, arm}
use Rattle.spv_program.specs.Programs.{Routine, Program, shapes}
use Rattle.spv_program.specs.Scopes.{name_type, body_scope, sort_or_int}
use Rattle.spv_program.specs.Changes.{changed_heads}
use Rattle.spv_program.specs.FormulaTypes.{is_sort, annotation_ok}
use Rattle.spv_program.specs.ExpressionTypes.{expression_sort, designator_type, sort_of_type, may_write}
use Rattle.spv_program.specs.Typing.{labels_in, may_count, counting_ok, statement_ok, arms_ok, declarations_ok, routine_ok, main_ok, well_typed}
use Rattle.spv_program.specs.Laws.{HasSort}
use Rattle.spv_program.specs.Supplies.{Supply, fresh_like, full_supply}
use Rattle.spv_program.specs.Terms.{alone, binary, numeral, item_head, body_term}
use Rattle.spv_program.specs.Calls.{replacing}
use Rattle.spv_program.specs.ExpressionTerms.{valued}
use Rattle.spv_program.proofs.SortFacts.{sort_one, sort_two, equation_sort, is_sort-true}
use Rattle.spv_program.proofs.FormulaSorting.{scope_sorted}
use Rattle.spv_program.proofs.ExpressionSorting.{mapped, value_sorted, place_sorted}
use Rattle.spv_meaning.specs.Before.{Made, assuming_if_there, all_assuming, replaced, annotation_term, wanted, wanted_if_there, wanted_with, before_calls, negated, renamed, standing_for, next_term, within_term, past_term, is_label, before, before_arms}
use Rattle.spv_meaning.specs.ProgramConditions.{main_conditions, conditions_from, conditions_of}
use Rattle.spv_meaning.proofs.AssignedPrograms.{same_sorts}
use Rattle.spv_rule_soundness.specs.condition_sorts.Sorted.{IsTruth, AreSorted}
use Rattle.spv_conditions.proofs.condition_sorts.Substituted.{AllKeep, substituted, pairs_keep}
use Rattle.spv_conditions.proofs.condition_sorts.Lists.{IfTruth, appended, assumed, assumed_there, all_replaced}
use Rattle.spv_conditions.proofs.condition_sorts.Heads.{sort_alone, sort_fresh, renamed_keep, standing_sort, changed_variables}

module _ (p : Program) (typed : well_typed p ≡ true) (here : Option RoutineId) where
  abbrev r : Option Routine
  r = routine_in p here

  -- ---- expressions and annotations

  test_sort : (s : Sort) (e : Expression) (n : Supply) → is_sort s (expression_sort p r e) ≡ true → HasSort p (valued p r n e).term s
  test_sort s e n h = value_sorted p r n e s (is_sort-true s _ h)

  not_sort : (t : Term) → IsTruth p t → IsTruth p (negated t)
  not_sort t h = sort_one (shapes p) p.symbols head.Not t sort.Bool sort.Bool h refl

  -- an expression with its calls in front
  calls_of : (s : Sort) (e : Expression) → is_sort s (expression_sort p r e) ≡ true → (n : Supply) (cs : List Condition) → AreSorted p cs → AreSorted p (before_calls here (valued p r n e).calls cs)
  calls_of s e h n cs all = calls_in_front p here (valued p r n e).calls cs (value_calls p typed r n e s (is_sort-true s _ h)) all

  noted : (a : Annotation) → annotation_ok p (body_scope p r) (Some a) ≡ true → IsTruth p (body_term p r a)
  noted a h = scope_sorted p (body_scope p r) a.formula sort.Bool (is_sort-true sort.Bool _ h)

  noted_there : (f : Option Annotation) → annotation_ok p (body_scope p r) f ≡ true → IfTruth p (annotation_term p here f)
  noted_there None h = tt
  noted_there (Some a) h = noted a h

  one_wanted : (k : Kind) (line : ℕ) (t : Term) → IsTruth p t → AreSorted p (wanted here k line t ∷ [])
  one_wanted k line t h = (record { given = tt; goal = h }, tt)

  wanted_there : (k : Kind) (f : Option Annotation) → annotation_ok p (body_scope p r) f ≡ true → AreSorted p (wanted_if_there p here k f)
  wanted_there k None h = tt
  wanted_there k (Some a) h = one_wanted k a.line (body_term p r a) (noted a h)

  wanted_placed : (k : Kind) (v : Head) (t : Term) (f : Option Annotation) → HasSort p t (variable_sort v) → annotation_ok p (body_scope p r) f ≡ true → AreSorted p (wanted_with p here k v t f)
  wanted_placed k v t None sorted h = tt
  wanted_placed k v t (Some a) sorted h =
      one_wanted k a.line (substitute (replacing ((v, t) ∷ [])) (body_term p r a))
      (substituted p (replacing ((v, t) ∷ [])) (pairs_keep p ((v, t) ∷ []) (sorted, tt)) (body_term p r a) sort.Bool (noted a h))

  invariant_there : (pairs : List (Head × Term)) (f : Option Annotation) → AllKeep p pairs → annotation_ok p (body_scope p r) f ≡ true → IfTruth p (option_map (substitute (replacing pairs)) (annotation_term p here f))
  invariant_there pairs None keep h = tt
  invariant_there pairs (Some a) keep h = substituted p (replacing pairs) (pairs_keep p pairs keep) (body_term p r a) sort.Bool (noted a h)

  -- ---- assignments, NEW and calls of procedures

  -- the whole that a place is in, with something of the sort of the place in it
  whole_keeps : (n : Supply) (d : Designator) (t : TypeId) (v : Term) → designator_type p r d ≡ Some t → HasSort p v (sort_of p.forms t)
      → AllKeep p (((placed p r n d).target.root, whole_with (placed p r n d).target v) ∷ [])
  whole_keeps n d t v h k =
      let target = (placed p r n d).target in
      (whole_sorted (shapes p) p.symbols target.root target.pointer target.path v (sort_of p.forms t) (rooted p r n d) (place_sorted p r n d t h) k, tt)

  assigned : (d : Designator) (e : Expression) → statement_ok p r (Assign d e) ≡ true → (q : Made) → AreSorted p q.conditions → AreSorted p (before p here (Assign d e) q).conditions
  assigned d e ok q all =
      let sorts = same_sorts (sort_of_type p (designator_type p r d)) (expression_sort p r e) (right_true (may_write r d) _ ok) in
      let place = placed p r q.supply d in
      let v = valued p r place.supply e in
      let k = mapped (sort_of p.forms) (designator_type p r d) sorts.common sorts.left in
      let value : HasSort p v.term (sort_of p.forms k.item) = value_sorted p r place.supply e sorts.common sorts.right ∙ sym k.gives in
      calls_in_front p here (place.calls ++ v.calls) (replaced ((place.target.root, whole_with place.target v.term) ∷ []) q.conditions)
      (calls_both p place.calls v.calls (place_calls p typed r q.supply d k.item k.is) (value_calls p typed r place.supply e sorts.common sorts.right))
      (all_replaced p ((place.target.root, whole_with place.target v.term) ∷ []) q.conditions (whole_keeps q.supply d k.item v.term k.is value) all)

  created : (line : ℕ) (d : Designator) (t : TypeId) → statement_ok p r (New line d t) ≡ true → (q : Made) → AreSorted p q.conditions → AreSorted p (before p here (New line d t) q).conditions
  created line d t ok q all =
      let k = led p t (designator_type p r d) (right_true (may_write r d) _ ok) in
      let place = placed p r q.supply d in
      let pointer = fresh_variable (first_name d) (sort.Ptr t) place.supply in
      let content = fresh_variable (title_of p t) (sort_of p.forms t) pointer.supply in
      let class = alone (head.ClassVar t 0) in
      let to_place = (place.target.root, whole_with place.target (alone pointer.head)) ∷ [] in
      let extended = ternary head.Extend class (alone pointer.head) (alone content.head) in
      let to_class = (head.ClassVar t 0, extended) ∷ [] in
      let inner = replaced to_class (replaced to_place q.conditions) in
      let member = negated (binary head.PointerTo (alone pointer.head) class) in
      let nil = negated (binary head.Eq (alone pointer.head) (alone (head.Nil t))) in
      calls_in_front p here place.calls (all_assuming nil (all_assuming member inner)) (place_calls p typed r q.supply d k.type k.is)
      (assumed p nil (all_assuming member inner) (not_sort (binary head.Eq (alone pointer.head) (alone (head.Nil t))) (equation_sort (shapes p) p.symbols (alone pointer.head) (alone (head.Nil t)) (sort.Ptr t) refl refl))
      (assumed p member inner (not_sort (binary head.PointerTo (alone pointer.head) class) (sort_two (shapes p) p.symbols head.PointerTo (alone pointer.head) class (sort.Ptr t) (sort.Class t) sort.Bool refl refl (membership_sort p t)))
      (all_replaced p to_class (replaced to_place q.conditions) (extended_sort p t (alone pointer.head) (alone content.head) refl refl, tt)
      (all_replaced p to_place q.conditions (whole_keeps q.supply d k.type (alone pointer.head) k.is (ap Some (sym k.sort_is))) all))))

  performed : (c : Call) → statement_ok p r (Perform c) ≡ true → (q : Made) → AreSorted p q.conditions → AreSorted p (before p here (Perform c) q).conditions
  performed (call id line given) ok q all =
      let k = procedure_of p r (call id line given) ok in
      let f = fitting p r id line given k.routine k.is in
      let arguments = argued p r q.supply given in
      subst (λ (o : Option Routine). AreSorted p (before_calls here arguments.calls (before_entering p here line o arguments q.conditions).conditions)) (sym f.there)
      (calls_in_front p here arguments.calls (before_entering p here line (Some k.routine) arguments q.conditions).conditions (argument_calls p typed r q.supply k.routine.formals given f.fit)
      (entering_sorted p k.routine here line (right_at p typed id k.routine f.there) arguments (arguments_sorted p typed r q.supply k.routine.formals given f.fit) (arguments_rooted p r q.supply given) q.conditions all))

  -- ---- FOR

  next_sort : (d : Direction) (t : Term) → HasSort p t sort.Int → HasSort p (next_term d t) sort.Int
  next_sort Up t h = sort_two (shapes p) p.symbols head.Add t (numeral (pos 1)) sort.Int sort.Int sort.Int h refl refl
  next_sort Down t h = sort_two (shapes p) p.symbols head.Sub t (numeral (pos 1)) sort.Int sort.Int sort.Int h refl refl

  within_sort : (d : Direction) (t end : Term) → HasSort p t sort.Int → HasSort p end sort.Int → IsTruth p (within_term d t end)
  within_sort Up t end h k = sort_two (shapes p) p.symbols head.Le t end sort.Int sort.Int sort.Bool h k refl
  within_sort Down t end h k = sort_two (shapes p) p.symbols head.Le end t sort.Int sort.Int sort.Bool k h refl

  past_sort : (d : Direction) (t end : Term) → HasSort p t sort.Int → HasSort p end sort.Int → IsTruth p (past_term d t end)
  past_sort Up t end h k = sort_two (shapes p) p.symbols head.Lt end t sort.Int sort.Int sort.Bool k h refl
  past_sort Down t end h k = sort_two (shapes p) p.symbols head.Lt t end sort.Int sort.Int sort.Bool h k refl

  -- what counts is a number
  counted : (x : Symbol) → is_sort sort.Int (sort_of_type p (name_type p r x)) ≡ true → variable_sort (item_head p r (Variable x)) ≡ sort.Int
  counted x h = ap sort_or_int (is_sort-true sort.Int (sort_of_type p (name_type p r x)) h)

  -- ---- CASE

  joined_labels : (t : Term) → HasSort p t sort.Int → (labels : List ℤ) (s : Term) → IsTruth p s → IsTruth p (fold (λ s y. binary head.Or s (binary head.Eq t (numeral y))) s labels)
  joined_labels t h [] s k = k
  joined_labels t h (y ∷ labels) s k =
      joined_labels t h labels (binary head.Or s (binary head.Eq t (numeral y)))
      (sort_two (shapes p) p.symbols head.Or s (binary head.Eq t (numeral y)) sort.Bool sort.Bool sort.Bool k (equation_sort (shapes p) p.symbols t (numeral y) sort.Int h refl) refl)

  label_sort : (t : Term) (labels : List ℤ) → HasSort p t sort.Int → IsTruth p (is_label t labels)
  label_sort t [] h = refl
  label_sort t (z ∷ labels) h = joined_labels t h labels (binary head.Eq t (numeral z)) (equation_sort (shapes p) p.symbols t (numeral z) sort.Int h refl)

  -- ---- statements

  counting_sorted : (line : ℕ) (f : Option Annotation) (count : Counting) (s : Statement) → statement_ok p r (For line f count s) ≡ true
      → ((q : Made) → AreSorted p q.conditions → AreSorted p (before p here s q).conditions) → (q : Made) → AreSorted p q.conditions
      → AreSorted p (before p here (For line f count s) q).conditions
  counting_sorted line f count s ok inside q all =
      let note = left_true (annotation_ok p (body_scope p r) f) _ ok in
      let fits = right_true (annotation_ok p (body_scope p r) f) _ ok in
      let counting = right_true (may_count r count.variable) _ (left_true (counting_ok p r count s) _ fits) in
      let ends = right_true (is_sort sort.Int (sort_of_type p (name_type p r count.variable))) _ counting in
      let number = counted count.variable (left_true _ _ counting) in
      let first = valued p r q.supply count.first in
      let end = valued p r first.supply count.last in
      let first_number = left_true (is_sort sort.Int (expression_sort p r count.first)) _ ends in
      let end_number = left_true (is_sort sort.Int (expression_sort p r count.last)) _ (right_true (is_sort sort.Int (expression_sort p r count.first)) _ ends) in
      let first_sort = test_sort sort.Int count.first q.supply first_number in
      let end_sort = test_sort sort.Int count.last first.supply end_number in
      let v = item_head p r (Variable count.variable) in
      let alone_sort : HasSort p (alone v) sort.Int = sort_alone p v refl ∙ ap Some number in
      let preserved = wanted_with p here kind.Preserved v (next_term count.direction (alone v)) f in
      let before_turn : Made = record { conditions = preserved; supply = end.supply } in
      let turn = before p here s before_turn in
      let heads = changed_heads p r (For line f count s) in
      let fresh = renamed heads turn.supply in
      let keep = renamed_keep p heads turn.supply (changed_variables p r (For line f count s)) in
      let last = fresh_like v fresh.supply in
      let invariant = option_map (substitute (replacing fresh.pairs)) (annotation_term p here f) in
      let now = standing_for fresh.pairs v in
      let now_sort : HasSort p now sort.Int = standing_sort p fresh.pairs v keep refl ∙ ap Some number in
      let invariant_is = invariant_there fresh.pairs f keep note in
      let turn_sorted = inside before_turn
      (wanted_placed kind.Preserved v (next_term count.direction (alone v)) f (next_sort count.direction (alone v) alone_sort ∙ ap Some (sym number)) note) in
      let at_first = wanted_with p here kind.Invariant v first.term f in
      let turns = all_assuming (within_term count.direction now end.term) (replaced fresh.pairs turn.conditions) in
      let behind = all_assuming (past_term count.direction now end.term) (replaced fresh.pairs (replaced ((v, alone last.head) ∷ []) q.conditions)) in
      let turns_sorted = assumed p (within_term count.direction now end.term) (replaced fresh.pairs turn.conditions) (within_sort count.direction now end.term now_sort end_sort)
      (all_replaced p fresh.pairs turn.conditions keep turn_sorted) in
      let behind_sorted = assumed p (past_term count.direction now end.term) (replaced fresh.pairs (replaced ((v, alone last.head) ∷ []) q.conditions)) (past_sort count.direction now end.term now_sort end_sort)
      (all_replaced p fresh.pairs (replaced ((v, alone last.head) ∷ []) q.conditions) keep (all_replaced p ((v, alone last.head) ∷ []) q.conditions (sort_fresh p v fresh.supply refl, tt) all)) in
      let made = at_first ++ (assuming_if_there invariant turns ++ assuming_if_there invariant behind) in
      let made_sorted = appended p at_first (assuming_if_there invariant turns ++ assuming_if_there invariant behind)
      (wanted_placed kind.Invariant v first.term f (first_sort ∙ ap Some (sym number)) note)
      (appended p (assuming_if_there invariant turns) (assuming_if_there invariant behind) (assumed_there p invariant turns invariant_is turns_sorted) (assumed_there p invariant behind invariant_is behind_sorted)) in
      calls_in_front p here (first.calls ++ end.calls) made
      (calls_both p first.calls end.calls (value_calls p typed r q.supply count.first sort.Int (is_sort-true sort.Int _ first_number)) (value_calls p typed r first.supply count.last sort.Int (is_sort-true sort.Int _ end_number))) made_sorted

  mutual
    pub sorted : (s : Statement) → statement_ok p r s ≡ true → (q : Made) → AreSorted p q.conditions → AreSorted p (before p here s q).conditions
    sorted Empty ok q all = all
    sorted (Assign d e) ok q all = assigned d e ok q all
    sorted (Perform c) ok q all = performed c ok q all
    sorted (New line d t) ok q all = created line d t ok q all
    sorted (Sequence a b) ok q all =
        sorted a (left_true _ _ ok) (before p here b q) (sorted b (right_true (statement_ok p r a) _ ok) q all)
    sorted (If line e a b) ok q all =
        let v = valued p r q.supply e in
        let ways = right_true (is_sort sort.Bool (expression_sort p r e)) _ ok in
        let test = test_sort sort.Bool e q.supply (left_true _ _ ok) in
        let before_first : Made = record { conditions = q.conditions; supply = v.supply } in
        let first = before p here a before_first in
        let before_second : Made = record { conditions = q.conditions; supply = first.supply } in
        let second = before p here b before_second in
        calls_of sort.Bool e (left_true _ _ ok) q.supply (all_assuming v.term first.conditions ++ all_assuming (negated v.term) second.conditions)
        (appended p (all_assuming v.term first.conditions) (all_assuming (negated v.term) second.conditions)
        (assumed p v.term first.conditions test (sorted a (left_true _ _ ways) before_first all))
        (assumed p (negated v.term) second.conditions (not_sort v.term test) (sorted b (right_true (statement_ok p r a) _ ways) before_second all)))
    sorted (Case line e arms) ok q all =
        let v = valued p r q.supply e in
        let made = before_arms p here v.term arms (record { conditions = q.conditions; supply = v.supply }) in
        calls_of sort.Int e (left_true _ _ ok) q.supply made.conditions
        (arms_sorted v.term (test_sort sort.Int e q.supply (left_true _ _ ok)) arms
        (right_true (all_differ int_eq (labels_in arms)) _ (right_true (is_sort sort.Int (expression_sort p r e)) _ ok)) (record { conditions = q.conditions; supply = v.supply }) all)
    sorted (While line f e s) ok q all =
        let v = valued p r q.supply e in
        let note = left_true (annotation_ok p (body_scope p r) f) _ ok in
        let fits = right_true (annotation_ok p (body_scope p r) f) _ ok in
        let test = test_sort sort.Bool e q.supply (left_true _ _ fits) in
        let before_turn : Made = record { conditions = wanted_if_there p here kind.Preserved f; supply = v.supply } in
        let turn = before p here s before_turn in
        let fresh = renamed (changed_heads p r (While line f e s)) turn.supply in
        let uses = all_assuming v.term turn.conditions ++ all_assuming (negated v.term) q.conditions in
        let inside = before_calls here v.calls uses in
        appended p (wanted_if_there p here kind.Invariant f) (replaced fresh.pairs (assuming_if_there (annotation_term p here f) inside)) (wanted_there kind.Invariant f note)
        (all_replaced p fresh.pairs (assuming_if_there (annotation_term p here f) inside) (renamed_keep p (changed_heads p r (While line f e s)) turn.supply (changed_variables p r (While line f e s)))
        (assumed_there p (annotation_term p here f) inside (noted_there f note)
        (calls_of sort.Bool e (left_true _ _ fits) q.supply uses
        (appended p (all_assuming v.term turn.conditions) (all_assuming (negated v.term) q.conditions)
        (assumed p v.term turn.conditions test (sorted s (right_true (is_sort sort.Bool (expression_sort p r e)) _ fits) before_turn (wanted_there kind.Preserved f note)))
        (assumed p (negated v.term) q.conditions (not_sort v.term test) all)))))
    sorted (Repeat line f s e) ok q all =
        let v = valued p r q.supply e in
        let note = left_true (annotation_ok p (body_scope p r) f) _ ok in
        let fits = right_true (annotation_ok p (body_scope p r) f) _ ok in
        let test = test_sort sort.Bool e q.supply (left_true _ _ fits) in
        let again = wanted_if_there p here kind.Preserved f in
        let uses = all_assuming (negated v.term) again ++ all_assuming v.term q.conditions in
        let before_turn : Made = record { conditions = before_calls here v.calls uses; supply = v.supply } in
        let turn = before p here s before_turn in
        let fresh = renamed (changed_heads p r (Repeat line f s e)) turn.supply in
        appended p (wanted_if_there p here kind.Invariant f) (replaced fresh.pairs (assuming_if_there (annotation_term p here f) turn.conditions)) (wanted_there kind.Invariant f note)
        (all_replaced p fresh.pairs (assuming_if_there (annotation_term p here f) turn.conditions) (renamed_keep p (changed_heads p r (Repeat line f s e)) turn.supply (changed_variables p r (Repeat line f s e)))
        (assumed_there p (annotation_term p here f) turn.conditions (noted_there f note)
        (sorted s (right_true (is_sort sort.Bool (expression_sort p r e)) _ fits) before_turn
        (calls_of sort.Bool e (left_true _ _ fits) q.supply uses
        (appended p (all_assuming (negated v.term) again) (all_assuming v.term q.conditions)
        (assumed p (negated v.term) again (not_sort v.term test) (wanted_there kind.Preserved f note))
        (assumed p v.term q.conditions test all))))))
    sorted (For line f count s) ok q all =
        counting_sorted line f count s ok
        (sorted s (right_true (counting_ok p r count s) _ (right_true (annotation_ok p (body_scope p r) f) _ ok))) q all
    sorted (Assert a) ok q all = (record { given = tt; goal = noted a ok }, assumed p (body_term p r a) q.conditions (noted a ok) all)

    arms_sorted : (t : Term) → HasSort p t sort.Int → (arms : Arms) → arms_ok p r arms ≡ true → (q : Made) → AreSorted p q.conditions → AreSorted p (before_arms p here t arms q).conditions
    arms_sorted t h no_arms ok q all = tt
    arms_sorted t h (arm labels s others) ok q all =
        let first = before p here s q in
        let before_others : Made = record { conditions = q.conditions; supply = first.supply } in
        let second = before_arms p here t others before_others in
        appended p (all_assuming (is_label t labels) first.conditions) second.conditions
        (assumed p (is_label t labels) first.conditions (label_sort t labels h) (sorted s (left_true _ _ ok) q all))
        (arms_sorted t h others (right_true (statement_ok p r s) _ ok) before_others all)

-- ---- programs

module _ (p : Program) (typed : well_typed p ≡ true) where
  main_right : main_ok p p.main ≡ true
  main_right = right_true (list_all (routine_ok p) p.routines) _ (right_true (declarations_ok p) _ typed)

  main_sorted : (n : Supply) → AreSorted p (main_conditions p n)
  main_sorted n =
      let inside = right_true (annotation_ok p (body_scope p None) p.main.entry) _ main_right in
      let exit : Made = record { conditions = wanted_if_there p None kind.Exit p.main.exit; supply = n } in
      assumed_there p (annotation_term p None p.main.entry) (before p None p.main.body exit).conditions (noted_there p typed None p.main.entry (left_true _ _ main_right))
      (sorted p typed None p.main.body (right_true (annotation_ok p (body_scope p None) p.main.exit) _ inside) exit (wanted_there p typed None kind.Exit p.main.exit (left_true _ _ inside)))

  -- INITIAL names and starts have the sorts of what they stand for
  initial_keeps : (q : Routine) (items : List (Symbol × Item)) → AllKeep p (map (λ i. (head.Var i.0 (item_sort p (Some q) i.1) 0, alone (item_head p (Some q) i.1))) items)
  initial_keeps q [] = tt
  initial_keeps q (i ∷ items) = (item_sorted p q i.1, initial_keeps q items)

  abbrev starts_of : List Formal → List (Head × Term)
  starts_of formals = map (λ f. (head.Start f.name (sort_of p.forms f.of), alone (formal_head p f))) (filter (λ f. not f.by_place) formals)

  starts_keeps : (formals : List Formal) → AllKeep p (starts_of formals)
  starts_keeps [] = tt
  starts_keeps (f ∷ formals) = by_value f.by_place (starts_keeps formals)
    where
      by_value : (b : Bool) → AllKeep p (starts_of formals)
          → AllKeep p (map (λ f. (head.Start f.name (sort_of p.forms f.of), alone (formal_head p f))) (cond (not b) (f ∷ filter (λ f. not f.by_place) formals) (filter (λ f. not f.by_place) formals)))
      by_value true others = others
      by_value false others = (refl, others)

  entry_there : (q : Routine) (o : Option Annotation) → annotation_ok p (entry_scope p q) o ≡ true → IfTruth p (option_map (entry_term p q) o)
  entry_there q None h = tt
  entry_there q (Some a) h = entry_truth p q a h

  exit_there : (id : RoutineId) (q : Routine) (o : Option Annotation) → annotation_ok p (exit_scope p q) o ≡ true → AreSorted p (wanted_exit p id q o)
  exit_there id q None h = tt
  exit_there id q (Some a) h = (record { given = tt; goal = exit_truth p q a h }, tt)

  routine_sorted : (id : RoutineId) (q : Routine) (n : Supply) → routine_at p id ≡ Some q → RoutineRight p q → AreSorted p (routine_conditions p id q n).conditions
  routine_sorted id q n there right =
      let behind : Made = record { conditions = wanted_exit p id q q.exit; supply = n } in
      let inside = before p (Some id) q.body behind in
      let body = subst (λ (o : Option Routine). statement_ok p o q.body ≡ true) (sym there) right.body in
      let under = assuming_if_there (option_map (entry_term p q) q.entry) inside.conditions in
      all_replaced p (initial_pairs p q ++ start_pairs p q) under
      (both_keep p (initial_pairs p q) (start_pairs p q) (initial_keeps q q.initial) (starts_keeps q.formals))
      (assumed_there p (option_map (entry_term p q) q.entry) inside.conditions (entry_there q q.entry right.entry)
      (sorted p typed (Some id) q.body body behind (exit_there id q q.exit right.exit)))

  -- the routines from a number on
  all_from : (number : ℕ) (routines : List Routine) (n : Supply) → ((k : ℕ) (q : Routine) → item_at routines k ≡ Some q → routine_at p (record { 0 = number + k }) ≡ Some q) → AreSorted p (conditions_from p number routines n)
  all_from number [] n at = main_sorted n
  all_from number (q ∷ routines) n at =
      let here : number + 0 ≡ number = omega arith in
      let there = subst (λ m. routine_at p (record { 0 = m }) ≡ Some q) here (at 0 q refl) in
      let made = routine_conditions p (record { 0 = number }) q n in
      appended p made.conditions (conditions_from p (suc number) routines made.supply) (routine_sorted (record { 0 = number }) q n there (right_at p typed (record { 0 = number }) q there))
      (all_from (suc number) routines made.supply (λ k t e.
      let next : number + suc k ≡ suc number + k = omega arith in
      subst (λ m. routine_at p (record { 0 = m }) ≡ Some t) next (at (suc k) t e)))

  pub all_sorted : AreSorted p (conditions_of p)
  all_sorted = all_from 0 p.routines full_supply (λ k q e.
      let same : k ≡ 0 + k = omega arith in
      subst (λ m. item_at p.routines m ≡ Some q) same e)
