-- The parts of what is well typed are well typed.
use Rattle.std.proofs.Common.{◌≡◌, Bool, true, cond, ◌&&◌, List, [], ◌∷◌, Option, Some, None, refl, sym, ap, ◌∙◌}
use Rattle.std.specs.Option.{option_and_then}
use Rattle.std.specs.Cmp.Derive.{both_true}
use Rattle.std.proofs.lemmas.Bool.{false≢true}
use Rattle.spv_logic.proofs.list.Tests.{left_true, right_true}
use Rattle.spv_logic.specs.declared.conditions.RoutineId.{RoutineId}
use Rattle.spv_logic.specs.declared.types.TypeId.{TypeId}
use Rattle.spv_logic.specs.declared.types.Sort.{Sort}
use Rattle.spv_logic.specs.declared.types.Sort.TheVariants as sort
use Rattle.spv_program.specs.declared.operators.Comparison.{Comparison}
use Rattle.spv_program.specs.declared.operators.Comparison.TheVariants as comparison
use Rattle.spv_program.specs.declared.typed.expressions.Selector.{Selector}
use Rattle.spv_program.specs.declared.typed.expressions.Selector.TheVariants as selector
use Rattle.spv_program.specs.declared.typed.expressions.Argument as code_argument
use Rattle.spv_program.specs.declared.typed.expressions.Argument.TheVariants as argument
use Rattle.spv_program.specs.Types.{same_type, form_at, sort_of, element_of, field_of, target_of}
use Rattle.spv_program.specs.Expressions.{Expression, Designator, Selectors, Call, Arguments, Read, Through, Compared, designator, no_selectors, at_index, call, no_arguments, by_value, by_place}
use Rattle.spv_program.specs.Programs.{Formal, Routine, Program, routine_at, routine_in}
use Rattle.spv_program.specs.Scopes.{name_type}
use Rattle.spv_program.specs.FormulaTypes.{is_sort, numbers, compared_sort}
use Rattle.spv_program.specs.ExpressionTypes.{comparable, is_nil, may_read, may_write, stands_for, sort_of_type, result_type, expression_sort, designator_type, selected_type, callee, arguments_fit}
use Rattle.spv_program.specs.typed.ExpressionViews.{selector_before, argument_before}
use Rattle.spv_program.proofs.SortFacts.{nothing_there, some_is, is_sort-true, test_passes, two_there, behind, passed, chosen, failed}
use Rattle.spv_program.proofs.ExpressionSorting.{mapped}
use Rattle.spv_flow_parts.specs.calls.Arguments.{IsExpression, IsPlace, AreSelectors, IsFunctionCall, FitParameters}

-- ---- sorts of operands

record BothSorts (a b : Option Sort) : Type 0 where
  left : Sort
  right : Sort
  left_is : a ≡ Some left
  right_is : b ≡ Some right

by_numbers : (a b : Option Sort) (s : Sort) → numbers a b sort.Bool ≡ Some s → BothSorts a b
by_numbers a b s e =
    let both = test_passes (is_sort sort.Int a && is_sort sort.Int b) sort.Bool s e in
    record {
      left = sort.Int;
      right = sort.Int;
      left_is = is_sort-true sort.Int a (left_true (is_sort sort.Int a) (is_sort sort.Int b) both);
      right_is = is_sort-true sort.Int b (right_true (is_sort sort.Int a) (is_sort sort.Int b) both);
    }

compared : (test : Sort → Bool) (o : Comparison) (a b : Option Sort) (s : Sort) → compared_sort test o a b ≡ Some s → BothSorts a b
compared test comparison.Equal a b s e = let two = two_there a b _ s e in record { left = two.left; right = two.right; left_is = two.left_is; right_is = two.right_is }
compared test comparison.NotEqual a b s e = let two = two_there a b _ s e in record { left = two.left; right = two.right; left_is = two.left_is; right_is = two.right_is }
compared test comparison.Less a b s e = by_numbers a b s e
compared test comparison.AtMost a b s e = by_numbers a b s e
compared test comparison.Greater a b s e = by_numbers a b s e
compared test comparison.AtLeast a b s e = by_numbers a b s e

module _ (p : Program) (here : Option RoutineId) where
  abbrev within : Option Routine
  within = routine_in p here

  typed_by : (e : Expression) (s : Sort) → expression_sort p within e ≡ Some s → IsExpression p here e
  typed_by e s h = record { sort = s; sorted = h }

  -- ---- operands

  module _ (a b : Expression) where
    operands : (o : Comparison) → IsExpression p here (Compared o a b) → BothSorts (expression_sort p within a) (expression_sort p within b)
    operands o h = compared comparable o (expression_sort p within a) (expression_sort p within b) h.sort (failed (is_nil a && is_nil b) _ h.sort h.sorted)

    pub compared_left : (o : Comparison) → IsExpression p here (Compared o a b) → IsExpression p here a
    compared_left o h = let two = operands o h in typed_by a two.left two.left_is

    pub compared_right : (o : Comparison) → IsExpression p here (Compared o a b) → IsExpression p here b
    compared_right o h = let two = operands o h in typed_by b two.right two.right_is

  -- ---- calls and places in expressions

  call_there : (o : Option Routine) (s : Sort) → sort_of_type p (option_and_then result_type o) ≡ Some s → (c : Call) → callee p within c ≡ o → IsFunctionCall p here c
  call_there None s h c is = absurd (nothing_there h)
  call_there (Some r) s h c is = let t = mapped (sort_of p.forms) r.result s h in record { routine = r; called = is; result = t.item; is = t.is }

  module _ (c : Call) (line : _) (t : TypeId) (others : Selectors) (h : IsExpression p here (Through c line t others)) where
    abbrev given : Option Sort
    given = sort_of_type p (option_and_then result_type (callee p within c))

    pub through_call : IsFunctionCall p here c
    through_call = call_there (callee p within c) (sort.Ptr t) (is_sort-true (sort.Ptr t) given (passed (is_sort (sort.Ptr t) given) _ h.sort h.sorted)) c refl

    pub through_selectors : AreSelectors p here others
    through_selectors =
        let u = mapped (sort_of p.forms) (selected_type p within t others) h.sort (chosen (is_sort (sort.Ptr t) given) _ h.sort h.sorted) in
        record { from = t; to = u.item; typed = u.is }

  pub place_selectors : (line : _) (x : _) (others : Selectors) → IsPlace p here (designator line x others) → AreSelectors p here others
  place_selectors line x others h =
      let r = behind (λ t. selected_type p within t others) (name_type p within x) h.of h.typed in record { from = r.item; to = h.of; typed = r.gives }

  pub read_typed : (d : Designator) → IsExpression p here (Read d) → IsPlace p here d
  read_typed d h =
      let t = mapped (sort_of p.forms) (designator_type p within d) h.sort (chosen (may_read within d) _ h.sort h.sorted) in record { of = t.item; typed = t.is }

  -- ---- selectors

  module _ (t : TypeId) (e : Expression) (others : Selectors) where
    abbrev index_test : TypeId → Bool
    index_test from = same_type t from && is_sort sort.Int (expression_sort p within e)

    pub index_typed : AreSelectors p here (at_index t e others) → IsExpression p here e
    index_typed h =
        typed_by e sort.Int (is_sort-true sort.Int (expression_sort p within e)
        (right_true (same_type t h.from) (is_sort sort.Int (expression_sort p within e)) (passed (index_test h.from) _ h.to h.typed)))

  -- what selectors lead to, by the first
  pub record FirstOf (from : TypeId) (s : Selector) (others : Selectors) (to : TypeId) : Type 0 where
    pub next : TypeId
    pub first : selected_type p within from (selector_before s no_selectors) ≡ Some next
    pub rest : selected_type p within next others ≡ Some to

  pub first_of_selectors : (from : TypeId) (s : Selector) (others : Selectors) (to : TypeId) → selected_type p within from (selector_before s others) ≡ Some to → FirstOf from s others to
  first_of_selectors from (selector.Index t e) others to h =
      let test = index_test t e.value others from in
      let r = behind (λ u. selected_type p within u others) (element_of (form_at p.forms from.0)) to (chosen test _ to h) in
      let right : test ≡ true = passed test _ to h in
      record {
        next = r.item;
        first = ap (λ b. cond b (option_and_then (λ u. Some u) (element_of (form_at p.forms from.0))) None) right ∙ ap (option_and_then (λ u. Some u)) r.is;
        rest = r.gives;
      }
  first_of_selectors from (selector.Field t f) others to h =
      let test = same_type t from in
      let r = behind (λ u. selected_type p within u others) (field_of (form_at p.forms from.0) f) to (chosen test _ to h) in
      let right : test ≡ true = passed test _ to h in
      record {
        next = r.item;
        first = ap (λ b. cond b (option_and_then (λ u. Some u) (field_of (form_at p.forms from.0) f)) None) right ∙ ap (option_and_then (λ u. Some u)) r.is;
        rest = r.gives;
      }
  first_of_selectors from (selector.Cell line c) others to h =
      let r = behind (λ u. cond (same_type c u) (selected_type p within u others) None) (target_of (form_at p.forms from.0)) to h in
      let right : same_type c r.item ≡ true = passed (same_type c r.item) _ to r.gives in
      record {
        next = r.item;
        first = ap (option_and_then (λ u. cond (same_type c u) (Some u) None)) r.is ∙ ap (λ b. cond b (Some r.item) None) right;
        rest = chosen (same_type c r.item) _ to r.gives;
      }

  pub first_selector : (s : Selector) (others : Selectors) → AreSelectors p here (selector_before s others) → AreSelectors p here (selector_before s no_selectors)
  first_selector s others h = let r = first_of_selectors h.from s others h.to h.typed in record { from = h.from; to = r.next; typed = r.first }

  pub other_selectors : (s : Selector) (others : Selectors) → AreSelectors p here (selector_before s others) → AreSelectors p here others
  other_selectors s others h = let r = first_of_selectors h.from s others h.to h.typed in record { from = r.next; to = h.to; typed = r.rest }

  -- ---- arguments

  place_there : (d : Designator) (t : TypeId) → (o : Option TypeId) → designator_type p within d ≡ o → stands_for p t o ≡ true → IsPlace p here d
  place_there d t None is h = absurd (false≢true h)
  place_there d t (Some u) is h = record { of = u; typed = is }

  value_parts : (f : Formal) (e : Expression) (formals : List Formal) (others : Arguments) → arguments_fit p within (f ∷ formals) (by_value e others) ≡ true
      → (is_sort (sort_of p.forms f.of) (expression_sort p within e) && arguments_fit p within formals others) ≡ true
  value_parts f e formals others h = right_true _ _ h

  pub by_value_typed : (formals : List Formal) (e : Expression) (others : Arguments) → arguments_fit p within formals (by_value e others) ≡ true → IsExpression p here e
  by_value_typed [] e others h = absurd (false≢true h)
  by_value_typed (f ∷ formals) e others h =
      typed_by e (sort_of p.forms f.of) (is_sort-true (sort_of p.forms f.of) (expression_sort p within e) (left_true _ (arguments_fit p within formals others) (value_parts f e formals others h)))

  place_parts : (f : Formal) (d : Designator) (formals : List Formal) (others : Arguments) → arguments_fit p within (f ∷ formals) (by_place d others) ≡ true
      → (stands_for p f.of (designator_type p within d) && arguments_fit p within formals others) ≡ true
  place_parts f d formals others h = right_true (may_write within d) _ (right_true f.by_place _ h)

  pub by_place_typed : (formals : List Formal) (d : Designator) (others : Arguments) → arguments_fit p within formals (by_place d others) ≡ true → IsPlace p here d
  by_place_typed [] d others h = absurd (false≢true h)
  by_place_typed (f ∷ formals) d others h =
      place_there d f.of (designator_type p within d) refl (left_true _ (arguments_fit p within formals others) (place_parts f d formals others h))

  -- the first argument, and the others
  pub first_argument : (x : code_argument.Argument) (others : Arguments) → FitParameters p here (argument_before x others) → FitParameters p here (argument_before x no_arguments)
  first_argument x others h = by x h.formals h.fit
    where
      by : (x : code_argument.Argument) (formals : List Formal) → arguments_fit p within formals (argument_before x others) ≡ true → FitParameters p here (argument_before x no_arguments)
      by (argument.Value e) [] h = absurd (false≢true h)
      by (argument.Place d) [] h = absurd (false≢true h)
      by (argument.Value e) (f ∷ formals) h = record {
        formals = f ∷ [];
        fit = both_true (left_true _ _ h) (both_true (left_true _ (arguments_fit p within formals others) (value_parts f e.value formals others h)) refl);
      }
      by (argument.Place d) (f ∷ formals) h = record {
        formals = f ∷ [];
        fit = both_true (left_true f.by_place _ h)
            (both_true (left_true (may_write within d) _ (right_true f.by_place _ h))
            (both_true (left_true _ (arguments_fit p within formals others) (place_parts f d formals others h)) refl));
      }

  pub other_arguments : (x : code_argument.Argument) (others : Arguments) → FitParameters p here (argument_before x others) → FitParameters p here others
  other_arguments x others h = by x h.formals h.fit
    where
      by : (x : code_argument.Argument) (formals : List Formal) → arguments_fit p within formals (argument_before x others) ≡ true → FitParameters p here others
      by (argument.Value e) [] h = absurd (false≢true h)
      by (argument.Place d) [] h = absurd (false≢true h)
      by (argument.Value e) (f ∷ formals) h = record { formals = formals; fit = right_true _ (arguments_fit p within formals others) (value_parts f e.value formals others h) }
      by (argument.Place d) (f ∷ formals) h = record { formals = formals; fit = right_true _ (arguments_fit p within formals others) (place_parts f d formals others h) }

  -- ---- calls

  pub record IsCallee (r : Routine) (id : RoutineId) (given : Arguments) : Type 0 where
    pub there : routine_at p id ≡ Some r
    pub fit : arguments_fit p within r.formals given ≡ true

  pub callee_is : (id : RoutineId) (line : _) (given : Arguments) (r : Routine) → callee p within (call id line given) ≡ Some r → IsCallee r id given
  callee_is id line given r h =
      let q = behind (λ called. cond (arguments_fit p within called.formals given) (Some called) None) (routine_at p id) r h in
      let same : q.item ≡ r = some_is (chosen (arguments_fit p within q.item.formals given) (Some q.item) r q.gives) in
      record {
        there = q.is ∙ ap Some same;
        fit = ap (λ (s : Routine). arguments_fit p within s.formals given) (sym same) ∙ passed (arguments_fit p within q.item.formals given) _ r q.gives;
      }
