use Rattle.std.proofs.Common.{◌≡◌, ◌<◌, ◌≤◌, ◌+◌, drop, subst, sym, ap, ◌∙◌, arith}
use Rattle.std.proofs.lemmas.List.{drop_all}
use Rattle.spv_program.specs.Expressions.{Compared, Calculated, Joined, call, no_arguments, no_selectors}
use Rattle.spv_program.specs.Programs.{routine_in}
use Rattle.spv_program.specs.declared.typed.expressions.Argument.{Argument}
use Rattle.spv_program.specs.declared.typed.expressions.Selector.{Selector}
use Rattle.spv_program.specs.declared.typed.expressions.Through.{Through}
use Rattle.spv_program.specs.typed.ExpressionViews.{argument_before, arguments_of, expression_of, selector_before, selectors_of}
use Rattle.spv_program.specs.typed.Model.ExpressionSizes.{arguments_size, call_size, designator_size, expression_size, selectors_size}
use Rattle.spv_assign.specs.supply.Numbers.{supply_of}
use Rattle.spv_expression_terms.proofs.term_walk.Selectors.{selector_within}
use Rattle.spv_flow_parts.proofs.calls.LoopSteps.{next_is, argument_within, value_smaller, place_smaller, argument_value, argument_place, selectors_begin, selector_typed, selectors_next, selectors_stop, arguments_begin, argument_fits, arguments_next, arguments_stop}
use Rattle.spv_flow_parts.proofs.calls.ValueTerms.{may_later, value_fits, value_sorts, value_added, value_has_sort, function_at, call_added, operands_added}
use Rattle.spv_flow_parts.proofs.calls.OneStep.{index_stops, element_sorts, element_added, field_sorts, field_added, cell_added, cell_there}
use Rattle.spv_flow_parts.proofs.calls.PlaceSteps.{designator_is, designator_sort, designator_begins, designator_start_stops, designator_ends, designator_step, designator_next, designator_stops, path_smaller}
use Rattle.spv_flow_parts.proofs.calls.Reading.{read_is, read_selectors, read_smaller, through_is, through_call_of, through_call_smaller, through_selectors_of, through_smaller, compared_left_of, compared_right_of, compared_smaller, compared_smaller_too, operands_of, read_of, through_of, index_of}
use Rattle.spv_flow_parts.proofs.calls.Ways.{IsWay-Extends}
use Rattle.spv_flow_parts.proofs.calls.values.+values.Goals as goal

-- ---- an argument

pub add_argument-add_value-requires : goal.add_argument-add_value-requires
add_argument-add_value-requires t c =
    let smaller : expression_size c.deref.result.now < arguments_size (argument_before c.args.given.now no_arguments) = value_smaller c.args.given.now c.in-Value.e c.deref.result.now c.in-Value.is c.deref.ensures in
    (omega (arith, c.decreases), (c.requires.may, argument_value c.args.program.now c.args.body.now.here c.args.given.now c.in-Value.e c.deref.result.now c.in-Value.is c.deref.ensures c.requires.typed))

pub add_argument-add_place-requires : goal.add_argument-add_place-requires
add_argument-add_place-requires t c =
    let smaller : designator_size c.in-Place.d < arguments_size (argument_before c.args.given.now no_arguments) = place_smaller c.args.given.now c.in-Place.d c.in-Place.is in
    (omega (arith, c.decreases), (c.requires.may, argument_place c.args.program.now c.args.body.now.here c.args.given.now c.in-Place.d c.in-Place.is c.requires.typed))

-- ---- arguments

pub add_arguments-loop-argument-init : goal.add_arguments-loop-argument-init
add_arguments-loop-argument-init t c =
    arguments_begin c.args.program.now c.args.body.now.here (arguments_of c.args.given.now) (supply_of c.args.supply.now) c.args.terms.now c.new-arguments.result c.args.calls.now c.new-arguments.ensures c.requires.may.there c.requires.typed

pub add_arguments-add_argument-requires : goal.add_arguments-add_argument-requires
add_arguments-add_argument-requires t c =
    let within : arguments_size (argument_before c.argument-item.result no_arguments) ≤ arguments_size (arguments_of c.args.given.now) =
    subst (λ (x : Argument). arguments_size (argument_before x no_arguments) ≤ arguments_size (arguments_of c.args.given.now)) (sym c.argument-item.is)
    (argument_within c.args.given.now c.loop-argument.argument-index c.argument-item.result (omega arith)) in (
      omega (arith, c.decreases),
      (
        may_later c.args.program.now c.args.body.now c.args.terms.now c.loop-argument.terms (supply_of c.args.supply.now) (supply_of c.loop-argument.supply) c.requires.may c.loop-argument.invariant.walked.grows c.loop-argument.invariant.there,
        argument_fits c.args.program.now c.args.body.now.here (arguments_of c.args.given.now) (arguments_of (drop c.loop-argument.argument-index c.args.given.now)) (arguments_of (drop (c.loop-argument.argument-index + 1) c.args.given.now)) c.argument-item.result
            (ap arguments_of (next_is c.args.given.now c.loop-argument.argument-index c.argument-item.result c.loop-argument-test.true c.argument-item.is))
            (supply_of c.args.supply.now) c.args.terms.now c.loop-argument.terms c.loop-argument.arguments c.args.calls.now c.loop-argument.calls (supply_of c.loop-argument.supply) c.loop-argument.invariant,
      ),
    )

pub add_arguments-returns-in_err-one : goal.add_arguments-returns-in_err-one
add_arguments-returns-in_err-one t c =
    arguments_stop c.args.program.now c.args.body.now.here (arguments_of c.args.given.now) (arguments_of (drop c.loop-argument.argument-index c.args.given.now)) (arguments_of (drop (c.loop-argument.argument-index + 1) c.args.given.now)) c.argument-item.result
    (ap arguments_of (next_is c.args.given.now c.loop-argument.argument-index c.argument-item.result c.loop-argument-test.true c.argument-item.is))
    (supply_of c.args.supply.now) c.args.terms.now c.loop-argument.terms c.loop-argument.arguments c.args.calls.now c.loop-argument.calls (supply_of c.loop-argument.supply) c.loop-argument.invariant
    c.add_argument.new.terms c.add_argument.new.calls (supply_of c.add_argument.new.supply) c.from_residual.result c.in_err-one.field-0.0 c.from_residual.ensures.1 c.in_err-one.ensures

pub add_arguments-loop-argument-preserved : goal.add_arguments-loop-argument-preserved
add_arguments-loop-argument-preserved t c =
    arguments_next c.args.program.now c.args.body.now.here (arguments_of c.args.given.now) (arguments_of (drop c.loop-argument.argument-index c.args.given.now)) (arguments_of (drop (c.loop-argument.argument-index + 1) c.args.given.now)) c.argument-item.result
    (ap arguments_of (next_is c.args.given.now c.loop-argument.argument-index c.argument-item.result c.loop-argument-test.true c.argument-item.is))
    (supply_of c.args.supply.now) c.args.terms.now c.loop-argument.terms c.loop-argument.arguments c.args.calls.now c.loop-argument.calls (supply_of c.loop-argument.supply) c.loop-argument.invariant
    c.add_argument.new.terms c.add_argument.new.calls (supply_of c.add_argument.new.supply) c.in_ok-one.one c.push.new.self c.in_ok-push.ensures.ok c.in_ok-one.ensures

-- ---- calls

pub add_call-call_with-requires-clause-function : goal.add_call-call_with-requires-clause-function
add_call-call_with-requires-clause-function t c =
    function_at c.args.program.now c.args.body.now c.args.terms.now (supply_of c.args.supply.now) c.requires.may c.call.inside.routine c.call.inside.line (arguments_of c.as_slice.result.now)
    c.add_arguments.new.terms (supply_of c.add_arguments.new.supply) c.args.calls.now c.add_arguments.new.calls c.in_ok-given.given c.as_slice-2.result.now c.as_slice-2.ensures c.in_ok-given.ensures
    c.args.call.now (sym c.call.view_is ∙ ap (λ l. call c.call.inside.routine c.call.inside.line (arguments_of l)) (sym c.as_slice.ensures.value)) c.requires.typed

pub add_call-returns : goal.add_call-returns
add_call-returns t c =
    call_added c.args.program.now c.args.body.now c.args.terms.now (supply_of c.args.supply.now) c.requires.may c.call.inside.routine c.call.inside.line (arguments_of c.as_slice.result.now)
    c.add_arguments.new.terms (supply_of c.add_arguments.new.supply) c.args.calls.now c.add_arguments.new.calls c.in_ok-given.given c.as_slice-2.result.now c.as_slice-2.ensures c.in_ok-given.ensures
    c.call_with.result c.call_with.new.terms c.args.variables.now c.call_with.new.variables c.call_with.new.calls (supply_of c.call_with.new.supply)
    c.args.call.now (sym c.call.view_is ∙ ap (λ l. call c.call.inside.routine c.call.inside.line (arguments_of l)) (sym c.as_slice.ensures.value)) c.requires.typed c.call_with.ensures

-- ---- calls in expressions

pub add_calls-add_selector_calls-requires : goal.add_calls-add_selector_calls-requires
add_calls-add_selector_calls-requires t c =
    let is = read_is c.args.e.now c.e.inside.form c.in-Read.d c.d.inside.line c.d.inside.name c.d.inside.selectors.items c.as_slice.result.now c.e.view_is c.in-Read.is c.d.view_is c.as_slice.ensures.value in
    let smaller : selectors_size (selectors_of c.as_slice.result.now) < expression_size c.args.e.now = read_smaller c.args.e.now _ _ (selectors_of c.as_slice.result.now) is in
    (omega (arith, c.decreases), (c.requires.may, read_selectors c.args.e.now _ _ (selectors_of c.as_slice.result.now) is c.args.program.now c.args.body.now.here c.requires.typed))

pub add_calls-add_call-requires-in-Through : goal.add_calls-add_call-requires-in-Through
add_calls-add_call-requires-in-Through t c =
    let is = through_is c.args.e.now c.e.inside.form c.in-Through.t c.deref.result.now c.e.view_is c.in-Through.is c.deref.ensures in
    let smaller : call_size c.deref.result.now.call < expression_size c.args.e.now = through_call_smaller c.args.e.now c.deref.result.now is in
    (omega (arith, c.decreases), (c.requires.may, through_call_of c.args.e.now c.deref.result.now is c.args.program.now c.args.body.now.here c.requires.typed))

pub add_calls-add_selector_calls-requires-in-Through : goal.add_calls-add_selector_calls-requires-in-Through
add_calls-add_selector_calls-requires-in-Through t c =
    let is = through_is c.args.e.now c.e.inside.form c.in-Through.t c.deref-in-Through.result.now c.e.view_is c.in-Through.is c.deref-in-Through.ensures in
    let smaller : selectors_size (selectors_of c.as_slice-in-Through.result.now) < expression_size c.args.e.now = through_smaller c.args.e.now c.deref-in-Through.result.now is c.as_slice-in-Through.result.now c.as_slice-in-Through.ensures.value in (
      omega (arith, c.decreases),
      (
        may_later c.args.program.now c.args.body.now c.args.terms.now c.add_call-in-Through.new.terms (supply_of c.args.supply.now) (supply_of c.add_call-in-Through.new.supply) c.requires.may c.in_ok-add_call-in-Through.ensures.grows c.in_ok-add_call-in-Through.ensures.there,
        through_selectors_of c.args.e.now c.deref-in-Through.result.now is c.as_slice-in-Through.result.now c.as_slice-in-Through.ensures.value c.args.program.now c.args.body.now.here c.requires.typed,
      ),
    )

pub add_calls-add_calls-requires-in-Compared : goal.add_calls-add_calls-requires-in-Compared
add_calls-add_calls-requires-in-Compared t c =
    let smaller : expression_size c.deref-in-Compared.result.now < expression_size c.args.e.now = compared_smaller c.args.e.now c.e.inside.form c.in-Compared.field-0 c.in-Compared.a c.in-Compared.b c.e.view_is c.in-Compared.is c.deref-in-Compared.result.now c.deref-in-Compared.ensures in (
      omega (arith, c.decreases),
      (
        c.requires.may,
        compared_left_of c.args.e.now c.e.inside.form c.in-Compared.field-0 c.in-Compared.a c.in-Compared.b c.e.view_is c.in-Compared.is c.deref-in-Compared.result.now c.deref-in-Compared.ensures c.args.program.now c.args.body.now.here c.requires.typed,
      ),
    )

pub add_calls-add_calls-requires-in-Compared-2 : goal.add_calls-add_calls-requires-in-Compared-2
add_calls-add_calls-requires-in-Compared-2 t c =
    let smaller : expression_size c.deref-in-Compared-2.result.now < expression_size c.args.e.now = compared_smaller_too c.args.e.now c.e.inside.form c.in-Compared.field-0 c.in-Compared.a c.in-Compared.b c.e.view_is c.in-Compared.is c.deref-in-Compared-2.result.now c.deref-in-Compared-2.ensures in (
      omega (arith, c.decreases),
      (
        may_later c.args.program.now c.args.body.now c.args.terms.now c.add_calls-in-Compared.new.terms (supply_of c.args.supply.now) (supply_of c.add_calls-in-Compared.new.supply) c.requires.may c.in_ok-add_calls-in-Compared.ensures.grows c.in_ok-add_calls-in-Compared.ensures.there,
        compared_right_of c.args.e.now c.e.inside.form c.in-Compared.field-0 c.in-Compared.a c.in-Compared.b c.e.view_is c.in-Compared.is c.deref-in-Compared-2.result.now c.deref-in-Compared-2.ensures c.args.program.now c.args.body.now.here c.requires.typed,
      ),
    )

pub add_calls-returns-in-Read : goal.add_calls-returns-in-Read
add_calls-returns-in-Read t c =
    let is = read_is c.args.e.now c.e.inside.form c.in-Read.d c.d.inside.line c.d.inside.name c.d.inside.selectors.items c.as_slice.result.now c.e.view_is c.in-Read.is c.d.view_is c.as_slice.ensures.value in
    read_of c.args.program.now (routine_in c.args.program.now c.args.body.now.here) (supply_of c.args.supply.now) c.args.terms.now c.args.variables.now c.args.calls.now c.args.e.now _ _ (selectors_of c.as_slice.result.now) is
    c.add_selector_calls.result c.add_selector_calls.new.terms c.add_selector_calls.new.variables c.add_selector_calls.new.calls (supply_of c.add_selector_calls.new.supply) c.add_selector_calls.ensures

pub add_calls-returns-in_ok-add_call-in-Through : goal.add_calls-returns-in_ok-add_call-in-Through
add_calls-returns-in_ok-add_call-in-Through t c =
    let is = through_is c.args.e.now c.e.inside.form c.in-Through.t c.deref.result.now c.e.view_is c.in-Through.is c.deref.ensures in
    through_of c.args.e.now c.deref.result.now is c.as_slice-in-Through.result.now (c.as_slice-in-Through.ensures.value ∙ ap (λ (u : Through). u.selectors.items) (c.deref-in-Through.ensures ∙ sym c.deref.ensures))
    c.args.program.now (routine_in c.args.program.now c.args.body.now.here) (supply_of c.args.supply.now) c.args.terms.now c.args.variables.now c.args.calls.now
    c.add_selector_calls-in-Through.result c.add_call-in-Through.new.terms c.add_selector_calls-in-Through.new.terms c.add_call-in-Through.new.variables c.add_selector_calls-in-Through.new.variables
    c.add_call-in-Through.new.calls c.add_selector_calls-in-Through.new.calls (supply_of c.add_call-in-Through.new.supply) (supply_of c.add_selector_calls-in-Through.new.supply)
    c.in_ok-add_call-in-Through.ensures c.add_selector_calls-in-Through.ensures

pub add_calls-returns-in_ok-add_calls-in-Calculated : goal.add_calls-returns-in_ok-add_calls-in-Calculated
add_calls-returns-in_ok-add_calls-in-Calculated t c =
    let is : c.args.e.now ≡ Calculated c.in-Calculated.field-0 c.deref-in-Calculated.result.now c.deref-in-Calculated-2.result.now =
    sym c.e.view_is ∙ (ap expression_of c.in-Calculated.is ∙ (λ i. Calculated c.in-Calculated.field-0 (sym c.deref-in-Calculated.ensures i) (sym c.deref-in-Calculated-2.ensures i))) in
    operands_of c.args.program.now (routine_in c.args.program.now c.args.body.now.here) (supply_of c.args.supply.now) c.args.terms.now c.args.variables.now c.args.calls.now c.args.e.now
    (Calculated c.in-Calculated.field-0 c.deref-in-Calculated.result.now c.deref-in-Calculated-2.result.now) is
    c.add_calls-in-Calculated-2.result c.add_calls-in-Calculated-2.new.terms c.add_calls-in-Calculated-2.new.variables c.add_calls-in-Calculated-2.new.calls (supply_of c.add_calls-in-Calculated-2.new.supply)
    (operands_added c.args.program.now (routine_in c.args.program.now c.args.body.now.here) (supply_of c.args.supply.now) c.args.terms.now c.args.variables.now c.args.calls.now
    c.deref-in-Calculated.result.now c.deref-in-Calculated-2.result.now c.add_calls-in-Calculated-2.result c.add_calls-in-Calculated.new.terms c.add_calls-in-Calculated-2.new.terms c.add_calls-in-Calculated.new.variables c.add_calls-in-Calculated-2.new.variables
    c.add_calls-in-Calculated.new.calls c.add_calls-in-Calculated-2.new.calls (supply_of c.add_calls-in-Calculated.new.supply) (supply_of c.add_calls-in-Calculated-2.new.supply) c.in_ok-add_calls-in-Calculated.ensures c.add_calls-in-Calculated-2.ensures)

pub add_calls-returns-in_ok-add_calls-in-Compared : goal.add_calls-returns-in_ok-add_calls-in-Compared
add_calls-returns-in_ok-add_calls-in-Compared t c =
    let is : c.args.e.now ≡ Compared c.in-Compared.field-0 c.deref-in-Compared.result.now c.deref-in-Compared-2.result.now =
    sym c.e.view_is ∙ (ap expression_of c.in-Compared.is ∙ (λ i. Compared c.in-Compared.field-0 (sym c.deref-in-Compared.ensures i) (sym c.deref-in-Compared-2.ensures i))) in
    operands_of c.args.program.now (routine_in c.args.program.now c.args.body.now.here) (supply_of c.args.supply.now) c.args.terms.now c.args.variables.now c.args.calls.now c.args.e.now
    (Compared c.in-Compared.field-0 c.deref-in-Compared.result.now c.deref-in-Compared-2.result.now) is
    c.add_calls-in-Compared-2.result c.add_calls-in-Compared-2.new.terms c.add_calls-in-Compared-2.new.variables c.add_calls-in-Compared-2.new.calls (supply_of c.add_calls-in-Compared-2.new.supply)
    (operands_added c.args.program.now (routine_in c.args.program.now c.args.body.now.here) (supply_of c.args.supply.now) c.args.terms.now c.args.variables.now c.args.calls.now
    c.deref-in-Compared.result.now c.deref-in-Compared-2.result.now c.add_calls-in-Compared-2.result c.add_calls-in-Compared.new.terms c.add_calls-in-Compared-2.new.terms c.add_calls-in-Compared.new.variables c.add_calls-in-Compared-2.new.variables
    c.add_calls-in-Compared.new.calls c.add_calls-in-Compared-2.new.calls (supply_of c.add_calls-in-Compared.new.supply) (supply_of c.add_calls-in-Compared-2.new.supply) c.in_ok-add_calls-in-Compared.ensures c.add_calls-in-Compared-2.ensures)

pub add_calls-returns-in_ok-add_calls-in-Joined : goal.add_calls-returns-in_ok-add_calls-in-Joined
add_calls-returns-in_ok-add_calls-in-Joined t c =
    let is : c.args.e.now ≡ Joined c.in-Joined.field-0 c.deref-in-Joined.result.now c.deref-in-Joined-2.result.now =
    sym c.e.view_is ∙ (ap expression_of c.in-Joined.is ∙ (λ i. Joined c.in-Joined.field-0 (sym c.deref-in-Joined.ensures i) (sym c.deref-in-Joined-2.ensures i))) in
    operands_of c.args.program.now (routine_in c.args.program.now c.args.body.now.here) (supply_of c.args.supply.now) c.args.terms.now c.args.variables.now c.args.calls.now c.args.e.now
    (Joined c.in-Joined.field-0 c.deref-in-Joined.result.now c.deref-in-Joined-2.result.now) is
    c.add_calls-in-Joined-2.result c.add_calls-in-Joined-2.new.terms c.add_calls-in-Joined-2.new.variables c.add_calls-in-Joined-2.new.calls (supply_of c.add_calls-in-Joined-2.new.supply)
    (operands_added c.args.program.now (routine_in c.args.program.now c.args.body.now.here) (supply_of c.args.supply.now) c.args.terms.now c.args.variables.now c.args.calls.now
    c.deref-in-Joined.result.now c.deref-in-Joined-2.result.now c.add_calls-in-Joined-2.result c.add_calls-in-Joined.new.terms c.add_calls-in-Joined-2.new.terms c.add_calls-in-Joined.new.variables c.add_calls-in-Joined-2.new.variables
    c.add_calls-in-Joined.new.calls c.add_calls-in-Joined-2.new.calls (supply_of c.add_calls-in-Joined.new.supply) (supply_of c.add_calls-in-Joined-2.new.supply) c.in_ok-add_calls-in-Joined.ensures c.add_calls-in-Joined-2.ensures)

-- ---- calls in selectors

pub add_index_calls-returns-in-Index : goal.add_index_calls-returns-in-Index
add_index_calls-returns-in-Index t c =
    index_of c.args.program.now (routine_in c.args.program.now c.args.body.now.here) (supply_of c.args.supply.now) c.args.terms.now c.args.variables.now c.args.calls.now c.args.selector.now c.in-Index.field-0 c.in-Index.e c.deref.result.now c.in-Index.is c.deref.ensures
    c.add_calls.result c.add_calls.new.terms c.add_calls.new.variables c.add_calls.new.calls (supply_of c.add_calls.new.supply) c.add_calls.ensures

pub add_selector_calls-loop-selector-init : goal.add_selector_calls-loop-selector-init
add_selector_calls-loop-selector-init t c =
    selectors_begin c.args.program.now c.args.body.now.here (selectors_of c.args.selectors.now) (supply_of c.args.supply.now) c.args.terms.now c.args.variables.now c.args.calls.now c.requires.may.there c.requires.typed

pub add_selector_calls-add_index_calls-requires : goal.add_selector_calls-add_index_calls-requires
add_selector_calls-add_index_calls-requires t c =
    let within : selectors_size (selector_before c.selector-item.result no_selectors) ≤ selectors_size (selectors_of c.args.selectors.now) =
    subst (λ (s : Selector). selectors_size (selector_before s no_selectors) ≤ selectors_size (selectors_of c.args.selectors.now)) (sym c.selector-item.is)
    (selector_within c.args.selectors.now c.loop-selector.selector-index c.selector-item.result (omega arith)) in (
      omega (arith, c.decreases),
      (
        may_later c.args.program.now c.args.body.now c.args.terms.now c.loop-selector.terms (supply_of c.args.supply.now) (supply_of c.loop-selector.supply) c.requires.may c.loop-selector.invariant.adds.grows c.loop-selector.invariant.adds.there,
        selector_typed c.args.program.now c.args.body.now.here (selectors_of c.args.selectors.now) (selectors_of (drop c.loop-selector.selector-index c.args.selectors.now)) (selectors_of (drop (c.loop-selector.selector-index + 1) c.args.selectors.now)) c.selector-item.result
            (ap selectors_of (next_is c.args.selectors.now c.loop-selector.selector-index c.selector-item.result c.loop-selector-test.true c.selector-item.is))
            (supply_of c.args.supply.now) c.args.terms.now c.loop-selector.terms c.args.variables.now c.loop-selector.variables c.args.calls.now c.loop-selector.calls (supply_of c.loop-selector.supply) c.loop-selector.invariant,
      ),
    )

pub add_selector_calls-returns-in_err-add_index_calls : goal.add_selector_calls-returns-in_err-add_index_calls
add_selector_calls-returns-in_err-add_index_calls t c =
    selectors_stop c.args.program.now c.args.body.now.here (selectors_of c.args.selectors.now) (selectors_of (drop c.loop-selector.selector-index c.args.selectors.now)) (selectors_of (drop (c.loop-selector.selector-index + 1) c.args.selectors.now)) c.selector-item.result
    (ap selectors_of (next_is c.args.selectors.now c.loop-selector.selector-index c.selector-item.result c.loop-selector-test.true c.selector-item.is))
    (supply_of c.args.supply.now) c.args.terms.now c.loop-selector.terms c.args.variables.now c.loop-selector.variables c.args.calls.now c.loop-selector.calls (supply_of c.loop-selector.supply) c.loop-selector.invariant
    c.add_index_calls.new.terms c.add_index_calls.new.variables c.add_index_calls.new.calls (supply_of c.add_index_calls.new.supply) c.from_residual.result c.in_err-add_index_calls.field-0.0 _ c.from_residual.ensures.1 c.in_err-add_index_calls.ensures

pub add_selector_calls-loop-selector-preserved : goal.add_selector_calls-loop-selector-preserved
add_selector_calls-loop-selector-preserved t c =
    selectors_next c.args.program.now c.args.body.now.here (selectors_of c.args.selectors.now) (selectors_of (drop c.loop-selector.selector-index c.args.selectors.now)) (selectors_of (drop (c.loop-selector.selector-index + 1) c.args.selectors.now)) c.selector-item.result
    (ap selectors_of (next_is c.args.selectors.now c.loop-selector.selector-index c.selector-item.result c.loop-selector-test.true c.selector-item.is))
    (supply_of c.args.supply.now) c.args.terms.now c.loop-selector.terms c.args.variables.now c.loop-selector.variables c.args.calls.now c.loop-selector.calls (supply_of c.loop-selector.supply) c.loop-selector.invariant
    c.add_index_calls.new.terms c.add_index_calls.new.variables c.add_index_calls.new.calls (supply_of c.add_index_calls.new.supply) c.in_ok-add_index_calls.ensures

-- ---- terms

pub add_value-filled_term-term-requires-clause-variables : goal.add_value-filled_term-term-requires-clause-variables
add_value-filled_term-term-requires-clause-variables t c =
    value_fits c.args.program.now c.args.body.now c.args.terms.now (supply_of c.args.supply.now) c.requires.may c.args.e.now c.requires.typed c.add_calls.new.terms (supply_of c.add_calls.new.supply) c.args.calls.now c.add_calls.new.calls c.new-variables.result c.add_calls.new.variables c.as_slice.result.now c.new-variables.ensures c.as_slice.ensures c.in_ok-add_calls.ensures

pub add_value-filled_term-term-requires-clause-sorted : goal.add_value-filled_term-term-requires-clause-sorted
add_value-filled_term-term-requires-clause-sorted t c =
    value_sorts c.args.program.now c.args.body.now c.args.terms.now (supply_of c.args.supply.now) c.requires.may c.args.e.now c.requires.typed c.add_calls.new.terms (supply_of c.add_calls.new.supply) c.args.calls.now c.add_calls.new.calls c.new-variables.result c.add_calls.new.variables c.as_slice.result.now c.new-variables.ensures c.as_slice.ensures c.in_ok-add_calls.ensures

pub add_value-returns-clause-made : goal.add_value-returns-clause-made
add_value-returns-clause-made t c =
    let made = c.filled_term-term.ensures in
    value_added c.args.program.now c.args.body.now c.args.terms.now (supply_of c.args.supply.now) c.requires.may c.args.e.now c.requires.typed c.add_calls.new.terms (supply_of c.add_calls.new.supply) c.args.calls.now c.add_calls.new.calls c.new-variables.result c.add_calls.new.variables c.as_slice.result.now c.new-variables.ensures c.as_slice.ensures c.in_ok-add_calls.ensures
    c.filled_term-term.new.terms c.filled_term-term.result c.limited.result c.limited.ensures.same made.tree made.in_range made.grows made.only made.size c.limited.ensures.walk

pub add_value-returns-clause-sort : goal.add_value-returns-clause-sort
add_value-returns-clause-sort t c =
    value_has_sort c.args.program.now c.args.body.now c.args.terms.now (supply_of c.args.supply.now) c.requires.may c.args.e.now c.requires.typed c.add_calls.new.terms (supply_of c.add_calls.new.supply) c.args.calls.now c.add_calls.new.calls c.new-variables.result c.add_calls.new.variables c.as_slice.result.now c.new-variables.ensures c.as_slice.ensures c.in_ok-add_calls.ensures
    c.filled_term-term.new.terms c.filled_term-term.result c.limited.result c.limited.ensures.same c.filled_term-term.ensures.sort

-- ---- a step

pub step-returns-in_err-index-in-Index : goal.step-returns-in_err-index-in-Index
step-returns-in_err-index-in-Index t c =
    index_stops c.args.program.now c.args.body.now c.args.terms.now (supply_of c.args.supply.now) c.requires.may c.args.way.now c.requires.way c.args.selector.now c.requires.typed
    c.in-Index.field-0 c.in-Index.e c.deref.result.now c.in-Index.is c.deref.ensures c.from_residual.result c.in_err-index-in-Index.field-0.0 c.add_value.new.terms c.args.way.now c.args.calls.now c.add_value.new.calls (supply_of c.add_value.new.supply) c.from_residual.ensures.1 c.in_err-index-in-Index.ensures.made

pub step-to_element-requires-clause-way : goal.step-to_element-requires-clause-way
step-to_element-requires-clause-way t c = IsWay-Extends c.in_ok-index-in-Index.ensures.made.grows c.args.way.now c.requires.way

pub step-to_element-requires-clause-sorts : goal.step-to_element-requires-clause-sorts
step-to_element-requires-clause-sorts t c =
    element_sorts c.args.program.now c.args.body.now c.args.terms.now (supply_of c.args.supply.now) c.requires.may c.args.way.now c.requires.way c.args.selector.now c.requires.typed
    c.in-Index.field-0 c.in-Index.e c.deref.result.now c.in-Index.is c.deref.ensures c.add_value.new.terms c.in_ok-index-in-Index.index c.args.calls.now c.add_value.new.calls (supply_of c.add_value.new.supply) c.in_ok-index-in-Index.ensures.made

pub step-to_field-requires-clause-sorts : goal.step-to_field-requires-clause-sorts
step-to_field-requires-clause-sorts t c =
    field_sorts c.args.program.now c.args.body.now c.args.terms.now (supply_of c.args.supply.now) c.requires.may c.args.way.now c.requires.way c.args.selector.now c.requires.typed
    c.in-Field.field-0 c.in-Field.f c.in-Field.is

pub step-to_cell-requires-clause-class : goal.step-to_cell-requires-clause-class
step-to_cell-requires-clause-class t c =
    cell_there c.args.program.now c.args.body.now c.args.terms.now (supply_of c.args.supply.now) c.requires.may c.args.way.now c.requires.way c.args.selector.now c.requires.typed
    c.in-Cell.field-0 c.in-Cell.t c.in-Cell.is

pub step-returns-in_ok-index-in-Index : goal.step-returns-in_ok-index-in-Index
step-returns-in_ok-index-in-Index t c =
    element_added c.args.program.now c.args.body.now c.args.terms.now (supply_of c.args.supply.now) c.requires.may c.args.way.now c.requires.way c.args.selector.now c.requires.typed
    c.in-Index.field-0 c.in-Index.e c.deref.result.now c.in-Index.is c.deref.ensures c.add_value.new.terms c.in_ok-index-in-Index.index c.args.calls.now c.add_value.new.calls (supply_of c.add_value.new.supply) c.in_ok-index-in-Index.ensures.made
    c.to_element.result c.to_element.new.terms c.to_element.new.way c.to_element.ensures.grows c.to_element.ensures.walk c.to_element.ensures.way c.to_element.ensures.same

pub step-returns-in-Field : goal.step-returns-in-Field
step-returns-in-Field t c =
    field_added c.args.program.now c.args.body.now c.args.terms.now (supply_of c.args.supply.now) c.requires.may c.args.way.now c.requires.way c.args.selector.now c.requires.typed
    c.in-Field.field-0 c.in-Field.f c.in-Field.is c.to_field.result c.to_field.new.terms c.to_field.new.way c.args.calls.now c.to_field.ensures.grows c.to_field.ensures.walk c.to_field.ensures.way c.to_field.ensures.same

pub step-returns-in-Cell : goal.step-returns-in-Cell
step-returns-in-Cell t c =
    cell_added c.args.program.now c.args.body.now c.args.terms.now (supply_of c.args.supply.now) c.requires.may c.args.way.now c.requires.way c.args.selector.now c.requires.typed
    c.in-Cell.field-0 c.in-Cell.t c.in-Cell.is c.to_cell.result c.to_cell.new.terms c.to_cell.new.way c.args.calls.now c.to_cell.ensures.grows c.to_cell.ensures.walk c.to_cell.ensures.way c.to_cell.ensures.same

-- ---- a place

pub add_place-start-requires : goal.add_place-start-requires
add_place-start-requires t c = record {
  types =
      designator_sort c.args.program.now c.args.body.now c.args.terms.now (supply_of c.args.supply.now) c.requires.may c.args.d.now c.d.inside.line c.d.inside.name (selectors_of c.d.inside.selectors.items) (sym c.d.view_is) c.requires.typed;
}

pub add_place-returns-in_err-way : goal.add_place-returns-in_err-way
add_place-returns-in_err-way t c =
    designator_start_stops c.args.program.now c.args.body.now c.args.terms.now (supply_of c.args.supply.now) c.requires.may c.args.d.now c.d.inside.line c.d.inside.name (selectors_of c.d.inside.selectors.items) (sym c.d.view_is) c.requires.typed
    c.from_residual.result c.in_err-way.field-0.0 c.start.new.terms c.args.calls.now c.args.calls.now (supply_of c.args.supply.now) c.from_residual.ensures.1 c.in_err-way.ensures.grows c.in_err-way.ensures.walk

pub add_place-loop-selector-init : goal.add_place-loop-selector-init
add_place-loop-selector-init t c =
    designator_begins c.args.program.now c.args.body.now c.args.terms.now (supply_of c.args.supply.now) c.requires.may c.args.d.now c.d.inside.line c.d.inside.name (selectors_of c.as_slice-selector-items.result.now) (designator_is c.args.d.now c.d.inside.line c.d.inside.name c.d.inside.selectors.items c.as_slice-selector-items.result.now c.d.view_is c.as_slice-selector-items.ensures.value) c.requires.typed
    c.start.new.terms c.in_ok-way.way c.args.calls.now c.in_ok-way.ensures.walk c.in_ok-way.ensures.way c.in_ok-way.ensures.same

pub add_place-step-requires : goal.add_place-step-requires
add_place-step-requires t c =
    let within : selectors_size (selector_before c.selector-item.result no_selectors) ≤ selectors_size (selectors_of c.as_slice-selector-items.result.now) =
    subst (λ (s : Selector). selectors_size (selector_before s no_selectors) ≤ selectors_size (selectors_of c.as_slice-selector-items.result.now)) (sym c.selector-item.is)
    (selector_within c.as_slice-selector-items.result.now c.loop-selector.selector-index c.selector-item.result (omega arith)) in
    let smaller : selectors_size (selectors_of c.as_slice-selector-items.result.now) < designator_size c.args.d.now =
    path_smaller c.args.d.now c.d.inside.line c.d.inside.name (selectors_of c.as_slice-selector-items.result.now) (designator_is c.args.d.now c.d.inside.line c.d.inside.name c.d.inside.selectors.items c.as_slice-selector-items.result.now c.d.view_is c.as_slice-selector-items.ensures.value) in (
      omega (arith, c.decreases),
      (
        may_later c.args.program.now c.args.body.now c.args.terms.now c.loop-selector.terms (supply_of c.args.supply.now) (supply_of c.loop-selector.supply) c.requires.may c.loop-selector.invariant.walked.grows c.loop-selector.invariant.there,
        (
          c.loop-selector.invariant.is_way,
          designator_step c.args.program.now c.args.body.now c.args.terms.now (supply_of c.args.supply.now) c.requires.may c.args.d.now c.d.inside.line c.d.inside.name (selectors_of c.as_slice-selector-items.result.now) (designator_is c.args.d.now c.d.inside.line c.d.inside.name c.d.inside.selectors.items c.as_slice-selector-items.result.now c.d.view_is c.as_slice-selector-items.ensures.value) c.requires.typed
              (selectors_of (drop c.loop-selector.selector-index c.as_slice-selector-items.result.now)) c.loop-selector.terms c.loop-selector.way c.args.calls.now c.loop-selector.calls (supply_of c.loop-selector.supply) c.loop-selector.invariant
              (selectors_of (drop (c.loop-selector.selector-index + 1) c.as_slice-selector-items.result.now)) c.selector-item.result (ap selectors_of (next_is c.as_slice-selector-items.result.now c.loop-selector.selector-index c.selector-item.result c.loop-selector-test.true c.selector-item.is)),
        ),
      ),
    )

pub add_place-returns-in_err-step : goal.add_place-returns-in_err-step
add_place-returns-in_err-step t c =
    designator_stops c.args.program.now c.args.body.now c.args.terms.now (supply_of c.args.supply.now) c.requires.may c.args.d.now c.d.inside.line c.d.inside.name (selectors_of c.as_slice-selector-items.result.now) (designator_is c.args.d.now c.d.inside.line c.d.inside.name c.d.inside.selectors.items c.as_slice-selector-items.result.now c.d.view_is c.as_slice-selector-items.ensures.value) c.requires.typed
    (selectors_of (drop c.loop-selector.selector-index c.as_slice-selector-items.result.now)) c.loop-selector.terms c.loop-selector.way c.args.calls.now c.loop-selector.calls (supply_of c.loop-selector.supply) c.loop-selector.invariant
    (selectors_of (drop (c.loop-selector.selector-index + 1) c.as_slice-selector-items.result.now)) c.selector-item.result (ap selectors_of (next_is c.as_slice-selector-items.result.now c.loop-selector.selector-index c.selector-item.result c.loop-selector-test.true c.selector-item.is))
    c.step.new.terms c.step.new.way c.step.new.calls (supply_of c.step.new.supply) c.from_residual-in_err-step.result c.in_err-step.field-0.0 c.from_residual-in_err-step.ensures.1 c.in_err-step.ensures

pub add_place-loop-selector-preserved : goal.add_place-loop-selector-preserved
add_place-loop-selector-preserved t c =
    designator_next c.args.program.now c.args.body.now c.args.terms.now (supply_of c.args.supply.now) c.requires.may c.args.d.now c.d.inside.line c.d.inside.name (selectors_of c.as_slice-selector-items.result.now) (designator_is c.args.d.now c.d.inside.line c.d.inside.name c.d.inside.selectors.items c.as_slice-selector-items.result.now c.d.view_is c.as_slice-selector-items.ensures.value) c.requires.typed
    (selectors_of (drop c.loop-selector.selector-index c.as_slice-selector-items.result.now)) c.loop-selector.terms c.loop-selector.way c.args.calls.now c.loop-selector.calls (supply_of c.loop-selector.supply) c.loop-selector.invariant
    (selectors_of (drop (c.loop-selector.selector-index + 1) c.as_slice-selector-items.result.now)) c.selector-item.result (ap selectors_of (next_is c.as_slice-selector-items.result.now c.loop-selector.selector-index c.selector-item.result c.loop-selector-test.true c.selector-item.is))
    c.step.new.terms c.step.new.way c.step.new.calls (supply_of c.step.new.supply) c.in_ok-step.ensures

pub add_place-returns : goal.add_place-returns
add_place-returns t c =
    designator_ends c.args.program.now c.args.body.now c.args.terms.now (supply_of c.args.supply.now) c.requires.may c.args.d.now c.d.inside.line c.d.inside.name (selectors_of c.as_slice-selector-items.result.now) (designator_is c.args.d.now c.d.inside.line c.d.inside.name c.d.inside.selectors.items c.as_slice-selector-items.result.now c.d.view_is c.as_slice-selector-items.ensures.value) c.requires.typed
    (selectors_of (drop c.loop-selector.selector-index c.as_slice-selector-items.result.now)) c.loop-selector.terms c.loop-selector.way c.args.calls.now c.loop-selector.calls (supply_of c.loop-selector.supply) c.loop-selector.invariant
    (ap selectors_of (drop_all c.loop-selector.selector-index c.as_slice-selector-items.result.now c.loop-selector-test.false))
