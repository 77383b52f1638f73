use Rattle.std.proofs.Common.{ap, sym, subst, ◌∙◌, ◌≡◌, ◌+◌, ◌*◌, List}
use Rattle.spv_program.specs.Expressions.{Expression}
use Rattle.spv_program.specs.declared.typed.expressions.Selector.{Selector}
use Rattle.spv_program.specs.declared.typed.expressions.Through.{Through}
use Rattle.spv_program.specs.typed.ExpressionViews.{selectors_of, expression_of}
use Rattle.spv_program.specs.typed.Model.ExpressionSizes.{expression_size, call_size, selectors_size}
use Rattle.spv_expression_typing.specs.counter_changes.Events.{call_events, expression_events, selector_events}
use Rattle.spv_expression_typing.specs.counter_changes.Works.{Opens}
use Rattle.spv_expression_typing.proofs.counter_changes.Stacks.{on_ok, read_opens, negative_opens, negated_opens, result_opens}
use Rattle.spv_expression_typing.proofs.counter_changes.works.open_value.Goals as goal

pub returns-in-Read : goal.returns-in-Read
returns-in-Read c =
    on_ok c.push.result c.push.ensures (λ k.
    read_opens _ _ _ k c.args.value.now c.in-Read.d c.d.inside.line c.d.inside.name c.d.inside.selectors.items (ap expression_of (sym c.in-Read.is) ∙ c.value.view_is) c.d.view_is
    (record {
      events = ap (λ (ss : List Selector). selector_events (selectors_of ss)) c.as_slice.ensures.value;
      size = ap (λ (ss : List Selector). 3 * selectors_size (selectors_of ss) + 1) c.as_slice.ensures.value;
    }))

pub returns-in_ok-push-in-Through : goal.returns-in_ok-push-in-Through
returns-in_ok-push-in-Through c =
    on_ok c.open_call-in-Through.result c.open_call-in-Through.ensures (λ k.
    result_opens _ _ _ _ c.args.value.now c.in-Through.t.value.call c.in-Through.t.value.line c.in-Through.t.value.of c.in-Through.t.value.selectors.items c.in_ok-push-in-Through.ensures
    (ap expression_of (sym c.in-Through.is) ∙ c.value.view_is)
    (record {
      events = ap (λ (ss : List Selector). selector_events (selectors_of ss)) behind;
      size = ap (λ (ss : List Selector). 3 * selectors_size (selectors_of ss) + 1) behind;
    })
    (subst (λ (t : Through). Opens (call_events t.call) (3 * call_size t.call) c.push-in-Through.new.works.items c.open_call-in-Through.new.works.items) c.deref-in-Through.ensures k))
  where
    behind : c.as_slice-in-Through.result.now ≡ c.in-Through.t.value.selectors.items
    behind = c.as_slice-in-Through.ensures.value ∙ ap (λ (t : Through). t.selectors.items) c.deref.ensures

pub returns-in-Negative : goal.returns-in-Negative
returns-in-Negative c =
    on_ok c.push-in-Negative.result c.push-in-Negative.ensures (λ k.
    negative_opens _ _ _ k c.args.value.now c.in-Negative.a.value (ap expression_of (sym c.in-Negative.is) ∙ c.value.view_is)
    (record { events = ap expression_events c.deref-in-Negative.ensures; size = ap (λ (e : Expression). 3 * expression_size e) c.deref-in-Negative.ensures }))

pub returns-in-Negated : goal.returns-in-Negated
returns-in-Negated c =
    on_ok c.push-in-Negated.result c.push-in-Negated.ensures (λ k.
    negated_opens _ _ _ k c.args.value.now c.in-Negated.a.value (ap expression_of (sym c.in-Negated.is) ∙ c.value.view_is)
    (record { events = ap expression_events c.deref-in-Negated.ensures; size = ap (λ (e : Expression). 3 * expression_size e) c.deref-in-Negated.ensures }))
