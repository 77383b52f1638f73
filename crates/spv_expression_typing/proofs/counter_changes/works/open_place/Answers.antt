use Rattle.std.proofs.Common.{ap, sym, refl, ◌∙◌, ◌+◌, ◌*◌, List}
use Rattle.spv_program.specs.Uses.{has_cell}
use Rattle.spv_program.specs.declared.typed.expressions.Selector.{Selector}
use Rattle.spv_program.specs.typed.ExpressionViews.{selectors_of}
use Rattle.spv_program.specs.typed.Model.ExpressionSizes.{selectors_size}
use Rattle.spv_expression_typing.specs.counter_changes.Events.{selector_events}
use Rattle.spv_expression_typing.proofs.counter_changes.Stacks.{on_ok, name_opens, through_cell_opens}
use Rattle.spv_expression_typing.proofs.counter_changes.works.open_place.Goals as goal

pub returns-then-has_cell : goal.returns-then-has_cell
returns-then-has_cell c =
    through_cell_opens _ _ _ c.in_ok-push.ensures c.args.place.now c.place.inside.line c.place.inside.name c.place.inside.selectors.items c.place.view_is
    (ap (λ (ss : List Selector). has_cell (selectors_of ss)) (sym c.as_slice-2.ensures.value) ∙ sym c.has_cell.ensures ∙ c.if-has_cell.true)
    (record {
      events = ap (λ (ss : List Selector). selector_events (selectors_of ss)) c.as_slice.ensures.value;
      size = ap (λ (ss : List Selector). 3 * selectors_size (selectors_of ss) + 1) c.as_slice.ensures.value;
    })

pub returns : goal.returns
returns c =
    on_ok c.push-2.result c.push-2.ensures (λ k.
    name_opens _ _ _ _ _ c.in_ok-push.ensures k c.args.place.now c.place.inside.line c.place.inside.name c.place.inside.selectors.items c.place.view_is
    (ap (λ (ss : List Selector). has_cell (selectors_of ss)) (sym c.as_slice-2.ensures.value) ∙ sym c.has_cell.ensures ∙ c.if-has_cell.false)
    (record { events = refl; size = refl })
    (record {
      events = ap (λ (ss : List Selector). selector_events (selectors_of ss)) c.as_slice.ensures.value;
      size = ap (λ (ss : List Selector). 3 * selectors_size (selectors_of ss) + 1) c.as_slice.ensures.value;
    }))
