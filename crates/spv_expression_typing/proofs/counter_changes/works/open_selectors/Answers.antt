use Rattle.std.proofs.Common.{ap, refl, ◌∙◌, ◌*◌, ◌-◌, ◌∷◌, length, take, drop}
use Rattle.spv_program.specs.Expressions.{Expression}
use Rattle.spv_program.specs.declared.typed.expressions.Selector.{Selector}
use Rattle.spv_program.specs.typed.Model.ExpressionSizes.{expression_size}
use Rattle.spv_expression_typing.specs.counter_changes.Events.{expression_events}
use Rattle.spv_expression_typing.proofs.counter_changes.Stacks.{on_ok, list_first, index_opens, field_opens, cell_opens}
use Rattle.spv_expression_typing.proofs.counter_changes.works.open_selectors.Goals as goal

pub returns-in-Index : goal.returns-in-Index
returns-in-Index c =
    on_ok c.push-in-Index.result c.push-in-Index.ensures (λ k.
    index_opens _ _ _ _ _ c.in_ok-push-in-len1-up.ensures k c.args.selectors.now (take (length c.args.selectors.now - 1) (drop 1 c.args.selectors.now)) c.in-Index.field-0 c.in-Index.e
    (list_first c.args.selectors.now c.first-item.result _ c.in-len1-up.len_at_least c.first-item.is
    ∙ ap (λ (s : Selector). s ∷ take (length c.args.selectors.now - 1) (drop 1 c.args.selectors.now)) c.in-Index.is)
    (record { events = ap expression_events c.deref.ensures; size = ap (λ (e : Expression). 3 * expression_size e) c.deref.ensures })
    (record { events = refl; size = refl }))

pub returns-in-Field : goal.returns-in-Field
returns-in-Field c =
    field_opens _ _ _ c.in_ok-push-in-len1-up.ensures c.args.selectors.now (take (length c.args.selectors.now - 1) (drop 1 c.args.selectors.now)) c.in-Field.field-0 c.in-Field.field-1
    (list_first c.args.selectors.now c.first-item.result _ c.in-len1-up.len_at_least c.first-item.is
    ∙ ap (λ (s : Selector). s ∷ take (length c.args.selectors.now - 1) (drop 1 c.args.selectors.now)) c.in-Field.is)
    (record { events = refl; size = refl })

pub returns-in-Cell : goal.returns-in-Cell
returns-in-Cell c =
    cell_opens _ _ _ c.in_ok-push-in-len1-up.ensures c.args.selectors.now (take (length c.args.selectors.now - 1) (drop 1 c.args.selectors.now)) c.in-Cell.field-0 c.in-Cell.field-1
    (list_first c.args.selectors.now c.first-item.result _ c.in-len1-up.len_at_least c.first-item.is
    ∙ ap (λ (s : Selector). s ∷ take (length c.args.selectors.now - 1) (drop 1 c.args.selectors.now)) c.in-Cell.is)
    (record { events = refl; size = refl })
