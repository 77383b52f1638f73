use Rattle.std.proofs.Common.{ap, refl, ◌∙◌, ◌*◌, ◌-◌, ◌∷◌, length, take, drop}
use Rattle.spv_program.specs.Expressions.{Expression}
use Rattle.spv_program.specs.declared.typed.expressions.Argument.{Argument}
use Rattle.spv_program.specs.typed.Model.ExpressionSizes.{expression_size}
use Rattle.spv_expression_typing.specs.counter_changes.Events.{expression_events}
use Rattle.spv_expression_typing.proofs.counter_changes.Stacks.{on_ok, list_first, value_opens, place_opens}
use Rattle.spv_expression_typing.proofs.counter_changes.works.open_arguments.Goals as goal

pub returns-in-Value : goal.returns-in-Value
returns-in-Value c =
    on_ok c.push-in-Value.result c.push-in-Value.ensures (λ k.
    value_opens _ _ _ _ _ c.in_ok-push-in-len1-up.ensures k c.args.arguments.now (take (length c.args.arguments.now - 1) (drop 1 c.args.arguments.now)) c.in-Value.e
    (list_first c.args.arguments.now c.first-item.result _ c.in-len1-up.len_at_least c.first-item.is
    ∙ ap (λ (s : Argument). s ∷ take (length c.args.arguments.now - 1) (drop 1 c.args.arguments.now)) c.in-Value.is)
    (record { events = ap expression_events c.deref.ensures; size = ap (λ (e : Expression). 3 * expression_size e) c.deref.ensures })
    (record { events = refl; size = refl }))

pub returns-in-Place : goal.returns-in-Place
returns-in-Place c =
    on_ok c.push-in-Place.result c.push-in-Place.ensures (λ k.
    place_opens _ _ _ _ _ c.in_ok-push-in-len1-up.ensures k c.args.arguments.now (take (length c.args.arguments.now - 1) (drop 1 c.args.arguments.now)) c.in-Place.d
    (list_first c.args.arguments.now c.first-item.result _ c.in-len1-up.len_at_least c.first-item.is
    ∙ ap (λ (s : Argument). s ∷ take (length c.args.arguments.now - 1) (drop 1 c.args.arguments.now)) c.in-Place.is)
    (record { events = refl; size = refl })
    (record { events = refl; size = refl }))
