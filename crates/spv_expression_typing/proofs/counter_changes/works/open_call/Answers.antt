use Rattle.std.proofs.Common.{ap, refl, ◌+◌, ◌*◌, List}
use Rattle.spv_program.specs.declared.typed.expressions.Argument.{Argument}
use Rattle.spv_program.specs.typed.ExpressionViews.{arguments_of}
use Rattle.spv_program.specs.typed.Model.ExpressionSizes.{arguments_size}
use Rattle.spv_expression_typing.specs.counter_changes.Events.{argument_events}
use Rattle.spv_expression_typing.proofs.counter_changes.Stacks.{on_ok, call_opens}
use Rattle.spv_expression_typing.proofs.counter_changes.works.open_call.Goals as goal

pub returns : goal.returns
returns c =
    on_ok c.push-2.result c.push-2.ensures (λ k.
    call_opens _ _ _ _ _ c.in_ok-push.ensures k c.args.call.now c.call.inside.routine c.call.inside.line c.call.inside.arguments.items c.call.view_is
    (record {
      events = ap (λ (xs : List Argument). argument_events (arguments_of xs)) c.as_slice.ensures.value;
      size = ap (λ (xs : List Argument). 3 * arguments_size (arguments_of xs) + 1) c.as_slice.ensures.value;
    })
    (record { events = refl; size = refl }))
