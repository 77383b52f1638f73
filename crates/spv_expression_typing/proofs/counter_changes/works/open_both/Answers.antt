use Rattle.std.proofs.Common.{refl}
use Rattle.spv_expression_typing.proofs.counter_changes.Stacks.{on_ok, both_open}
use Rattle.spv_expression_typing.proofs.counter_changes.works.open_both.Goals as goal

pub returns : goal.returns
returns c =
    on_ok c.push-2.result c.push-2.ensures
    (λ k. both_open _ _ _ _ _ c.in_ok-push.ensures k c.args.a.now c.args.b.now (record { events = refl; size = refl }) (record { events = refl; size = refl }))
