use Rattle.spv_program.specs.typed.ExpressionViews.{arguments_of}
use Rattle.spv_effects.proofs.mod_sets.Tests.{on_ok}
use Rattle.spv_effects.proofs.mod_sets.Events.{follows_call}
use Rattle.spv_effects.proofs.mod_sets.changing.follow.Goals as goal

pub returns-in-Called : goal.returns-in-Called
returns-in-Called c =
    rw c.in-Called.is (on_ok c.add.result c.add.ensures
    (λ added. follows_call c.in-Called.call.now c.call.inside.routine c.call.inside.line (arguments_of c.call.inside.arguments.items) c.args.roots.now _ _ c.call.view_is added))
