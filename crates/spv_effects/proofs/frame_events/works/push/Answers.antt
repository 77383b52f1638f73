use Rattle.std.proofs.Common.{sym, ◌∙◌}
use Rattle.spv_effects.proofs.frame_events.Stacks.{pushed, pushed_nothing}
use Rattle.spv_effects.proofs.frame_events.works.push.Goals as goal

pub returns-then-is_nothing : goal.returns-then-is_nothing
returns-then-is_nothing c = pushed_nothing _ c.args.work (sym c.is_nothing.ensures ∙ c.if-is_nothing.true)

pub returns : goal.returns
returns c = pushed _ _ c.args.work (sym c.is_nothing.ensures ∙ c.if-is_nothing.false) c.in_ok-push.ensures.items
