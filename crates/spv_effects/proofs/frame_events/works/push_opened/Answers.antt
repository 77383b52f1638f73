use Rattle.std.proofs.Common.{}
use Rattle.spv_effects.proofs.frame_events.Stacks.{pushed_all, on_ok}
use Rattle.spv_effects.proofs.frame_events.works.push_opened.Goals as goal

pub returns : goal.returns
returns c = on_ok c.push-3.result c.push-3.ensures (λ k. pushed_all _ _ _ _ _ c.in_ok-push.ensures c.in_ok-push-2.ensures k)
