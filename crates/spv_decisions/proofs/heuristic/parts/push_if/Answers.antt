use Rattle.std.proofs.Common.{length}
use Rattle.spv_decisions.proofs.heuristic.Places.{pushed_in}
use Rattle.spv_decisions.proofs.heuristic.parts.push_if.Goals as goal

pub returns : goal.returns
returns c = λ h. pushed_in (length c.args.terms.now.nodes) c.args.list.now.items _ c.args.t h c.requires c.in_ok-push.ensures.items
