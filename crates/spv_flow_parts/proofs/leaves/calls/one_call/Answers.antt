use Rattle.spv_flow_parts.proofs.leaves.InFront.{call_comes}
use Rattle.spv_flow_parts.proofs.leaves.calls.one_call.Goals as goal

pub returns : goal.returns
returns c =
    λ a d cs is these.
    call_comes c.args.here c.args.call.now c.args.rest.items a d cs c.joined.result c.in_ok-first.first.items c.in_ok-under.under.items is (c.in_ok-first.ensures.conditions a d.needs d.line is.needs is.line)
    (c.in_ok-under.ensures.conditions a d.gives cs is.gives these) c.joined.ensures.items (c.joined.ensures.walk a)
