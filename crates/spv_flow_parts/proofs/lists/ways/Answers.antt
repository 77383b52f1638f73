use Rattle.spv_flow_parts.proofs.Conditions.{ways_come}
use Rattle.spv_flow_parts.proofs.lists.ways.Goals as goal

pub returns : goal.returns
returns c =
    λ a x y cs ds h_is k_is first second.
    ways_come c.args.h c.args.k c.args.first.items c.args.second.items c.in_ok-first.first.items c.in_ok-second.second.items c.joined.result c.in_ok-first.ensures.items c.in_ok-second.ensures.items
    c.in_ok-first.ensures.assumes c.in_ok-second.ensures.assumes c.joined.ensures.items c.joined.ensures.walk a x y cs ds h_is k_is first second
