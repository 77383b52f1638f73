use Rattle.std.proofs.Common.{refl}
use Rattle.spv_assign.proofs.limited_steps.Limits.{if_ok}
use Rattle.spv_flow_parts.proofs.for_loops.Sides.{side_given}
use Rattle.spv_flow_parts.proofs.for_loops.closing.side.Goals as goal

pub returns-clause-conditions : goal.returns-clause-conditions
returns-clause-conditions c =
    λ a x y cs there known term these.
    let under = c.in_ok-under.ensures.conditions a term.there these.in_range in
    if_ok c.known-2.result (c.known-2.ensures.conditions a there under.in_range)
    (λ all all_these. side_given a c.args.h c.args.test x y cs c.args.conditions.items c.in_ok-under.under.items c.in_ok-under.under.items all.items refl known term these under all_these)
