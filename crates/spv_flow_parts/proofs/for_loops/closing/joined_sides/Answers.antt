use Rattle.spv_flow_parts.proofs.for_loops.Sides.{both_stop, sides_come}
use Rattle.spv_flow_parts.proofs.for_loops.closing.joined_sides.Goals as goal

pub returns-in_err-both : goal.returns-in_err-both
returns-in_err-both c =
    λ a x y z bs cs ds there known within past begun inside outside n numbers.
    both_stop a x y z bs cs ds c.args.begun.items c.in_ok-first.first.items c.in_ok-second.second.items n numbers begun (c.in_ok-first.ensures.conditions a x y cs there known within inside)
    (c.in_ok-second.ensures.conditions a x z ds there known past outside) c.from_residual-in_err-both.result c.in_err-both.field-0.0 c.from_residual-in_err-both.ensures.1 (c.in_err-both.ensures.walk a)

pub returns : goal.returns
returns c =
    λ a x y z bs cs ds there known within past begun inside outside n numbers.
    sides_come a x y z bs cs ds c.args.begun.items c.in_ok-first.first.items c.in_ok-second.second.items n numbers begun (c.in_ok-first.ensures.conditions a x y cs there known within inside)
    (c.in_ok-second.ensures.conditions a x z ds there known past outside) c.joined-2.result c.in_ok-both.both.items c.in_ok-both.ensures.items c.joined-2.ensures.items (c.joined-2.ensures.walk a)
