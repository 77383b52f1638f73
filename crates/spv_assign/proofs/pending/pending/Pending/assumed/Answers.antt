use Rattle.std.proofs.Common.{map, ap, ◌∙◌, arith}
use Rattle.spv_assign.specs.Conditions.{with_given}
use Rattle.spv_assign.specs.pending.Lists.{ConditionList}
use Rattle.spv_assign.proofs.pending.InFront.{given_steps, given_conditions}
use Rattle.spv_assign.proofs.pending.pending.Pending.assumed.Goals as goal

pub invariant_of-result : goal.invariant_of-result
invariant_of-result c =
    given_steps c.self.inside.steps.items c.push_front.new.self.items c.args.h c.self.inside.count c.self.invariant (grind (arith, c.if-self-eq0.false)) c.in_ok-push_front.ensures.items

pub returns : goal.returns
returns c =
    given_conditions c.self.inside.steps.items c.push_front.new.self.items c.args.h c.self.inside.count c.self.invariant c.in_ok-push_front.ensures.items
    ∙ ap (λ (l : ConditionList). map (with_given c.args.h) l.items) c.self.view_is
