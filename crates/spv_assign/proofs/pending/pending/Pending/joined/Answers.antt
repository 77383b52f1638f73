use Rattle.std.proofs.Common.{◌++◌, ap, ◌∙◌}
use Rattle.spv_assign.specs.pending.Lists.{ConditionList}
use Rattle.spv_assign.specs.pending.Steps.{conditions_in}
use Rattle.spv_assign.proofs.pending.InFront.{conditions_in-append, joined_steps}
use Rattle.spv_assign.proofs.pending.pending.Pending.joined.Goals as goal

pub invariant_of-result : goal.invariant_of-result
invariant_of-result c =
    joined_steps c.self.inside.steps.items c.second.inside.steps.items c.in_ok-steps.steps.items c.self.inside.count c.second.inside.count c.self.invariant c.second.invariant c.in_ok-steps.ensures

pub returns : goal.returns
returns c =
    let first = ap (λ (l : ConditionList). l.items) c.self.view_is in
    let second = ap (λ (l : ConditionList). l.items) c.second.view_is in
    ap conditions_in c.in_ok-steps.ensures ∙ (conditions_in-append c.self.inside.steps.items c.second.inside.steps.items c.self.invariant.0 ∙ (λ i. first i ++ second i))
