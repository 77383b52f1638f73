use Rattle.std.proofs.Common.{◌<◌, ◌+◌, refl, subst}
use Rattle.spv_assign.specs.creation_trace.Events.{longest_list}
use Rattle.spv_assign.proofs.limited_steps.Limits.{too_long}
use Rattle.spv_assign.proofs.limited_steps.lists.joined.Goals as goal

pub returns-then-are_too_many-clause-walk : goal.returns-then-are_too_many-clause-walk
returns-then-are_too_many-clause-walk c =
    let first = c.len.ensures in
    let second = c.len-2.ensures in
    λ a. (
      refl,
      too_long c.args.first.items c.args.second.items a (subst (λ n. longest_list < n) (λ i. first i + second i) (c.if-are_too_many.ensures.0 refl)),
    )
