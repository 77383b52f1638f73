use Rattle.std.proofs.Common.{map}
use Rattle.spv_trail.specs.followers.Followers.{AreEmpty}
use Rattle.spv_trail.proofs.followers.lists.empty_lists.Given as goal

abbrev pub invariant-loop-place : goal.invariant-loop-place
invariant-loop-place g l = AreEmpty l._place (map (λ v. v.items) l.lists.items)
