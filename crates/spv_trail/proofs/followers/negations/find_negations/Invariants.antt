use Rattle.std.proofs.Common.{map}
use Rattle.spv_trail.specs.followers.Followers.{AreBeside, IsEarly, IsNegation}
use Rattle.spv_trail.proofs.followers.negations.find_negations.Given as goal

abbrev pub invariant-loop-place : goal.invariant-loop-place
invariant-loop-place l = AreBeside l.terms (IsEarly l.questions l.place) (IsNegation l.terms) (map (λ v. v.items) l.lists.items)
