use Rattle.std.proofs.Common.{◌≡◌, ◌++◌, take}
use Rattle.spv_assign.specs.Conditions.{conditions_of}
use Rattle.spv_listing.specs.Page.{claims}
use Rattle.spv_listing.proofs.listing.push_claims.Given as goal

abbrev pub invariant-loop-place : goal.invariant-loop-place
invariant-loop-place l = l.out.items ≡ l.initial.out.items ++ claims l.named 1 (conditions_of l.terms (take l.place l.conditions))
