use Rattle.std.proofs.Common.{◌≡◌, take}
use Rattle.spv_listing.specs.verdict_pages.Counting.{member_total}
use Rattle.spv_listing.proofs.verdict_pages.instances.count_members.Given as goal

abbrev pub invariant-loop-round : goal.invariant-loop-round
invariant-loop-round l = l.number ≡ member_total (take l.round-index l.rounds)
