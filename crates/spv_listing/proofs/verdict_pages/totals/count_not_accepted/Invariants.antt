use Rattle.std.proofs.Common.{◌≡◌, ◌≤◌, take}
use Rattle.std.specs.List.{count_by}
use Rattle.spv_listing.specs.verdict_pages.Totals.{is_not_accepted}
use Rattle.spv_listing.proofs.verdict_pages.totals.count_not_accepted.Given as goal

abbrev pub invariant-loop-decided : goal.invariant-loop-decided
invariant-loop-decided l = (l.number ≡ count_by is_not_accepted (take l.decided-index l.verdicts)) × (l.number ≤ l.decided-index)
