use Rattle.std.proofs.Common.{◌≡◌, ◌++◌, take}
use Rattle.spv_listing.specs.Page.{checked_lines}
use Rattle.spv_listing.proofs.listing.push_checked_lines.Given as goal

abbrev pub invariant-loop-place : goal.invariant-loop-place
invariant-loop-place l = l.out.items ≡ l.initial.out.items ++ checked_lines l.named 1 (take l.place l.conditions) (take l.place l.verdicts)
