use Rattle.std.proofs.Common.{◌≡◌, ◌++◌, take}
use Rattle.spv_listing_values.specs.Page.{claims_lines}
use Rattle.spv_listing_values.specs.Blanks.{lines_bytes}
use Rattle.spv_listing_values.proofs.listing.push_entries.Given as goal

abbrev pub invariant-loop-place : goal.invariant-loop-place
invariant-loop-place l = l.out.items ≡ l.initial.out.items ++ lines_bytes (claims_lines 1 (take l.place l.entries))
