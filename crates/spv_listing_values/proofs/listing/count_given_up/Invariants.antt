use Rattle.std.proofs.Common.{◌≡◌, ◌≤◌, take, count_by}
use Rattle.spv_listing_values.specs.Page as spec
use Rattle.spv_listing_values.proofs.listing.count_given_up.Given as goal

abbrev pub invariant-loop-entry : goal.invariant-loop-entry
invariant-loop-entry l = record { count : l.count ≡ count_by spec.is_given_up (take l.entry-index l.entries); few : l.count ≤ l.entry-index }
