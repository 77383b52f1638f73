use Rattle.std.proofs.Common.{◌≤◌, ◌+◌}
use Rattle.spv_listing_values.proofs.accepting.last_line.Given as goal

abbrev pub invariant-loop-at : goal.invariant-loop-at
invariant-loop-at l = l.line ≤ l.at + 1
