use Rattle.std.proofs.Common.{◌≡◌, ◌++◌, ◌-◌}
use Rattle.spv_listing_values.specs.Blanks.{numbers_down}
use Rattle.spv_listing_values.proofs.nodes.put_cases.Given as goal

abbrev pub invariant-loop-place : goal.invariant-loop-place
invariant-loop-place l = l.waiting.items ++ numbers_down (l.count - l.place) ≡ l.initial.waiting.items ++ numbers_down l.count
