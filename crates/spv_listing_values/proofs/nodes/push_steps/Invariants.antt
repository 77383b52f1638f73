use Rattle.std.proofs.Common.{◌≡◌, ◌++◌, map, take}
use Rattle.spv_listing_values.specs.Lines.{step_line}
use Rattle.spv_listing_values.specs.Blanks.{lines_bytes}
use Rattle.spv_listing_values.specs.Mapped.{step_at}
use Rattle.spv_listing_values.specs.Places.{tree}
use Rattle.spv_listing_values.proofs.nodes.push_steps.Given as goal

abbrev pub invariant-loop-step : goal.invariant-loop-step
invariant-loop-step l = l.out.items ≡ l.initial.out.items ++ lines_bytes (map step_line (map (step_at (tree l.texts)) (take l.step-index l.steps)))
