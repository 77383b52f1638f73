use Rattle.std.proofs.Common.{◌≡◌, true, map, take}
use Rattle.std.specs.List.{list_all}
use Rattle.spv_listing_values.specs.Forms as spec
use Rattle.spv_listing_values.specs.Mapped.{step_at}
use Rattle.spv_listing_values.specs.Places.{tree}
use Rattle.spv_listing_values.proofs.forms.are_steps.Given as goal

abbrev pub invariant-loop-step : goal.invariant-loop-step
invariant-loop-step l = list_all spec.is_step (map (step_at (tree l.texts)) (take l.step-index l.steps)) ≡ true
