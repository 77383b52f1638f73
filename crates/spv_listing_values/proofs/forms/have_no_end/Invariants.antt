use Rattle.std.proofs.Common.{◌≡◌, true, map, not, take}
use Rattle.std.specs.List.{list_all}
use Rattle.spv_listing_values.specs.Forms as spec
use Rattle.spv_listing_values.specs.Mapped.{step_at}
use Rattle.spv_listing_values.specs.declared.texts.Text.{Text}
use Rattle.spv_listing_values.specs.Written.{Written}
use Rattle.spv_listing_values.proofs.forms.have_no_end.Given as goal

abbrev pub invariant-loop-step : goal.invariant-loop-step
invariant-loop-step l = (f : Text → Written) → list_all (λ p. not (spec.is_end p)) (map (step_at f) (take l.step-index l.steps)) ≡ true
