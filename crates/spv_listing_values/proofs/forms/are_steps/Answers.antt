use Rattle.std.proofs.Common.{sym, ◌∙◌}
use Rattle.spv_listing_values.specs.Forms.{is_step}
use Rattle.spv_listing_values.specs.Mapped.{step_at}
use Rattle.spv_listing_values.specs.Places.{tree}
use Rattle.spv_listing_values.proofs.Judging.{one_fails}
use Rattle.spv_listing_values.proofs.forms.are_steps.Goals as goal

pub returns-then-not-is_step : goal.returns-then-not-is_step
returns-then-not-is_step c =
    sym (one_fails is_step (step_at (tree c.args.texts.now)) c.args.steps.now c.loop-step.step-index c.step-item.result c.loop-step-test.true c.step-item.is (sym c.is_step.ensures ∙ c.if-not-is_step.true))
