use Rattle.std.proofs.Common.{not, sym, ap, ◌∙◌}
use Rattle.spv_listing_values.specs.Forms.{is_end}
use Rattle.spv_listing_values.specs.Mapped.{step_at}
use Rattle.spv_listing_values.proofs.Judging.{one_more, one_fails, all_done}
use Rattle.spv_listing_values.proofs.forms.have_no_end.Goals as goal

pub returns-then-is_end : goal.returns-then-is_end
returns-then-is_end c f =
    sym (one_fails (λ p. not (is_end p)) (step_at f) c.args.steps.now c.loop-step.step-index c.step-item.result c.loop-step-test.true c.step-item.is (ap not (sym (c.is_end.ensures f) ∙ c.if-is_end.true)))

pub loop-step-preserved : goal.loop-step-preserved
loop-step-preserved c f =
    one_more (λ p. not (is_end p)) (step_at f) c.args.steps.now c.loop-step.step-index c.step-item.result c.loop-step-test.true c.step-item.is (c.loop-step.invariant f)
    (ap not (sym (c.is_end.ensures f) ∙ c.if-is_end.false))

pub returns : goal.returns
returns c f = sym (all_done (λ p. not (is_end p)) (step_at f) c.args.steps.now c.loop-step.step-index c.loop-step-test.false (c.loop-step.invariant f))
