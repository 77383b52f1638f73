use Rattle.std.proofs.Common.{◌∙◌, refl, sym}
use Rattle.spv_listing_values.specs.Reading.{step_of}
use Rattle.spv_listing_values.specs.Told.{terms_in}
use Rattle.spv_listing_values.proofs.Turns.{step_turn, step_stays}
use Rattle.spv_listing_values.proofs.reading.Reader.step.Goals as goal

pub returns-then-not-takes_step : goal.returns-then-not-takes_step
returns-then-not-takes_step c = step_stays c.args.self.now c.requires.reading (step_of (terms_in c.args.looked.now c.args.items.now)) (sym c.takes_step.ensures ∙ c.if-not-takes_step.true)

pub returns-in_ok-put_step-in-Some : goal.returns-in_ok-put_step-in-Some
returns-in_ok-put_step-in-Some c =
    step_turn c.args.self.now _ (step_of (terms_in c.args.looked.now c.args.items.now)) c.in_ok-step.field-0 c.in-Some.step (sym c.takes_step.ensures ∙ c.if-not-takes_step.false) c.in-Some.is
    c.in_ok-step.ensures.says c.requires.reading c.in_ok-step.ensures.ready refl c.in_ok-put_step-in-Some.ensures
