use Rattle.std.proofs.Common.{length, sym, subst, arith}
use Rattle.spv_listing_values.specs.Mapped.{step_at}
use Rattle.spv_rechecking.specs.Converted.{term_at, IsStepOf, StepPlaced}
use Rattle.spv_rechecking.proofs.ConvertLemmas.{no_steps, step_placed, step_fails, more_steps, all_steps}
use Rattle.spv_rechecking.proofs.converting.steps_of.Goals as goal

pub loop-place-init : goal.loop-place-init
loop-place-init c = no_steps c.args.names.now c.args.terms.now c.args.images.now c.args.steps.now c.requires.placed c.new-list.result.items c.new-list.ensures.items

pub step_of-requires-clause-placed : goal.step_of-requires-clause-placed
step_of-requires-clause-placed c =
    subst (λ s. StepPlaced (length c.args.images.now) s) (sym c.index-steps-place.is)
    (step_placed c.args.names.now c.args.terms.now c.args.images.now c.args.steps.now c.loop-place.list.items c.loop-place.place c.loop-place.invariant c.index-steps-place.result c.loop-place-test.true)

pub returns-in_default : goal.returns-in_default
returns-in_default c =
    step_fails c.args.names.now c.args.terms.now c.args.images.now c.args.steps.now c.loop-place.list.items c.loop-place.place c.loop-place.invariant c.index-steps-place.result c.loop-place-test.true c.in_ok-made.made
    (subst (λ s. IsStepOf c.args.names.now c.args.terms.now (step_at (term_at c.args.terms.now c.args.images.now) s) c.in_ok-made.made) c.index-steps-place.is c.in_ok-made.ensures) c.in_default.is

pub loop-place-preserved : goal.loop-place-preserved
loop-place-preserved c =
    more_steps c.args.names.now c.args.terms.now c.args.images.now c.args.steps.now c.loop-place.list.items c.loop-place.place c.loop-place.invariant c.index-steps-place.result c.loop-place-test.true c.in_ok-made.made
    (subst (λ s. IsStepOf c.args.names.now c.args.terms.now (step_at (term_at c.args.terms.now c.args.images.now) s) c.in_ok-made.made) c.index-steps-place.is c.in_ok-made.ensures)
    c.in-Some.one c.in-Some.is c.push_step.new.list.items c.in_ok-push_step.ensures

pub returns : goal.returns
returns c = all_steps c.args.names.now c.args.terms.now c.args.images.now c.args.steps.now c.loop-place.list.items c.loop-place.place c.loop-place.invariant (omega (arith, c.loop-place-test.false)) c.from_vec.result c.from_vec.ensures
