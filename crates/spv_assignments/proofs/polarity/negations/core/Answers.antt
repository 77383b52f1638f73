use Rattle.spv_assignments.proofs.polarity.Turns.{start, onward, lower, arrived}
use Rattle.spv_assignments.proofs.polarity.negations.core.Goals as goal

pub loop-inner-init : goal.loop-inner-init
loop-inner-init c = start c.args.terms.now c.args.t c.requires

pub loop-inner-smaller : goal.loop-inner-smaller
loop-inner-smaller c = lower c.args.terms.now c.args.t c.loop-inner.at c.loop-inner.is_even c.negated.result c.negated.ensures.value c.in-Some.inner c.in-Some.is

pub loop-inner-preserved : goal.loop-inner-preserved
loop-inner-preserved c =
    onward c.args.terms.now c.args.t c.loop-inner.at c.loop-inner.is_even c.negated.result c.negated.ensures.value c.in-Some.inner c.in-Some.is c.negated.ensures.in_range c.loop-inner.invariant

pub returns : goal.returns
returns c = record { core = arrived c.args.terms.now c.args.t c.loop-inner.at c.loop-inner.is_even c.negated.result c.negated.ensures.value c.in_default.is c.loop-inner.invariant }
