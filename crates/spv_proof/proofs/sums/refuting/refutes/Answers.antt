use Rattle.std.proofs.Common.{◌∙◌, Some, None}
use Rattle.spv_proof.proofs.sums.Multiples.{sum_shows, unstopped, summed_some, summed_none}
use Rattle.spv_proof.proofs.sums.refuting.refutes.Goals as goal

pub returns-in-Some-clause-value : goal.returns-in-Some-clause-value
returns-in-Some-clause-value c =
    c.is_above_zero.ensures
    ∙ sum_shows c.args.terms.now c.args.facts.now c.args.claim c.args.multiples.now c.in-Some.sum
    (summed_some c.args.terms.now c.args.facts.now c.args.claim c.args.multiples.now c.in_ok-sum.field-0 c.in-Some.sum c.in_ok-sum.ensures.summed c.in-Some.is)

pub returns-in-Some-clause-unstopped : goal.returns-in-Some-clause-unstopped
returns-in-Some-clause-unstopped c = unstopped c.args.terms.now c.args.facts.now c.args.claim c.args.multiples.now (Some c.in-Some.sum)
    (summed_some c.args.terms.now c.args.facts.now c.args.claim c.args.multiples.now c.in_ok-sum.field-0 c.in-Some.sum c.in_ok-sum.ensures.summed c.in-Some.is)

pub returns-in-None-clause-unstopped : goal.returns-in-None-clause-unstopped
returns-in-None-clause-unstopped c = unstopped c.args.terms.now c.args.facts.now c.args.claim c.args.multiples.now None
    (summed_none c.args.terms.now c.args.facts.now c.args.claim c.args.multiples.now c.in_ok-sum.field-0 c.in_ok-sum.ensures.summed c.in-None.is)
