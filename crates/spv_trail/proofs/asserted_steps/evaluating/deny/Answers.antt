use Rattle.spv_derivations.proofs.derivation.Bridges.{if_ok}
use Rattle.spv_assignments.specs.partial_assignment.Facts.{fact_of}
use Rattle.spv_trail.proofs.asserted_steps.Denying.{denied_number}
use Rattle.spv_trail.proofs.asserted_steps.evaluating.deny.Goals as goal

pub returns : goal.returns
returns c =
    if_ok c.evaluate_claim-2.result c.evaluate_claim-2.ensures
    (λ n second cases path false_is is ordered number. denied_number c.args.terms.now c.args.condition.now c.args.derivation.now c.evaluate_claim.new.derivation c.evaluate_claim-2.new.derivation c.args.equation c.args.falsity
    (fact_of c.args.terms.now c.args.order) c.args.order.fact c.in_ok-equal.equal n c.in_ok-equal.ensures second cases path false_is is ordered number)
