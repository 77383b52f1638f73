use Rattle.spv_explanations.proofs.equalities.Ways.{extended-reaches}
use Rattle.spv_explanations.proofs.equalities.links.extended.Goals as goal

pub returns-clause-reaches : goal.returns-clause-reaches
returns-clause-reaches c s t f shown so_far leads =
    let first = c.in_ok-step.ensures.reaches t f shown leads in
    extended-reaches c.args.terms.now c.args.derivation.now c.pass.new.derivation c.linked.new.derivation s c.args.way.at t c.args.way.number c.in_ok-step.step c.in_ok-number.number so_far first
    (λ h k. c.in_ok-number.ensures.reaches c.args.terms.now s c.args.way.at t first.derivation h k)
