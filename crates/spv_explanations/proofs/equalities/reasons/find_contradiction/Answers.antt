use Rattle.std.proofs.Common.{subst}
use Rattle.spv_explanations.specs.equalities.Reasons.{MayNotBeSame}
use Rattle.spv_explanations.proofs.equalities.Ends.{closes-after, denial-closes, opposites-of}
use Rattle.spv_explanations.proofs.equalities.reasons.find_contradiction.Goals as goal

pub returns-in-Some-clause-closes : goal.returns-in-Some-clause-closes
returns-in-Some-clause-closes c =
    denial-closes c.args.terms.now c.args.derivation.now c.find_reason.new.derivation c.in_ok-number.number c.in-Some.k c.args.s c.args.t c.in_ok-number.ensures.gains
    (subst (λ o. MayNotBeSame c.args.terms.now c.args.graph.now c.args.derivation.now c.args.s c.args.t o) c.in-Some.is c.requires.why)

pub returns-in_ok-end-in-None-clause-closes : goal.returns-in_ok-end-in-None-clause-closes
returns-in_ok-end-in-None-clause-closes c =
    closes-after c.args.terms.now c.args.derivation.now c.find_reason.new.derivation c.opposed_end.new.derivation c.in_ok-end-in-None.end _ c.in_ok-number.ensures.goes_on
    (c.in_ok-end-in-None.ensures.closes c.in_ok-number.ensures.gains.derivation c.in_ok-number.ensures.gains.fact
    (opposites-of c.args.terms.now c.args.graph.now c.args.s c.args.t c.requires.stands.of
    (subst (λ o. MayNotBeSame c.args.terms.now c.args.graph.now c.args.derivation.now c.args.s c.args.t o) c.in-None.is c.requires.why)))
