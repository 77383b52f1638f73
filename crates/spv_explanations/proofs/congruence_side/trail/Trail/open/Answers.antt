use Rattle.spv_explanations.proofs.congruence_side.Trails.{holds_opens, opens_parts}
use Rattle.spv_explanations.proofs.congruence_side.trail.Trail.open.Goals as goal

pub returns-clause-holds : goal.returns-clause-holds
returns-clause-holds c =
    holds_opens c.args.terms.now _ c.args.truth c.args.falsity c.new-trail.result.graph c.add.new.self c.new-trail.ensures.truth c.new-trail.ensures.falsity c.new-trail.ensures.told
    c.in_ok-add.ensures.parts c.in_ok-add-2.ensures.parts c.in_ok-add-2.ensures.of c.in_ok-add.ensures.ok c.in_ok-add-2.ensures.ok c.new-trail.ensures.derivation c.new-trail.ensures.facts c.requires.truth c.requires.falsity

pub returns-clause-parts : goal.returns-clause-parts
returns-clause-parts c =
    opens_parts c.args.terms.now c.args.truth c.args.falsity c.new-trail.result.graph c.add.new.self c.add-2.new.self c.new-trail.ensures.nodes c.in_ok-add.ensures.parts c.in_ok-add-2.ensures.parts
