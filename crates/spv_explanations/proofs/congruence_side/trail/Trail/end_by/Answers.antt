use Rattle.spv_explanations.proofs.congruence_side.LastEntries.{moves_closing}
use Rattle.spv_explanations.proofs.congruence_side.Trails.{course_grows, course_holds, may_reason}
use Rattle.spv_explanations.proofs.congruence_side.trail.Trail.end_by.Goals as goal

pub contradiction-requires-clause-stands : goal.contradiction-requires-clause-stands
contradiction-requires-clause-stands c = may_reason c.args.terms.now c.args.self.now c.requires.holds c.law_terms.ensures

pub returns-clause-holds : goal.returns-clause-holds
returns-clause-holds c =
    course_holds c.args.terms.now c.args.self.now c.contradiction.new.derivation c.requires.holds
    (moves_closing c.args.terms.now c.args.self.now.derivation c.contradiction.new.derivation c.contradiction.result c.requires.holds.derivation c.contradiction.ensures.closes c.contradiction.ensures.err)

pub returns-clause-grows : goal.returns-clause-grows
returns-clause-grows c =
    course_grows c.args.terms.now c.args.self.now c.contradiction.new.derivation
    (moves_closing c.args.terms.now c.args.self.now.derivation c.contradiction.new.derivation c.contradiction.result c.requires.holds.derivation c.contradiction.ensures.closes c.contradiction.ensures.err)
