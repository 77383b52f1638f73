use Rattle.spv_explanations.proofs.congruence_side.Trails.{course_holds}
use Rattle.spv_explanations.proofs.congruence_side.trail.Trail.deny.Goals as goal

pub returns-clause-holds : goal.returns-clause-holds
returns-clause-holds c = course_holds c.args.terms.now c.args.self.now c.denied_entry.new.derivation c.requires.holds (c.denied_entry.ensures.moves c.args.terms.now c.requires.holds.derivation c.requires.denies)
