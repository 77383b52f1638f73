use Rattle.spv_explanations.proofs.congruence_side.Trails.{course_grows, course_holds}
use Rattle.spv_explanations.proofs.congruence_side.trail.Trail.join_by_sums.Goals as goal

pub returns-in_err-why-clause-holds : goal.returns-in_err-why-clause-holds
returns-in_err-why-clause-holds c = course_holds c.args.terms.now c.args.self.now c.sum_entry.new.derivation c.requires.holds (c.sum_entry.ensures.moves c.args.terms.now c.requires.holds.derivation c.requires.sum)

pub returns-in_err-why-clause-grows : goal.returns-in_err-why-clause-grows
returns-in_err-why-clause-grows c = course_grows c.args.terms.now c.args.self.now c.sum_entry.new.derivation (c.sum_entry.ensures.moves c.args.terms.now c.requires.holds.derivation c.requires.sum)

pub enter-requires-clause-holds : goal.enter-requires-clause-holds
enter-requires-clause-holds c = course_holds c.args.terms.now c.args.self.now c.sum_entry.new.derivation c.requires.holds (c.sum_entry.ensures.moves c.args.terms.now c.requires.holds.derivation c.requires.sum)
