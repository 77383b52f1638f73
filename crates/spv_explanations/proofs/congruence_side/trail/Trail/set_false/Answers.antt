use Rattle.spv_explanations.proofs.congruence_side.Trails.{course_grows, course_holds}
use Rattle.spv_explanations.proofs.congruence_side.trail.Trail.set_false.Goals as goal

pub returns-in_err-why-clause-holds : goal.returns-in_err-why-clause-holds
returns-in_err-why-clause-holds c = course_holds c.args.terms.now c.args.self.now c.false_entry.new.derivation c.requires.holds (c.false_entry.ensures.moves c.args.terms.now c.requires.holds.derivation c.requires.formula c.requires.holds.falsity c.requires.fact)

pub returns-in_err-why-clause-grows : goal.returns-in_err-why-clause-grows
returns-in_err-why-clause-grows c = course_grows c.args.terms.now c.args.self.now c.false_entry.new.derivation (c.false_entry.ensures.moves c.args.terms.now c.requires.holds.derivation c.requires.formula c.requires.holds.falsity c.requires.fact)

pub enter-requires-clause-holds : goal.enter-requires-clause-holds
enter-requires-clause-holds c = course_holds c.args.terms.now c.args.self.now c.false_entry.new.derivation c.requires.holds (c.false_entry.ensures.moves c.args.terms.now c.requires.holds.derivation c.requires.formula c.requires.holds.falsity c.requires.fact)
