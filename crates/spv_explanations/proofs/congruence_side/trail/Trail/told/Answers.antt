use Rattle.spv_explanations.proofs.congruence_side.Trails.{course_grows, course_holds}
use Rattle.spv_explanations.proofs.congruence_side.trail.Trail.told.Goals as goal

pub returns-clause-holds : goal.returns-clause-holds
returns-clause-holds c =
    course_holds c.args.terms.now c.args.self.now c.told_entry.new.derivation c.requires.holds (c.told_entry.ensures.moves c.args.terms.now c.requires.holds.derivation c.requires.may.formula.within c.requires.may.part_fits)

pub returns-clause-grows : goal.returns-clause-grows
returns-clause-grows c =
    course_grows c.args.terms.now c.args.self.now c.told_entry.new.derivation (c.told_entry.ensures.moves c.args.terms.now c.requires.holds.derivation c.requires.may.formula.within c.requires.may.part_fits)
