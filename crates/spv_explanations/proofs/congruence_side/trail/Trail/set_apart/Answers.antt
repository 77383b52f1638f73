use Rattle.spv_explanations.proofs.congruence_side.LastEntries.{denies_of}
use Rattle.spv_explanations.proofs.congruence_side.Trails.{course_grows, course_holds}
use Rattle.spv_explanations.proofs.congruence_side.trail.Trail.set_apart.Goals as goal

pub returns-in_err-why-clause-holds : goal.returns-in_err-why-clause-holds
returns-in_err-why-clause-holds c = course_holds c.args.terms.now c.args.self.now c.apart_entry.new.derivation c.requires.holds (c.apart_entry.ensures.moves c.args.terms.now c.requires.holds.derivation c.requires.apart c.requires.holds.falsity)

pub returns-in_err-why-clause-grows : goal.returns-in_err-why-clause-grows
returns-in_err-why-clause-grows c = course_grows c.args.terms.now c.args.self.now c.apart_entry.new.derivation (c.apart_entry.ensures.moves c.args.terms.now c.requires.holds.derivation c.requires.apart c.requires.holds.falsity)

pub enter-requires-clause-holds : goal.enter-requires-clause-holds
enter-requires-clause-holds c = course_holds c.args.terms.now c.args.self.now c.apart_entry.new.derivation c.requires.holds (c.apart_entry.ensures.moves c.args.terms.now c.requires.holds.derivation c.requires.apart c.requires.holds.falsity)

pub returns-clause-denies : goal.returns-clause-denies
returns-clause-denies c =
    denies_of c.law_sides.ensures c.args.terms.now c.law_arena.ensures c.apart_entry.new.derivation c.enter.new.self.derivation c.args.t c.args.self.now.falsity c.in_ok-why.why
    (c.apart_entry.ensures.moves c.args.terms.now c.requires.holds.derivation c.requires.apart c.requires.holds.falsity).derivation c.requires.apart.formula c.requires.holds.falsity (c.in_ok-why.ensures.sides c.args.terms.now) c.enter.ensures.derivation
