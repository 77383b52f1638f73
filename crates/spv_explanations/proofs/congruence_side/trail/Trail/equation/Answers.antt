use Rattle.spv_logic.specs.Formulas.{equation}
use Rattle.spv_term.specs.Arena.{tree}
use Rattle.spv_explanations.proofs.congruence_side.LastEntries.{moves_either}
use Rattle.spv_explanations.proofs.congruence_side.Trails.{course_grows, course_holds, may_reason}
use Rattle.spv_explanations.proofs.congruence_side.trail.Trail.equation.Goals as goal

pub reason-requires-clause-stands : goal.reason-requires-clause-stands
reason-requires-clause-stands c = may_reason c.args.terms.now c.args.self.now c.requires.holds c.law_terms.ensures

pub returns-clause-holds : goal.returns-clause-holds
returns-clause-holds c =
    course_holds c.args.terms.now c.args.self.now c.reason.new.derivation c.requires.holds
    (moves_either c.args.terms.now c.args.self.now.derivation c.reason.new.derivation (equation (tree c.args.terms.now c.args.s) (tree c.args.terms.now c.args.t)) c.reason.result c.requires.holds.derivation c.reason.ensures.gains c.reason.ensures.err)

pub returns-clause-grows : goal.returns-clause-grows
returns-clause-grows c =
    course_grows c.args.terms.now c.args.self.now c.reason.new.derivation
    (moves_either c.args.terms.now c.args.self.now.derivation c.reason.new.derivation (equation (tree c.args.terms.now c.args.s) (tree c.args.terms.now c.args.t)) c.reason.result c.requires.holds.derivation c.reason.ensures.gains c.reason.ensures.err)
