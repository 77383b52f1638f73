use Rattle.spv_logic.specs.Formulas.{negation}
use Rattle.spv_term.specs.Arena.{tree}
use Rattle.spv_explanations.proofs.congruence_side.Ties.{backed_apart}
use Rattle.spv_explanations.proofs.congruence_side.Trails.{fact_on, grows_then}
use Rattle.spv_explanations.proofs.congruence_side.trail.Trail.tell_false.Goals as goal

pub tie_sides-requires-clause-backed : goal.tie_sides-requires-clause-backed
tie_sides-requires-clause-backed c = λ s u h.
    backed_apart c.args.terms.now c.law_arena.ensures c.set_false.new.self.derivation c.args.t c.in_ok-number.number (s, u)
    (fact_on c.args.terms.now c.told.new.self c.set_false.new.self c.in_ok-number.number (negation (tree c.args.terms.now c.args.t)) c.set_false.ensures.grows c.in_ok-number.ensures.fact) h

pub returns-in_err-tie_sides-clause-grows : goal.returns-in_err-tie_sides-clause-grows
returns-in_err-tie_sides-clause-grows c =
    grows_then c.args.self.now c.set_false.new.self c.tie_sides.new.self (grows_then c.args.self.now c.told.new.self c.set_false.new.self c.told.ensures.grows c.set_false.ensures.grows) c.tie_sides.ensures.grows

pub returns-clause-grows : goal.returns-clause-grows
returns-clause-grows c =
    grows_then c.args.self.now c.set_false.new.self c.tie_sides.new.self (grows_then c.args.self.now c.told.new.self c.set_false.new.self c.told.ensures.grows c.set_false.ensures.grows) c.tie_sides.ensures.grows

pub returns-clause-fact : goal.returns-clause-fact
returns-clause-fact c =
    fact_on c.args.terms.now c.told.new.self c.tie_sides.new.self c.in_ok-number.number (negation (tree c.args.terms.now c.args.t))
    (grows_then c.told.new.self c.set_false.new.self c.tie_sides.new.self c.set_false.ensures.grows c.tie_sides.ensures.grows) c.in_ok-number.ensures.fact
