use Rattle.spv_term.specs.Arena.{tree}
use Rattle.spv_explanations.proofs.congruence_side.Trails.{fact_on, grows_then}
use Rattle.spv_explanations.proofs.congruence_side.trail.Trail.tell_true.Goals as goal

pub returns-in_err-tie_sides-clause-grows : goal.returns-in_err-tie_sides-clause-grows
returns-in_err-tie_sides-clause-grows c =
    grows_then c.args.self.now c.set_true.new.self c.tie_sides.new.self (grows_then c.args.self.now c.told.new.self c.set_true.new.self c.told.ensures.grows c.set_true.ensures.grows) c.tie_sides.ensures.grows

pub returns-clause-grows : goal.returns-clause-grows
returns-clause-grows c =
    grows_then c.args.self.now c.set_true.new.self c.tie_sides.new.self (grows_then c.args.self.now c.told.new.self c.set_true.new.self c.told.ensures.grows c.set_true.ensures.grows) c.tie_sides.ensures.grows

pub returns-clause-fact : goal.returns-clause-fact
returns-clause-fact c =
    fact_on c.args.terms.now c.told.new.self c.tie_sides.new.self c.in_ok-number.number (tree c.args.terms.now c.args.t)
    (grows_then c.told.new.self c.set_true.new.self c.tie_sides.new.self c.set_true.ensures.grows c.tie_sides.ensures.grows) c.in_ok-number.ensures.fact
