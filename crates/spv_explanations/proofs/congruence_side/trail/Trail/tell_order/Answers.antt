use Rattle.spv_term.specs.Arena.{tree}
use Rattle.spv_derivations.specs.derivation.Derivation.{literal}
use Rattle.spv_explanations.proofs.congruence_side.Trails.{fact_on}
use Rattle.spv_explanations.proofs.congruence_side.trail.Trail.tell_order.Goals as goal

pub returns-clause-fact : goal.returns-clause-fact
returns-clause-fact c =
    fact_on c.args.terms.now c.told.new.self c.part_sides.new.self c.in_ok-number.number (literal (tree c.args.terms.now c.args.t) c.args.part) c.part_sides.ensures.grows c.in_ok-number.ensures.fact
