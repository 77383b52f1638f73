use Rattle.spv_term.specs.Arena.{tree}
use Rattle.spv_tableau_rules.specs.constraints.Sayings.{literal}
use Rattle.spv_trail.proofs.propagation.Citing.{found_number}
use Rattle.spv_trail.proofs.propagation.valuing.core_fact.Goals as goal

pub returns-in-Some : goal.returns-in-Some
returns-in-Some c =
    λ cases may formula. found_number c.args.terms.now c.args.condition.now cases c.args.derivation.now c.args.known.now c.in-Some.number (literal c.args.truth (tree c.args.terms.now c.args.core)) may.path may.citable c.in-Some.ensures.found
