use Rattle.spv_derivations.proofs.derivation.Bridges.{if_ok}
use Rattle.spv_assignments.specs.partial_assignment.Facts.{facts_of}
use Rattle.spv_trail.proofs.propagation.Cores.{core_value, standing_truth}
use Rattle.spv_trail.proofs.propagation.valuing.value_fact.Goals as goal

pub core_fact-requires-clause-value : goal.core_fact-requires-clause-value
core_fact-requires-clause-value c = core_value c.args.terms.now (facts_of c.args.terms.now c.args.known.now) c.args.t c.args.truth c.standing-said.result c.standing-said.ensures c.requires.value

pub returns : goal.returns
returns c =
    if_ok c.term_number.result c.term_number.ensures
    (λ n step cases may formula. step cases c.args.derivation.now (c.in_ok-number.ensures cases may (standing_truth c.args.terms.now c.args.t c.args.truth c.standing-said.result c.standing-said.ensures formula)) formula)
