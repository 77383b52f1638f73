use Rattle.spv_term.specs.Arena.{tree}
use Rattle.spv_assignments.specs.partial_assignment.Facts.{fact_of}
use Rattle.spv_decisions.proofs.literal_lookup.Opposed.{negates_false, negates_other}
use Rattle.spv_decisions.proofs.literal_lookup.clashing.negates.Goals as goal

pub returns-in-False : goal.returns-in-False
returns-in-False c = negates_false (tree c.args.terms.now c.args.f.term) (fact_of c.args.terms.now c.args.g) c.args.f.part c.affirms.result c.in-False.is c.affirms.ensures

pub returns-in_default : goal.returns-in_default
returns-in_default c = negates_other (tree c.args.terms.now c.args.f.term) (fact_of c.args.terms.now c.args.g) c.args.f.part c.requires.f.bare c.in_default.not-False
