use Rattle.spv_term.specs.Arena.{tree}
use Rattle.spv_decisions.proofs.literal_lookup.Said.{denies_false, denies_other}
use Rattle.spv_decisions.proofs.literal_lookup.saying.denies.Goals as goal

pub returns-in-False : goal.returns-in-False
returns-in-False c = denies_false (tree c.args.terms.now c.args.t) (tree c.args.terms.now c.args.k.term) c.args.k.part c.same_term.result c.in-False.is c.same_term.ensures

pub returns-in_default : goal.returns-in_default
returns-in_default c = denies_other (tree c.args.terms.now c.args.t) (tree c.args.terms.now c.args.k.term) c.args.k.part c.requires.k.bare c.in_default.not-False
