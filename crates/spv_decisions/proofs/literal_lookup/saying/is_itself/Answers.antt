use Rattle.spv_term.specs.Arena.{tree}
use Rattle.spv_decisions.proofs.literal_lookup.Said.{itself_other, itself_false}
use Rattle.spv_decisions.proofs.literal_lookup.saying.is_itself.Goals as goal

pub returns-in-False : goal.returns-in-False
returns-in-False c = itself_false (tree c.args.terms.now c.args.t) (tree c.args.terms.now c.args.k.term) c.args.k.part c.in-False.is c.requires.bare

pub returns-in_default : goal.returns-in_default
returns-in_default c =
    itself_other (tree c.args.terms.now c.args.t) (tree c.args.terms.now c.args.k.term) c.args.k.part c.same_term.result c.in_default.not-False c.requires.unordered c.same_term.ensures
