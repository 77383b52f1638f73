use Rattle.spv_verdicts.proofs.candidate_models.Whole.{found_apart, found_whole}
use Rattle.spv_verdicts.proofs.candidate_models.agreeing.compared.Goals as goal

pub returns-in-Some : goal.returns-in-Some
returns-in-Some c = found_apart c.args.terms.now c.args.table.now.values c.args.pairs.now c.requires.pairs c.requires.values c.in-Some.i c.in-Some.j _ _ (rw c.in-Some.is at c.find_apart-found.ensures.within)

pub returns-in-None : goal.returns-in-None
returns-in-None c =
    found_whole c.args.terms.now c.args.table.now.values c.args.pairs.now c.args.keys.now c.requires.pairs c.requires.keys (rw c.in-None.is at c.find_apart-found.ensures.none) c.requires.truthful
