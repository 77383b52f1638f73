use Rattle.spv_verdicts.proofs.candidate_models.Worths.{pair_in_here}
use Rattle.spv_verdicts.proofs.candidate_models.agreeing.are_apart.Goals as goal

pub have_one_head-requires-clause-t : goal.have_one_head-requires-clause-t
have_one_head-requires-clause-t c = pair_in_here c.args.terms.now c.args.pairs.now c.args.i c.index-pairs-i.result c.requires.pairs c.requires.i

pub have_one_head-requires-clause-u : goal.have_one_head-requires-clause-u
have_one_head-requires-clause-u c = pair_in_here c.args.terms.now c.args.pairs.now c.args.j c.index-pairs-j.result c.requires.pairs c.requires.j
