use Rattle.spv_search.proofs.Splitting.{at_rest}
use Rattle.spv_search.proofs.resting.law_rest.Goals as goal

pub returns : goal.returns
returns c = λ condition ids g limits s ms h. at_rest c.args.terms.now condition ids g limits c.args.path.now s ms c.law_arena.ensures c.law_same.ensures c.law_terms.ensures c.law_tableau.ensures h
