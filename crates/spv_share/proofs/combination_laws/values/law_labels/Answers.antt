use Rattle.spv_share.proofs.combination_laws.Graphs.{exact_labels}
use Rattle.spv_share.proofs.combination_laws.values.law_labels.Goals as goal

pub returns : goal.returns
returns c = exact_labels c.args.terms.now c.law_arena.ensures c.args.both.now c.requires c.law_same.ensures c.law_terms.ensures
