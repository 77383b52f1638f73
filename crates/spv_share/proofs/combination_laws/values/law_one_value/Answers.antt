use Rattle.spv_share.proofs.combination_laws.Graphs.{have_one_value, have_one_value_apart, same_have_one_value}
use Rattle.spv_share.proofs.combination_laws.values.law_one_value.Goals as goal

pub returns-clause-values : goal.returns-clause-values
returns-clause-values c = have_one_value c.args.terms.now c.law_arena.ensures c.args.both.now c.requires.both c.requires.agree c.law_same.ensures c.law_terms.ensures c.requires.enough

pub returns-clause-apart : goal.returns-clause-apart
returns-clause-apart c = have_one_value_apart c.args.terms.now c.law_arena.ensures c.args.both.now c.requires.both c.requires.agree c.law_same.ensures c.law_terms.ensures c.requires.enough

pub returns-clause-same : goal.returns-clause-same
returns-clause-same c =
    same_have_one_value c.args.terms.now c.law_arena.ensures c.args.both.now c.requires.both c.requires.agree c.law_same.ensures c.law_terms.ensures c.law_tableau.ensures c.requires.enough
