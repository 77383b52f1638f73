use Rattle.spv_search_terms.proofs.condition_copy.FillLemmas.{base_made}
use Rattle.spv_search_terms.proofs.condition_copy.filling.make_base.Goals as goal

pub returns-clause-base : goal.returns-clause-base
returns-clause-base c =
    base_made c.made.new.terms c.made-2.new.terms c.made-3.new.terms c.made-4.new.terms c.in_ok-one.ensures.grows c.in_ok-truth.ensures.grows c.in_ok-falsity.ensures.grows c.in_ok-zero.zero c.in_ok-one.one c.in_ok-truth.truth c.in_ok-falsity.falsity
    c.in_ok-zero.ensures.in_range c.in_ok-zero.ensures.tree c.in_ok-one.ensures.in_range c.in_ok-one.ensures.tree c.in_ok-truth.ensures.in_range c.in_ok-truth.ensures.tree c.in_ok-falsity.ensures.in_range c.in_ok-falsity.ensures.tree
