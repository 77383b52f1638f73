use Rattle.spv_fact_search.proofs.Refuting.{may-deny}
use Rattle.spv_fact_search.proofs.parts.negation.Goals as goal

pub made-requires-clause-sorts : goal.made-requires-clause-sorts
made-requires-clause-sorts c = may-deny c.args.terms.now c.law_arena.ensures c.args.t c.requires.0 c.requires.1
