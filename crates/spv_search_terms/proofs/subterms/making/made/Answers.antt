use Rattle.spv_search_terms.proofs.subterms.WalkLemmas.{on_ok}
use Rattle.spv_search_terms.proofs.subterms.GainLemmas.{gained, stopped}
use Rattle.spv_search_terms.proofs.subterms.making.made.Goals as goal

pub returns-clause-gains : goal.returns-clause-gains
returns-clause-gains c =
    on_ok c.make.result _ _ c.make.ensures.arena (λ e. gained c.args.terms.now c.law_arena.ensures c.args.head c.args.args.now c.requires.args c.make.new.self e)

pub returns-clause-size : goal.returns-clause-size
returns-clause-size c = λ is. stopped c.args.terms.now c.law_arena.ensures c.args.head c.args.args.now c.requires.args (c.make.ensures.size is)
