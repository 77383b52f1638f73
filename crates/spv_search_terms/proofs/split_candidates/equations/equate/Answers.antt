use Rattle.spv_search_terms.proofs.split_candidates.EquationLemmas.{equal_sorts, equated}
use Rattle.spv_search_terms.proofs.split_candidates.equations.equate.Goals as goal

pub made-requires-clause-sorts : goal.made-requires-clause-sorts
made-requires-clause-sorts c = equal_sorts c.args.terms.now.shapes c.args.terms.now.decls _ _ c.requires.sorts

pub returns-clause-gains : goal.returns-clause-gains
returns-clause-gains c =
    equated c.args.terms.now c.made.new.terms c.law_arena.ensures c.args.out.now c.add.new.self c.in_ok-e.e _ c.in_ok-e.ensures.gains c.in_ok-e.ensures.grows c.in_ok-e.ensures.tree c.in_ok-e.ensures.in_range c.requires.out c.in_ok-add.ensures
