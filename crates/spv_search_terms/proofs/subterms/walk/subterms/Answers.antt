use Rattle.spv_search_terms.proofs.subterms.WalkLemmas.{if_ok, if_two, are_subterms, are_behind, are_roots}
use Rattle.spv_search_terms.proofs.subterms.walk.subterms.Goals as goal

pub returns-clause-order : goal.returns-clause-order
returns-clause-order c = if_ok c.all_in_order.result _ _ c.all_in_order.ensures.order (λ done e. are_subterms c.args.terms.now c.law_arena.ensures c.args.roots.now done e)

pub returns-clause-behind : goal.returns-clause-behind
returns-clause-behind c =
    if_two c.all_in_order.result _ _ _ c.all_in_order.ensures.order c.all_in_order.ensures.in_range (λ done e h. are_behind c.args.terms.now c.law_arena.ensures c.args.roots.now done e h)

pub returns-clause-roots : goal.returns-clause-roots
returns-clause-roots c =
    if_two c.all_in_order.result _ _ _ c.all_in_order.ensures.order c.all_in_order.ensures.in_range (λ done e h. are_roots c.args.terms.now c.law_arena.ensures c.args.roots.now done c.requires e h)
