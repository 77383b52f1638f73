use Rattle.std.proofs.Common.{[], ◌∷◌, ◌++◌, length, sym, ap, subst, ◌∙◌}
use Rattle.spv_term.specs.Arena.{AllBelow}
use Rattle.spv_term.proofs.TreeLemmas.{AllBelow-append}
use Rattle.spv_fact_search.proofs.enlarging.used_terms.Goals as goal

pub subterms-requires : goal.subterms-requires
subterms-requires c =
    subst (AllBelow (length c.args.terms.now.nodes)) (sym (c.as_slice-2.ensures.value ∙ c.in_ok-push.ensures.items ∙ ap (λ ts. ts ++ c.args.condition.now.goal ∷ []) (c.in_ok-extend_from_slice.ensures.items ∙ (λ i. c.new-roots.ensures.items i ++ c.as_slice.ensures i))))
    (AllBelow-append (length c.args.terms.now.nodes) c.args.condition.now.given (c.args.condition.now.goal ∷ []) c.requires.given (c.requires.goal, tt))
