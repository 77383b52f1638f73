use Rattle.std.proofs.Common.{not, map, sym, ap, ◌∙◌}
use Rattle.spv_term.specs.Arena.{tree}
use Rattle.spv_atoms.specs.Atoms.{is_truth, with_terms}
use Rattle.spv_atoms.specs.Order.{passing}
use Rattle.spv_atoms.proofs.Walks.{args_at}
use Rattle.spv_search_terms.specs.split_candidates.Adding.{is_asked}
use Rattle.spv_search_terms.proofs.split_candidates.EquationLemmas.{on_ok}
use Rattle.spv_search_terms.proofs.split_candidates.AddLemmas.{arguments-are, asked_plain}
use Rattle.spv_search_terms.proofs.split_candidates.adding.add_arguments.Goals as goal

pub add_truths-requires-clause-found : goal.add_truths-requires-clause-found
add_truths-requires-clause-found c = args_at c.args.terms.now c.law_arena.ensures c.args.t c.node.result.now c.node.ensures c.as_slice.result.now c.as_slice.ensures

pub returns-clause-asked : goal.returns-clause-asked
returns-clause-asked c =
    on_ok c.add_truths.result _ _ c.add_truths.ensures.truths
    (λ e. e
    ∙ ap (with_terms (map (tree c.args.terms.now) c.args.out.now))
    (ap (passing (is_asked (is_truth c.args.terms.now.shapes c.args.terms.now.decls))) (arguments-are c.args.terms.now c.law_arena.ensures c.args.t c.node.result.now c.node.ensures c.as_slice.result.now c.as_slice.ensures)
    ∙ sym (asked_plain (is_truth c.args.terms.now.shapes c.args.terms.now.decls) (tree c.args.terms.now c.args.t) (ap not (sym c.is_connective.ensures ∙ c.if-is_connective.false)))))
