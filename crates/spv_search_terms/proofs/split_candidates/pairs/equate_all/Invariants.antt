use Rattle.std.proofs.Common.{drop, map}
use Rattle.spv_term.specs.Arena.{tree}
use Rattle.spv_models.specs.leaf_models.Atoms.{all_equations}
use Rattle.spv_search_terms.specs.split_candidates.Equating.{RemainsAtoms}
use Rattle.spv_search_terms.proofs.split_candidates.pairs.equate_all.Given as goal

abbrev pub invariant-loop-i : goal.invariant-loop-i
invariant-loop-i l =
    RemainsAtoms l.fn.terms l.fn.out l.terms l.out (all_equations l.fn.terms.shapes l.fn.terms.decls (map (tree l.fn.terms) l.found))
    (all_equations l.fn.terms.shapes l.fn.terms.decls (drop l.i (map (tree l.fn.terms) l.found)))
