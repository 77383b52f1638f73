use Rattle.std.proofs.Common.{drop, map}
use Rattle.spv_atoms.specs.Atoms.{is_truth, is_atom}
use Rattle.spv_atoms.specs.Order.{passing}
use Rattle.spv_term.specs.Arena.{tree}
use Rattle.spv_atoms.specs.Atoms.{with_terms}
use Rattle.spv_search_terms.proofs.split_candidates.AddLemmas.{Adding}
use Rattle.spv_search_terms.proofs.split_candidates.adding.add_atoms.Given as goal

abbrev pub invariant-loop-t : goal.invariant-loop-t
invariant-loop-t l =
    Adding l.terms l.out (passing (is_atom (is_truth l.terms.shapes l.terms.decls)) (map (tree l.terms) (drop l.t-index l.found)))
    (with_terms (map (tree l.terms) l.fn.out) (passing (is_atom (is_truth l.terms.shapes l.terms.decls)) (map (tree l.terms) l.found)))
