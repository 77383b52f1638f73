use Rattle.std.proofs.Common.{drop}
use Rattle.spv_term.specs.Arena.{trees}
use Rattle.spv_atoms.specs.Atoms.{is_truth}
use Rattle.spv_models.specs.leaf_models.Atoms.{argument_equations}
use Rattle.spv_search_terms.specs.split_candidates.Equating.{args_at, RemainsAtoms}
use Rattle.spv_search_terms.proofs.split_candidates.equations.equate_arguments.Given as goal

abbrev pub invariant-loop-i : goal.invariant-loop-i
invariant-loop-i l =
    RemainsAtoms l.fn.terms l.fn.out l.terms l.out
    (argument_equations (is_truth l.fn.terms.shapes l.fn.terms.decls) (trees l.fn.terms (args_at l.fn.terms l.s)) (trees l.fn.terms (args_at l.fn.terms l.t)))
    (argument_equations (is_truth l.fn.terms.shapes l.fn.terms.decls) (trees l.fn.terms (drop l.i (args_at l.fn.terms l.s))) (trees l.fn.terms (drop l.i (args_at l.fn.terms l.t))))
