use Rattle.std.proofs.Common.{drop, map}
use Rattle.spv_term.specs.Arena.{tree}
use Rattle.spv_atoms.specs.Atoms.{is_truth}
use Rattle.spv_verdicts.specs.Verdicts.{with_all_atoms}
use Rattle.spv_verdicts.proofs.model_check.LoopLemmas.{AddingAtoms}
use Rattle.spv_verdicts.proofs.model_check.evaluating.add_atoms.Given as goal

abbrev pub invariant-loop-f : goal.invariant-loop-f
invariant-loop-f l =
    AddingAtoms l.terms l.out.items (map (tree l.terms) (drop l.f-index l.fs)) (with_all_atoms (is_truth l.terms.shapes l.terms.decls) (map (tree l.terms) l.fn.out.items) (map (tree l.terms) l.fs))
