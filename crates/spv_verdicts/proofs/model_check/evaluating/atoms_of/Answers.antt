use Rattle.std.proofs.Common.{[], map, sym, ap, ◌∙◌}
use mathlib.Core.Path.{ap₂}
use Rattle.spv_term.specs.Arena.{tree}
use Rattle.spv_atoms.specs.Atoms.{is_truth, with_atoms}
use Rattle.spv_verdicts.specs.Verdicts.{with_all_atoms}
use Rattle.spv_verdicts.proofs.model_check.AtomLemmas.{atoms-more}
use Rattle.spv_verdicts.proofs.model_check.evaluating.atoms_of.Goals as goal

pub returns-clause-atoms : goal.returns-clause-atoms
returns-clause-atoms c =
    c.in_ok-atoms.ensures.atoms
    ∙ (ap (λ known. with_atoms (is_truth c.args.terms.now.shapes c.args.terms.now.decls) known (tree c.args.terms.now c.args.condition.now.goal))
    (c.in_ok-add_atoms.ensures.atoms
    ∙ ap₂ (λ fs gs. with_all_atoms (is_truth c.args.terms.now.shapes c.args.terms.now.decls) (map (tree c.args.terms.now) fs) (map (tree c.args.terms.now) gs)) c.new-found.ensures.items c.as_slice.ensures)
    ∙ sym (atoms-more (is_truth c.args.terms.now.shapes c.args.terms.now.decls) [] (map (tree c.args.terms.now) c.args.condition.now.given) (tree c.args.terms.now c.args.condition.now.goal)))
