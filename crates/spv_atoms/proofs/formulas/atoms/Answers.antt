use Rattle.spv_term.specs.Arena.{tree}
use Rattle.spv_atoms.proofs.Walks.{on_ok}
use Rattle.spv_atoms.proofs.Adding.{all_added}
use Rattle.spv_atoms.proofs.formulas.atoms.Goals as goal

pub returns-clause-atoms : goal.returns-clause-atoms
returns-clause-atoms c =
    on_ok c.add_atoms.result _ _ c.add_atoms.ensures.atoms
    (all_added c.args.terms.now c.law_arena.ensures c.args.out.now.items c.in_ok-found.found c.as_slice-2.result.now c.add_atoms.new.out.items (tree c.args.terms.now c.args.f) c.as_slice-2.ensures c.in_ok-found.ensures.order)
