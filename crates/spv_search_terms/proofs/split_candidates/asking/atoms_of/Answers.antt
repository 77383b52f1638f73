use Rattle.std.proofs.Common.{length, sym, ap, subst}
use Rattle.std.specs.Prelude.{Err}
use Rattle.spv_term.specs.declared.nodes.TermFault.TheVariants.{Size}
use Rattle.spv_term.specs.Arena.{AllBelow}
use Rattle.spv_search_terms.proofs.split_candidates.EquationLemmas.{same_fault}
use Rattle.spv_search_terms.proofs.split_candidates.AskLemmas.{are_equated, equated_stops}
use Rattle.spv_search_terms.proofs.split_candidates.asking.atoms_of.Goals as goal

pub add_atoms-requires-clause-found : goal.add_atoms-requires-clause-found
add_atoms-requires-clause-found c = subst (AllBelow (length c.args.terms.now.nodes)) (sym c.as_slice-found.ensures) c.requires.gathered.in_range

pub equate_all-requires-clause-found : goal.equate_all-requires-clause-found
equate_all-requires-clause-found c = subst (AllBelow (length c.args.terms.now.nodes)) (sym c.as_slice-found.ensures) c.requires.gathered.in_range

pub returns-in_err-equate_all-clause-size : goal.returns-in_err-equate_all-clause-size
returns-in_err-equate_all-clause-size c =
    λ is.
    equated_stops c.args.terms.now c.args.condition.now c.args.gathered.now c.as_slice-found.result.now c.requires.gathered c.as_slice-found.ensures
    (c.in_err-equate_all.ensures.size (ap Err (same_fault c.in_err-equate_all.field-0.0 c.from_residual-in_err-equate_all.result c.from_residual-in_err-equate_all.ensures.1 Size is)))

pub returns-clause-atoms : goal.returns-clause-atoms
returns-clause-atoms c =
    are_equated c.args.terms.now c.args.condition.now c.equate_all.new.terms c.args.gathered.now c.as_slice-found.result.now c.new-out.result c.add_atoms.new.out c.equate_all.new.out c.requires.gathered c.as_slice-found.ensures c.new-out.ensures
    c.in_ok-add_atoms.ensures.atoms c.in_ok-equate_all.ensures.gains
