use Rattle.std.proofs.Common.{List, length, map, refl, sym, ap, ◌∙◌, subst}
use Rattle.std.specs.List.{flat_map}
use Rattle.spv_logic.specs.declared.conditions.TermId.{TermId}
use Rattle.spv_term.specs.Arena.{AllBelow, tree}
use Rattle.spv_atoms.specs.Atoms.{is_truth, with_terms}
use Rattle.spv_search_terms.specs.split_candidates.Adding.{asked_of}
use Rattle.spv_search_terms.proofs.split_candidates.asking.with_questions.Goals as goal

pub add_questions-requires-clause-found : goal.add_questions-requires-clause-found
add_questions-requires-clause-found c = subst (AllBelow (length c.args.terms.now.nodes)) (sym c.as_slice-2.ensures) c.requires.subterms

pub returns : goal.returns
returns c = record {
  subterms = refl;
  listed = refl;
  are_atoms = c.in_ok-atoms.ensures ∙ c.as_slice.ensures;
  questions =
      c.in_ok-add_questions.ensures.asked
      ∙ ap (λ (us : List TermId). with_terms (map (tree c.args.terms.now) c.args.atoms) (flat_map (asked_of (is_truth c.args.terms.now.shapes c.args.terms.now.decls)) (map (tree c.args.terms.now) us))) c.as_slice-2.ensures;
  in_range = c.in_ok-add_questions.ensures.in_range;
}
