use Rattle.std.proofs.Common.{List, [], ◌∷◌, ◌++◌, length, sym, ap, subst, ◌∙◌}
use Rattle.spv_logic.specs.declared.conditions.TermId.{TermId}
use Rattle.spv_term.specs.Arena.{AllBelow}
use Rattle.spv_term.proofs.TreeLemmas.{AllBelow-append}
use Rattle.spv_rounds.proofs.calling.finding.used_terms.Goals as goal

pub subterms-requires : goal.subterms-requires
subterms-requires c =
    let n = length c.args.s.now.terms.nodes in
    subst (AllBelow n) (sym (c.as_slice-3.ensures.value ∙ c.in_ok-extend_from_slice-2.ensures.items ∙ (λ i. (c.in_ok-push.ensures.items ∙ ap (λ (ts : List TermId). ts ++ c.args.s.now.condition.goal ∷ []) (c.in_ok-extend_from_slice.ensures.items ∙ (λ j. c.new-roots.ensures.items j ++ c.as_slice.ensures j))) i ++ c.as_slice-2.ensures i)))
    (AllBelow-append n (c.args.s.now.condition.given ++ c.args.s.now.condition.goal ∷ []) c.args.s.now.formulas (AllBelow-append n c.args.s.now.condition.given (c.args.s.now.condition.goal ∷ []) c.requires.given (c.requires.goal, tt)) c.requires.formulas)
