use Rattle.std.proofs.Common.{◌&&◌, ◌<◌, length, map, sym, ap, subst, ◌∙◌}
use Rattle.spv_logic.specs.Terms.{term_eq}
use Rattle.spv_term.specs.Arena.{AllBelow, tree}
use Rattle.spv_rechecking.specs.Rechecked.{terms_eq}
use Rattle.spv_rechecking.specs.Made.{images_at}
use Rattle.spv_rechecking.proofs.ConvertLemmas.{image_inside, images_inside, images_terms}
use Rattle.spv_rechecking.proofs.rechecking.is_same.Goals as goal

pub same_claim-requires-clause-given : goal.same_claim-requires-clause-given
same_claim-requires-clause-given c =
    subst (AllBelow (length c.args.terms.now.nodes)) (sym (c.as_slice.ensures.value ∙ (c.in_ok-ids.ensures ∙ ap (images_at c.args.images.now) c.as_slice-places.ensures)))
    (images_inside c.args.terms.now c.args.images.now c.requires.images c.args.claim.now.given c.requires.placed_given)

pub same_claim-requires-clause-goal : goal.same_claim-requires-clause-goal
same_claim-requires-clause-goal c =
    subst (λ t. t.0 < length c.args.terms.now.nodes) (sym c.id_at-goal.ensures) (image_inside c.args.terms.now c.args.images.now c.requires.images c.args.claim.now.goal c.requires.placed_goal)

pub returns : goal.returns
returns c =
    c.same_claim.ensures
    ∙ (λ i.
    terms_eq
    ((ap (map (tree c.args.terms.now)) (c.as_slice.ensures.value ∙ (c.in_ok-ids.ensures ∙ ap (images_at c.args.images.now) c.as_slice-places.ensures))
    ∙ images_terms c.args.terms.now c.args.images.now c.requires.images c.args.claim.now.given) i) (map (tree c.args.terms.now) (c.as_slice-own.ensures i))
    && term_eq (tree c.args.terms.now (c.id_at-goal.ensures i)) (tree c.args.terms.now c.args.condition.now.goal))
