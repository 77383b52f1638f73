use Rattle.std.proofs.Common.{sym, subst, List, ℤ}
use Rattle.spv_logic.specs.declared.conditions.TermId.{TermId}
use Rattle.spv_atoms.proofs.Sums.{Summing, summing_starts, left-narrow}
use Rattle.spv_proof.specs.sums.Differences.{negated_parts}
use Rattle.spv_proof.proofs.sums.Negated.{negated-from, differing_less, differing_step, differing_wide, right_is}
use Rattle.spv_proof.proofs.sums.difference.part_differences.Goals as goal

pub loop-t-init : goal.loop-t-init
loop-t-init c =
    subst (λ (out : List (TermId × ℤ)). Summing c.args.left.now (negated_parts c.args.right.now) out c.args.left.now (negated_parts c.args.right.now)) (sym c.new-parts.ensures.items)
    (summing_starts c.args.left.now (negated_parts c.args.right.now) c.requires.left (negated-from 0 c.args.right.now c.requires.right))

pub returns-in_default-minus : goal.returns-in_default-minus
returns-in_default-minus c =
    differing_wide c.args.left.now c.args.right.now c.loop-t.parts.items c.loop-t.left_rest.now c.loop-t.right_rest.now c.loop-t.invariant c.in-Some.t _ _ c.in-Some.ensures
    (left-narrow c.args.left.now (negated_parts c.args.right.now) c.loop-t.parts.items c.loop-t.left_rest.now (negated_parts c.loop-t.right_rest.now) c.loop-t.invariant c.in-Some.t c.number_in_front.result c.number_in_front.ensures)
    (right_is c.args.left.now c.args.right.now c.loop-t.parts.items c.loop-t.left_rest.now c.loop-t.right_rest.now c.loop-t.invariant c.in-Some.t c.number_in_front-in-Some.result c.number_in_front-in-Some.ensures)
    c.in_default-minus.ensures

pub loop-t-smaller : goal.loop-t-smaller
loop-t-smaller c =
    differing_less c.args.left.now c.args.right.now c.loop-t.parts.items c.loop-t.left_rest.now c.loop-t.right_rest.now c.loop-t.invariant c.in-Some.t
    c.behind-left_rest.result.now c.behind-right_rest.result.now c.in-Some.ensures c.behind-left_rest.ensures c.behind-right_rest.ensures

pub loop-t-preserved : goal.loop-t-preserved
loop-t-preserved c =
    differing_step c.args.left.now c.args.right.now c.loop-t.parts.items c.loop-t.left_rest.now c.loop-t.right_rest.now c.loop-t.invariant c.in-Some.t _ _
    c.in-Some-minus.number c.push_number.new.parts.items c.behind-left_rest.result.now c.behind-right_rest.result.now c.in-Some.ensures
    (left-narrow c.args.left.now (negated_parts c.args.right.now) c.loop-t.parts.items c.loop-t.left_rest.now (negated_parts c.loop-t.right_rest.now) c.loop-t.invariant c.in-Some.t c.number_in_front.result c.number_in_front.ensures)
    (right_is c.args.left.now c.args.right.now c.loop-t.parts.items c.loop-t.left_rest.now c.loop-t.right_rest.now c.loop-t.invariant c.in-Some.t c.number_in_front-in-Some.result c.number_in_front-in-Some.ensures)
    c.in-Some-minus.ensures c.in_ok-push_number.ensures c.behind-left_rest.ensures c.behind-right_rest.ensures
