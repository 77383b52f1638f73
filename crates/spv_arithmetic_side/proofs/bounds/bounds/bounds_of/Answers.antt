use Rattle.std.proofs.Common.{refl, pos, neg_ℤ, ◌+ℤ◌, ◌∙◌, ap}
use Rattle.spv_tableau_rules.specs.declared.tableaux.side.Side.TheVariants.{Lower, Upper}
use Rattle.spv_tableau_rules.specs.declared.constraints.saying.RowConstraint.TheVariants.{Equal, Below, AtMost, Above, AtLeast}
use Rattle.spv_arithmetic_side.proofs.bounds.Stating.{room_fits, opposite_of, next_of, value_of, one_bound, two_bounds}
use Rattle.spv_arithmetic_side.proofs.bounds.bounds.bounds_of.Goals as goal

pub returns-in-Equal : goal.returns-in-Equal
returns-in-Equal c =
    let k = c.args.constant in
    two_bounds _ _ (value_of c.whole-bound.result c.opposite.result (neg_ℤ k) c.whole-bound.ensures c.opposite.ensures.fits (opposite_of k c.opposite.result (room_fits k c.requires) c.opposite.ensures.value))
    Equal c.args.saying c.in-Equal.is k (λ row. refl)

pub returns-in-Below : goal.returns-in-Below
returns-in-Below c =
    let k = c.args.constant in
    one_bound Upper _ _ (value_of c.whole.result c.opposite-in-Below.result (neg_ℤ (k +ℤ pos 1)) c.whole.ensures c.opposite-in-Below.ensures.fits
    (opposite_of c.next.result c.opposite-in-Below.result c.next.ensures.fits c.opposite-in-Below.ensures.value ∙ ap neg_ℤ (next_of k c.next.result (room_fits k c.requires) c.next.ensures.value)))
    Below c.args.saying c.in-Below.is k (λ row. refl)

pub returns-in-AtMost : goal.returns-in-AtMost
returns-in-AtMost c =
    let k = c.args.constant in
    one_bound Upper _ _ (value_of c.whole-in-AtMost.result c.opposite-in-AtMost.result (neg_ℤ k) c.whole-in-AtMost.ensures c.opposite-in-AtMost.ensures.fits
    (opposite_of k c.opposite-in-AtMost.result (room_fits k c.requires) c.opposite-in-AtMost.ensures.value))
    AtMost c.args.saying c.in-AtMost.is k (λ row. refl)

pub returns-in-Above : goal.returns-in-Above
returns-in-Above c =
    let k = c.args.constant in
    one_bound Lower _ _ (value_of c.whole-in-Above.result c.next-in-Above.result (neg_ℤ k +ℤ pos 1) c.whole-in-Above.ensures c.next-in-Above.ensures.fits
    (next_of c.opposite-in-Above.result c.next-in-Above.result c.opposite-in-Above.ensures.fits c.next-in-Above.ensures.value
    ∙ ap (λ z. z +ℤ pos 1) (opposite_of k c.opposite-in-Above.result (room_fits k c.requires) c.opposite-in-Above.ensures.value)))
    Above c.args.saying c.in-Above.is k (λ row. refl)

pub returns-in-AtLeast : goal.returns-in-AtLeast
returns-in-AtLeast c =
    let k = c.args.constant in
    one_bound Lower _ _ (value_of c.whole-in-AtLeast.result c.opposite-in-AtLeast.result (neg_ℤ k) c.whole-in-AtLeast.ensures c.opposite-in-AtLeast.ensures.fits
    (opposite_of k c.opposite-in-AtLeast.result (room_fits k c.requires) c.opposite-in-AtLeast.ensures.value))
    AtLeast c.args.saying c.in-AtLeast.is k (λ row. refl)
