use Rattle.spv_whole.proofs.Ring.{nonzero_abs}
use Rattle.spv_frac.proofs.Opened.{opened}
use Rattle.spv_frac.proofs.Turned.{swapped_negative, swapped_positive, positive_from, negative_from, not_negative_from}
use Rattle.spv_frac.proofs.frac.Frac.reciprocal.Goals as goal

pub invariant_of-result : goal.invariant_of-result
invariant_of-result c = swapped_negative c.args.self _ _ (opened _ _ c.args.self c.self.view_is c.self.invariant) (negative_from _ c.if-self-lt0.true)

pub invariant_of-result-2 : goal.invariant_of-result-2
invariant_of-result-2 c =
    let o = opened _ _ c.args.self c.self.view_is c.self.invariant in
    swapped_positive c.args.self _ _ o (positive_from _ c.args.self.num o.num_kept (not_negative_from _ c.if-self-lt0.false) (nonzero_abs c.args.self.num c.requires))
