use Rattle.std.proofs.Common.{ap, length}
use Rattle.spv_trail.proofs.backtracking.Marking.{mark_now, last_mark}
use Rattle.spv_trail.proofs.backtracking.path.BranchTrail.mark.Goals as goal

pub returns-clause-mark : goal.returns-clause-mark
returns-clause-mark c =
    λ cases h. mark_now c.args.terms.now c.args.condition.now c.args.self.now c.len.result _ c.mark.result c.len.ensures (ap length c.as_slice.ensures.value) cases h c.mark.ensures.level c.mark.ensures.claims

pub returns-clause-last : goal.returns-clause-last
returns-clause-last c =
    λ cases m h. last_mark c.args.terms.now c.args.condition.now c.args.self.now c.len.result _ c.mark.result c.len.ensures (ap length c.as_slice.ensures.value) cases m c.mark.ensures.last h
