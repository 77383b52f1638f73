use Rattle.std.proofs.Common.{subst}
use Rattle.spv_verify.specs.tree_reports.Walks.{IsFrameCause}
use Rattle.spv_verify.proofs.tree_reports.Causes.{frame_walk_cause}
use Rattle.spv_verify.proofs.tree_reports.walks.sound_program.Goals as goal

pub returns-in-Err-check_frames-clause-cause : goal.returns-in-Err-check_frames-clause-cause
returns-in-Err-check_frames-clause-cause c =
    frame_walk_cause c.args.names.now c.args.tree.now c.in-Ok.program c.in-Err-check_frames.fault c.in-Ok.ensures.typed
    (subst (λ p. IsFrameCause c.args.names.now p c.in-Err-check_frames.fault) c.program-2.ensures c.in-Err-check_frames.ensures.cause)
